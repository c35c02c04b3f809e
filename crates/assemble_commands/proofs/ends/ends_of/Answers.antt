use Rattle.assemble_commands.proofs.ends.ends_of.Goals as goal

pub returns-then-plan-clause-front : goal.returns-then-plan-clause-front
returns-then-plan-clause-front c =
    rw c.if-plan.true
    (rw c.identifier-id.ensures at (rw c.data_partition-data.ensures at (rw c.hash_partition-hash.ensures at (rw c.parity_partition-parity.ensures at c.table_ends.ensures.front))))

pub returns-clause-front : goal.returns-clause-front
returns-clause-front c = rw c.if-plan.false (rw c.identifier-id.ensures at (rw c.data_partition-data.ensures at (rw c.hash_partition-hash.ensures at c.table_ends-2.ensures.front)))

pub returns-then-plan-clause-back : goal.returns-then-plan-clause-back
returns-then-plan-clause-back c =
    rw c.if-plan.true
    (rw c.identifier-id.ensures at (rw c.data_partition-data.ensures at (rw c.hash_partition-hash.ensures at (rw c.parity_partition-parity.ensures at c.table_ends.ensures.back))))

pub returns-clause-back : goal.returns-clause-back
returns-clause-back c = rw c.if-plan.false (rw c.identifier-id.ensures at (rw c.data_partition-data.ensures at (rw c.hash_partition-hash.ensures at c.table_ends-2.ensures.back)))
