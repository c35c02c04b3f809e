use Rattle.std.proofs.lemmas.Result.{IfErr-weaker, IfOk-weaker}
use Rattle.stack_files.proofs.resolving.resolve_backing.Goals as goal

pub returns-in-Partition-clause-ok : goal.returns-in-Partition-clause-ok
returns-in-Partition-clause-ok g c = rw c.in-Partition.is (IfOk-weaker c.resolve_partition.result _ _ (λ resolved found. found) c.resolve_partition.ensures.ok)

pub returns-in-Partition-clause-err : goal.returns-in-Partition-clause-err
returns-in-Partition-clause-err g c = rw c.in-Partition.is (IfErr-weaker c.resolve_partition.result _ _ (λ unopened fails. fails) c.resolve_partition.ensures.err)
