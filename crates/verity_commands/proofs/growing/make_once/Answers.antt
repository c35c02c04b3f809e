use Rattle.verity_commands.proofs.growing.make_once.Goals as goal

pub returns-then-bare-clause-ok : goal.returns-then-bare-clause-ok
returns-then-bare-clause-ok g c = rw c.if-bare.true c.make_tree.ensures.ok

pub returns-then-bare-clause-err : goal.returns-then-bare-clause-err
returns-then-bare-clause-err g c = rw c.if-bare.true c.make_tree.ensures.err

pub returns-clause-ok : goal.returns-clause-ok
returns-clause-ok g c = rw c.if-bare.false c.make_placed.ensures.ok

pub returns-clause-err : goal.returns-clause-err
returns-clause-err g c = rw c.if-bare.false c.make_placed.ensures.err
