use Rattle.std.proofs.Common.{refl}
use Rattle.stack_files.proofs.disk.make_room.Goals as goal

pub returns-then-grow-clause-ok : goal.returns-then-grow-clause-ok
returns-then-grow-clause-ok g c = rw c.if-grow.true c.grow_file.ensures.ok

pub returns-then-grow-clause-err : goal.returns-then-grow-clause-err
returns-then-grow-clause-err g c = rw c.if-grow.true c.grow_file.ensures.err

pub returns-clause-ok : goal.returns-clause-ok
returns-clause-ok g c = rw c.if-grow.false refl
