use Rattle.std.proofs.Common.{refl}
use Rattle.stack_files.proofs.resolving.resolve_partition.Goals as goal

pub returns-in-Ok-clause-ok : goal.returns-in-Ok-clause-ok
returns-in-Ok-clause-ok g c = record { at = c.in-Ok.part; found = c.in-Ok.ensures.ok; is = refl }

pub returns-in-Err-clause-err : goal.returns-in-Err-clause-err
returns-in-Err-clause-err g c = record { path_is = refl; cause = c.in-Err.ensures.err }
