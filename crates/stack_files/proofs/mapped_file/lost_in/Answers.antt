use Rattle.std.proofs.Common.{refl}
use Rattle.stack_files.proofs.mapped_file.lost_in.Goals as goal

pub returns-in-Err-clause-err : goal.returns-in-Err-clause-err
returns-in-Err-clause-err c = record { path_is = refl; cause = c.in-Err.ensures.err }
