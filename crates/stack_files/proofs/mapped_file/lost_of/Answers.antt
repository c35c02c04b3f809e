use Rattle.std.proofs.Common.{arith, refl}
use Rattle.stack_files.proofs.mapped_file.lost_of.Goals as goal

pub returns-in-Err-clause-err : goal.returns-in-Err-clause-err
returns-in-Err-clause-err c = (refl, (c.in-Err.field-0.asked, omega (arith, c.in-Err.ensures.err), c.in-Err.field-0.refused))
