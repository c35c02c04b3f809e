use Rattle.std.proofs.Common.{refl}
use Rattle.assemble_commands.proofs.filling.grow_disk.Goals as goal

pub returns-in-Err-clause-err : goal.returns-in-Err-clause-err
returns-in-Err-clause-err g c = (_, refl, record { path_is = refl; failed = c.in-Err.ensures })
