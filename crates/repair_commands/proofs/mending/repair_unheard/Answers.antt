use Rattle.std.proofs.Common.{None, Some, refl}
use Rattle.repair_commands.proofs.mending.repair_unheard.Goals as goal

pub returns-in-Ok : goal.returns-in-Ok
returns-in-Ok g c = record { ended = None; run = c.in-Ok.ensures.looked; is = refl }

pub returns-in-Err : goal.returns-in-Err
returns-in-Err g c = record { ended = Some c.in-Err.fault; run = c.in-Err.ensures.err; is = refl }
