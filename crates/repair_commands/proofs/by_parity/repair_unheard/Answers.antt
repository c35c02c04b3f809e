use Rattle.std.proofs.Common.{None, Some, refl}
use Rattle.repair_commands.proofs.by_parity.repair_unheard.Goals as goal

pub returns-in-Ok-clause-ended : goal.returns-in-Ok-clause-ended
returns-in-Ok-clause-ended g c = record { ended = None; run = record { repairs = c.in-Ok.ensures.ok; sought = c.in-Ok.ensures.sought }; is = refl }

pub returns-in-Err-clause-ended : goal.returns-in-Err-clause-ended
returns-in-Err-clause-ended g c = record { ended = Some c.in-Err.fault; run = c.in-Err.ensures.err; is = refl }
