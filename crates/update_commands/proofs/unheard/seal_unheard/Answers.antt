use Rattle.std.proofs.Common.{inl, inr, refl}
use Rattle.update_commands.proofs.unheard.seal_unheard.Goals as goal

pub returns-in-Ok : goal.returns-in-Ok
returns-in-Ok g c = inl (refl, c.in-Ok.ensures.ok)

pub returns-in-Err : goal.returns-in-Err
returns-in-Err g c = inr (refl, c.in-Err.ensures.err)
