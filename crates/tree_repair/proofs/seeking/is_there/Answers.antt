use Rattle.std.proofs.Common.{refl}
use Rattle.std.specs.Prelude.{true, false}
use Rattle.tree_repair.proofs.seeking.is_there.Goals as goal

pub returns-in-Ok-clause-called : goal.returns-in-Ok-clause-called
returns-in-Ok-clause-called g c = (true, (c.read.new.self, c.in-Ok.ensures.call, refl))

pub returns-in-Err-clause-called : goal.returns-in-Err-clause-called
returns-in-Err-clause-called g c = (false, (c.read.new.self, c.in-Err.ensures.call, refl))
