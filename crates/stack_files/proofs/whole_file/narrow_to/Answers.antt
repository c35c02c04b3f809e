use Rattle.std.proofs.Common.{refl}
use Rattle.stack_files.proofs.whole_file.narrow_to.Goals as goal

pub narrow-requires : goal.narrow-requires
narrow-requires g c = rw c.in-Some.is at c.requires

pub returns-in-Some : goal.returns-in-Some
returns-in-Some g c = rw c.in-Some.is (record { narrows = c.narrow.ensures.narrowed; is = c.narrow.ensures.part })

pub returns-in-None : goal.returns-in-None
returns-in-None g c = rw c.in-None.is (refl, refl)
