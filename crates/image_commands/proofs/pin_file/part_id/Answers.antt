use Rattle.std.proofs.Common.{refl, sym}
use Rattle.image_commands.proofs.pin_file.part_id.Goals as goal

pub returns-in-Some : goal.returns-in-Some
returns-in-Some g c = rw (sym c.in-Some.ensures.is) c.file_id.ensures

pub returns-in-None : goal.returns-in-None
returns-in-None g c = rw (sym c.in-None.ensures.is) (refl, refl)
