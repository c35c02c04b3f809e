use Rattle.std.proofs.Common.{inl, inr, refl}
use Rattle.image_commands.proofs.pin_file.place_id.Goals as goal

pub returns-in-Ok : goal.returns-in-Ok
returns-in-Ok g c = inl (c.in-Ok.found, c.in-Ok.ensures.told, refl)

pub returns-in-Err : goal.returns-in-Err
returns-in-Err g c = inr (c.read_text.new.self, (c.in-Err.field-0, (c.in-Err.ensures.told, c.part_id.ensures)))
