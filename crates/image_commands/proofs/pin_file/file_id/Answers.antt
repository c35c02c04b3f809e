use Rattle.std.proofs.Common.{inl, refl}
use Rattle.image_commands.proofs.pin_file.file_id.Goals as goal

pub returns-in-Ok : goal.returns-in-Ok
returns-in-Ok g c = inl (c.in-Ok.text, c.in-Ok.ensures.told, refl)
