use Rattle.std.proofs.Common.{refl, sym}
use Rattle.command_line.specs.FilePlaces.{uuid_or_label}
use Rattle.command_line.proofs.file_place.uuid_or_label.Goals as goal

pub returns-in-Some : goal.returns-in-Some
unfolding uuid_or_label
returns-in-Some c = rw (sym c.in-Some.ensures) refl

pub returns-in-None : goal.returns-in-None
unfolding uuid_or_label
returns-in-None c = rw (sym c.in-None.ensures) c.partition_label.ensures
