use Rattle.std.proofs.Common.{refl, sym}
use Rattle.command_line.specs.FilePlaces.{named_partition}
use Rattle.command_line.proofs.file_place.named_partition.Goals as goal

pub returns-in-Some : goal.returns-in-Some
unfolding named_partition
returns-in-Some c = rw (sym c.in-Some.ensures) refl

pub returns-in-None : goal.returns-in-None
unfolding named_partition
returns-in-None c = rw (sym c.in-None.ensures) c.uuid_or_label.ensures
