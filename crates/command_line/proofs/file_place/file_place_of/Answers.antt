use Rattle.std.proofs.Common.{refl, sym}
use Rattle.command_line.specs.FilePlaces.{file_place_of}
use Rattle.command_line.proofs.file_place.file_place_of.Goals as goal

pub returns-in-Some : goal.returns-in-Some
unfolding file_place_of
returns-in-Some c = record { is = rw (sym c.in-Some.ensures) refl }

pub returns-in-None : goal.returns-in-None
unfolding file_place_of
returns-in-None c = record { is = rw (sym c.in-None.ensures) c.partition_place.ensures }
