use Rattle.std.proofs.Common.{◌≡◌, length}
use Rattle.command_line.specs.FormatOptions.{texts_of}
use Rattle.command_line.specs.ImageCopies.{copies_in_pairs}
use Rattle.command_line.proofs.ImageCopyLemmas.{behind}
use Rattle.command_line.proofs.image_copies.copies_in_pairs.Given as goal

-- what the words say is the copies so far, and what the words after them say
abbrev pub invariant-pairs : goal.invariant-pairs
invariant-pairs l = record { said : copies_in_pairs (texts_of l.words) ≡ behind l.copies.items (copies_in_pairs (texts_of l.rest)) }

abbrev pub decreases-pairs : goal.decreases-pairs
decreases-pairs l = length l.rest
