use Rattle.std.proofs.Common.{◌≡◌, map, take}
use Rattle.command_line.specs.ImageCopies.{image_copy_record, one_file}
use Rattle.command_line.proofs.image_copies.copies_in_one_file.Given as goal

-- the copies so far are those of the words so far
abbrev pub invariant-words : goal.invariant-words
invariant-words l = map image_copy_record l.copies.items ≡ map (λ word. one_file word.now) (take l.word-index l.words)
