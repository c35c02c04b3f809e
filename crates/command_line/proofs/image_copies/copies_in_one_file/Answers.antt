use Rattle.std.proofs.Common.{map, ap, ◌∙◌}
use Rattle.std.proofs.lemmas.List.{take_all}
use Rattle.command_line.specs.ImageCopies.{one_file}
use Rattle.command_line.proofs.ImageCopyLemmas.{one-files}
use Rattle.command_line.proofs.image_copies.copies_in_one_file.Goals as goal

pub returns-clause-ok : goal.returns-clause-ok
returns-clause-ok c =
    c.words.invariant ∙ (ap (map (λ word. one_file word.now)) (take_all c.words.word-index c.args.words.now c.words-test.false) ∙ one-files c.args.words.now)
