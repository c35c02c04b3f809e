use Rattle.std.proofs.Common.{◌≡◌, ◌++◌, take, flat_map}
use Rattle.table_text.specs.Print.{base_words, spaced_word}
use Rattle.table_text.proofs.print.print_bases.Given as goal

abbrev pub invariant-loop-base : goal.invariant-loop-base
invariant-loop-base l = l.text.items ≡ l.fn.text.items ++ flat_map spaced_word (flat_map base_words (take l.base-index l.bases))
