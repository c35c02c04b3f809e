use Rattle.std.proofs.Common.{◌≡◌, false, length, map}
use Rattle.dm_table.specs.Options.{value_of}
use Rattle.table_text.proofs.option_words.value_of.Given as goal

abbrev pub invariant-words : goal.invariant-words
invariant-words l = value_of (map (λ word. word.now) l.valued) l.name false l.fn.words ≡ value_of (map (λ word. word.now) l.valued) l.name false l.words

abbrev pub decreases-words : goal.decreases-words
decreases-words l = length l.words
