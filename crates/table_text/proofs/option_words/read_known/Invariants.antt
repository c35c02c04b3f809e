use Rattle.std.proofs.Common.{◌≡◌, ◌++◌, true, false, length, map}
use Rattle.dm_table.specs.Options.{are_options, option_names}
use Rattle.table_text.proofs.option_words.read_known.Given as goal

abbrev pub invariant-words : goal.invariant-words
invariant-words l = (option_names (map (λ word. word.now) l.valued) false l.fn.words ≡ l.options ++ option_names (map (λ word. word.now) l.valued) false l.words) × (are_options (map (λ word. word.now) l.known) l.options ≡ true)

abbrev pub decreases-words : goal.decreases-words
decreases-words l = length l.words
