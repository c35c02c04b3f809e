use Rattle.std.proofs.Common.{◌≡◌, ℕ, ◌<◌, false, get_or}
use Rattle.dm_table.specs.Words.{is_white}
use Rattle.table_text.proofs.cut.word_len.Given as goal

abbrev pub invariant-bytes : goal.invariant-bytes
invariant-bytes l = (k : ℕ) → k < l.at → is_white (get_or l.text k 0) ≡ false
