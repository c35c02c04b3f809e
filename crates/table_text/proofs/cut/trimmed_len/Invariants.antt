use Rattle.std.proofs.Common.{◌≡◌, ℕ, ◌<◌, ◌≤◌, true, length, get_or}
use Rattle.dm_table.specs.Words.{is_white}
use Rattle.table_text.proofs.cut.trimmed_len.Given as goal

abbrev pub invariant-bytes : goal.invariant-bytes
invariant-bytes l = (l.«end» ≤ length l.text) × ((k : ℕ) → l.«end» ≤ k → k < length l.text → is_white (get_or l.text k 0) ≡ true)

abbrev pub decreases-bytes : goal.decreases-bytes
decreases-bytes l = l.«end»
