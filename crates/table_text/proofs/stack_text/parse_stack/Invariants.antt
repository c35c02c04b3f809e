use Rattle.std.proofs.Common.{◌≡◌, ◌+◌, ◌^◌, ◌<◌, ◌≤◌, length, All}
use Rattle.dm_table.specs.Words.{entries_of}
use Rattle.dm_table.specs.StackText.{entries_from}
use Rattle.table_text.proofs.ReadLemmas.{after}
use Rattle.table_text.proofs.stack_text.parse_stack.Given as goal

abbrev pub invariant-entries : goal.invariant-entries
invariant-entries l =
    (l.number + length l.texts < 2 ^ 32)
    × (entries_from 1 (entries_of l.text) ≡ after l.entries.items (entries_from (l.number + 1) l.texts))
    × All (λ piece. length piece ≤ length l.text) l.texts

abbrev pub decreases-entries : goal.decreases-entries
decreases-entries l = length l.texts
