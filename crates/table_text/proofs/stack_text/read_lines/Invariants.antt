use Rattle.std.proofs.Common.{◌≡◌, ◌+◌, ◌^◌, ◌<◌, ◌∷◌, length}
use Rattle.dm_table.specs.StackText.{entry_lines}
use Rattle.table_text.proofs.ReadLemmas.{after}
use Rattle.table_text.proofs.stack_text.read_lines.Given as goal

abbrev pub invariant-lines : goal.invariant-lines
invariant-lines l =
    (l.line + length l.fields < 2 ^ 32)
    × (entry_lines l.number 1 (l.first ∷ l.fn.fields) ≡ after l.lines.items (entry_lines l.number (l.line + 1) l.fields))

abbrev pub decreases-lines : goal.decreases-lines
decreases-lines l = length l.fields
