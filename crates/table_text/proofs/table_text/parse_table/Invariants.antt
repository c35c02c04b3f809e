use Rattle.std.proofs.Common.{◌≡◌, ◌+◌, ◌^◌, ◌<◌, length}
use Rattle.dm_table.specs.Words.{text_lines}
use Rattle.dm_table.specs.TableText.{table_lines}
use Rattle.table_text.proofs.ReadLemmas.{after}
use Rattle.table_text.proofs.table_text.parse_table.Given as goal

abbrev pub invariant-lines : goal.invariant-lines
invariant-lines l =
    (l.number + length l.texts < 2 ^ 32)
    × (table_lines 1 (text_lines l.text) ≡ after l.lines.items (table_lines (l.number + 1) l.texts))

abbrev pub decreases-lines : goal.decreases-lines
decreases-lines l = length l.texts
