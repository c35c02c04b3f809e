use Rattle.std.proofs.Common.{◌≡◌, take}
use Rattle.dm_table.proofs.table.Table.try_clone.Given as goal

abbrev pub invariant-loop-line : goal.invariant-loop-line
invariant-loop-line l = l.lines.items ≡ take l.line-index l.line-items
