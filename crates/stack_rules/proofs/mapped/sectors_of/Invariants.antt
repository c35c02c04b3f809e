use Rattle.std.proofs.Common.{◌≡◌, ◌≤◌, ◌*◌, ◌^◌, take}
use Rattle.stack_rules.specs.Names.{table_sectors}
use Rattle.stack_rules.proofs.mapped.sectors_of.Given as goal

abbrev pub invariant-loop-line : goal.invariant-loop-line
invariant-loop-line l = (l.sectors ≡ table_sectors (take l.line-index l.lines)) × (l.sectors ≤ l.line-index * 2 ^ 64)
