-- The last line that starts at or before a sector.
use Rattle.std.specs.Prelude.{ℕ, ◌+◌, ◌<◌, List, length}
use Rattle.dm_table.specs.declared.table.Line.{Line}
use Rattle.stack_rules.specs.Lines.{StartsBy, StartsAfter}

-- line l is the last line that starts at or before sector s
pub record IsLastStart (lines : List Line) (s l : ℕ) : Type 0 where
  pub within : l < length lines
  pub starts : StartsBy lines l s
  pub next : StartsAfter lines (l + 1) s
