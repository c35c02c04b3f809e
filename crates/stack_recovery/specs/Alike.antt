-- Sectors that are lost together.
use Rattle.std.specs.Prelude.{◌≡◌, ℕ, ◌+◌, ◌-◌, ◌%◌, ◌<◌, ◌≤◌, Some, Err}
use Rattle.dm_table.specs.declared.table.Line.{Line}
use Rattle.dm_table.specs.declared.table.Target.{Target}
use Rattle.dm_table.specs.declared.table.Target.TheVariants.{Error, Verity}
use Rattle.stack_rules.specs.Lines.{line_at}
use Rattle.stack_rules.specs.Names.{mapped}
use Rattle.stack_rules.specs.Records.{Configuration}
use Rattle.stack_rules.specs.Trees.{block_sectors}
use Rattle.stack_meaning.specs.Meaning.{sector}
use Rattle.stack_meaning.specs.declared.fault.Fault.{Fault}
use Rattle.stack_meaning.specs.Outcomes.{Images}

-- n sectors of a line from its sector w on are lost together: the sectors of an `error` line, of one data block of a verity
-- line, or one sector of another line
abbrev pub AreLostTogether : Target → ℕ → ℕ → Type 0
AreLostTogether Error w n = Unit {0}
AreLostTogether (Verity v) w n = w % block_sectors v + n ≤ block_sectors v
AreLostTogether target w n = n ≤ 1

-- n sectors of device d from the first on are in one line, and lost together. If one of them means a fault, all of them mean it,
-- whatever the backing devices hold.
pub record AreAlike (c : Configuration) (d first n : ℕ) : Type 0 where
  pub number : ℕ
  pub line : Line
  pub is : line_at c d first ≡ Some (number, line)
  pub inside : first + n ≤ line.start + line.length
  pub together : AreLostTogether line.target (first - line.start) n
  pub means : (images : Images) (fault : Fault) (j k : ℕ) → j < n → k < n
      → sector c images (mapped d) (first + j) ≡ Err fault → sector c images (mapped d) (first + k) ≡ Err fault
