-- The last sectors of units and data blocks.
use Rattle.std.specs.Prelude.{ℕ, ◌+◌, ◌-◌, ◌%◌, ◌==◌, ◌&&◌, Bool, true, List, Option, Some}
use Rattle.dm_table.specs.declared.table.Target.{Target}
use Rattle.dm_table.specs.declared.table.Target.TheVariants.{Linear, Striped, Zero, Error, Crypt, Verity, Unstriped}
use Rattle.stack_rules.specs.declared.lower.Lower.{Lower}
use Rattle.stack_rules.specs.Records.{Configuration}
use Rattle.stack_rules.specs.Trees.{block_sectors}
use Rattle.stack_meaning.specs.Beneath.{beneath, said_or}
use Rattle.stack_meaning.specs.Sectors.{OnLine, by_sector}
use Rattle.stack_meaning.specs.Units.{per_unit, units_of}
use Rattle.stack_lines.specs.declared.source.CryptPart.{CryptPart}
use Rattle.stack_lines.specs.declared.source.Source.{Source}
use Rattle.stack_lines.specs.declared.source.VerityPart.{VerityPart}
use Rattle.stack_lines.specs.declared.source.Source.TheVariants.{Below, Units, UnitPart, Zeros, Fails, Block, Blocks}

-- how many sectors of a line belong together: those of a unit or of a data block, else each alone
abbrev pub unit_of_line : Target → ℕ
unit_of_line (Linear base) = 1
unit_of_line (Striped chunk bases) = 1
unit_of_line Zero = 1
unit_of_line Error = 1
unit_of_line (Crypt line) = per_unit (units_of line)
unit_of_line (Verity line) = block_sectors line
unit_of_line (Unstriped line) = 1

-- the device and the sector there on which sector s of a line lies; of a verity line, that of its data
abbrev pub data_beneath : Target → ℕ → Option (List ℕ × ℕ)
data_beneath (Linear base) s = beneath (Linear base) s
data_beneath (Striped chunk bases) s = beneath (Striped chunk bases) s
data_beneath Zero s = beneath Zero s
data_beneath Error s = beneath Error s
data_beneath (Crypt line) s = beneath (Crypt line) s
data_beneath (Verity line) s = Some (line.data, s)
data_beneath (Unstriped line) s = beneath (Unstriped line) s

-- sector s is the last of n that belong together, counted from the first sector of its line
abbrev pub is_last : ℕ → ℕ → Bool
is_last n s = s % n == n - 1

-- Sector s of a line is the last one of each unit and data block in which it lies, where at says it of the sectors of the
-- devices that the line names.
abbrev pub line_ends : OnLine Bool
line_ends at d l target s = is_last (unit_of_line target) s && said_or true at (data_beneath target s)

-- sector s of a leaf or device is the last one of each unit and data block in which it lies
abbrev pub ends_units : Configuration → Lower → ℕ → Bool
ends_units c = by_sector c true (λ i s. true) line_ends

-- ---- the first sector of a run is the last one of each unit and data block in which it lies

abbrev pub unit_ends : Configuration → CryptPart → Bool
unit_ends c u = is_last (per_unit u.units) u.first && ends_units c u.lower (u.units.offset + u.first)

abbrev pub block_ends : Configuration → VerityPart → Bool
block_ends c x = is_last (block_sectors x.verity.now) x.first && ends_units c x.data x.first

abbrev pub source_ends : Configuration → Source → Bool
source_ends c (Below lower first) = ends_units c lower first
source_ends c (Units u) = unit_ends c u
source_ends c (UnitPart u) = unit_ends c u
source_ends c Zeros = true
source_ends c Fails = true
source_ends c (Block x) = block_ends c x
source_ends c (Blocks x) = block_ends c x
