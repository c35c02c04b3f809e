-- What holds for every table and stack text that is accepted.
use Rattle.std.specs.Prelude.{ℕ, ◌^◌, ◌<◌, ◌≤◌, List, length, All}
use Rattle.dm_table.specs.declared.table.Base.{Base}
use Rattle.dm_table.specs.declared.table.Line.{Line}
use Rattle.dm_table.specs.declared.table.Target.{Target}
use Rattle.dm_table.specs.declared.table.Target.TheVariants as targets
pub use Rattle.dm_table.specs.Arguments.{IsBaseOfGrammar}
pub use Rattle.dm_table.specs.Crypt.{IsCryptOfGrammar}
pub use Rattle.dm_table.specs.Parity.{IsParityOfGrammar}
pub use Rattle.dm_table.specs.Verity.{AreVerityDevices, AreVerityBlocks, IsVerityOfGrammar}
pub use Rattle.dm_table.specs.Unstriped.{IsUnstripedOfGrammar}

-- at most 16 devices, each with an offset
pub record AreBasesOfGrammar (bases : List Base) : Type 0 where
  pub most : length bases ≤ 16
  pub each : All IsBaseOfGrammar bases

-- 1 to 16 devices, and a chunk size of at least one sector
pub record IsStripedOfGrammar (chunk : ℕ) (bases : List Base) : Type 0 where
  pub some : 1 ≤ length bases
  pub most : length bases ≤ 16
  pub chunk_some : 1 ≤ chunk
  pub chunk_fits : chunk < 2 ^ 64
  pub each : All IsBaseOfGrammar bases

abbrev pub IsTargetOfGrammar : Target → Type 0
IsTargetOfGrammar (targets.Linear base) = IsBaseOfGrammar base
IsTargetOfGrammar (targets.Striped chunk bases) = IsStripedOfGrammar chunk bases
IsTargetOfGrammar targets.Zero = Unit {0}
IsTargetOfGrammar targets.Error = Unit {0}
IsTargetOfGrammar (targets.Crypt line) = IsCryptOfGrammar line
IsTargetOfGrammar (targets.Verity line) = IsVerityOfGrammar line
IsTargetOfGrammar (targets.Unstriped line) = IsUnstripedOfGrammar line

pub record IsLineOfGrammar (line : Line) : Type 0 where
  pub start : line.start < 2 ^ 64
  pub sectors : line.length < 2 ^ 64
  pub target : IsTargetOfGrammar line.target

-- at least one line
pub record IsTableOfGrammar (lines : List Line) : Type 0 where
  pub some : 1 ≤ length lines
  pub each : All IsLineOfGrammar lines
