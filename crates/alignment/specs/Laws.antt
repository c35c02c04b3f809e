-- Laws of pieces, units and data blocks.
use Rattle.std.specs.Prelude.{◌≡◌, ◌⊎◌, ℕ, ◌+◌, ◌-◌, ◌%◌, ◌<◌, ◌≤◌, true, List, Some}
use Rattle.dm_table.specs.declared.table.Line.{Line}
use Rattle.dm_table.specs.declared.table.Target.{Target}
use Rattle.dm_table.specs.declared.table.Target.TheVariants.{Linear, Striped, Zero, Error, Crypt, Verity, Unstriped}
use Rattle.stack_rules.specs.declared.lower.Lower.{Lower}
use Rattle.stack_rules.specs.Lines.{IsLine, line_at}
use Rattle.stack_rules.specs.Names.{mapped, named}
use Rattle.stack_rules.specs.Records.{Configuration}
use Rattle.stack_rules.specs.Rules.{IsLoaded}
use Rattle.alignment.specs.Ends.{data_beneath, ends_units, unit_of_line}
use Rattle.alignment.specs.Lengths.{aligned_len}

-- n sectors of device d from s on lie in that line
pub record LieInLine (c : Configuration) (d l : ℕ) (line : Line) (s n : ℕ) : Type 0 where
  pub found : line_at c d s ≡ Some (l, line)
  pub start : line.start ≤ s
  pub ends : s + n ≤ line.start + line.length

-- n sectors of a leaf or device from s on lie in one unit of a `crypt` line or one data block of a `verity` line: of a line
-- of the device itself, or of a device beneath it, on which they lie side by side
pub data LieInUnit (c : Configuration) : Lower → ℕ → ℕ → Type 0 where
  in_own : {d l s n : ℕ} {line : Line} → LieInLine c d l line s n → (s - line.start) % unit_of_line line.target + n ≤ unit_of_line line.target → LieInUnit c (mapped d) s n
  beneath : {d l s n t : ℕ} {line : Line} {name : List ℕ} {lower : Lower} → LieInLine c d l line s n → ((j : ℕ) → j < n → data_beneath line.target (s - line.start + j) ≡ Some (name, t + j)) → named c name ≡ Some lower → LieInUnit c lower t n → LieInUnit c (mapped d) s n

-- one of at most so many sectors of device d from the first on ends all units and data blocks in which it lies
abbrev pub SomeEnd : Configuration → ℕ → ℕ → ℕ → Type 0
SomeEnd c d first most = (k : ℕ) × (k < most) × (ends_units c (mapped d) (first + k) ≡ true)

-- What lies in one unit or data block, and begins in front of the end of a piece, ends there too. So of a transfer whose
-- pieces all have such an end, no unit and no data block has sectors in two pieces.
abbrev pub PiecesSplitNoUnit : Type 0
PiecesSplitNoUnit = (c : Configuration) (d first rest most s n : ℕ) → IsLoaded c → most < rest → SomeEnd c d first most → LieInUnit c (mapped d) s n
    → s < first + aligned_len c d first rest most → s + n ≤ first + aligned_len c d first rest most

-- it lies at a multiple of eight sectors beneath; a line of `striped` or `unstriped` isn't meant
abbrev pub LiesByEights : Target → Type 0
LiesByEights (Linear base) = base.offset % 8 ≡ 0
LiesByEights (Striped chunk bases) = ⊥
LiesByEights Zero = Unit {0}
LiesByEights Error = Unit {0}
LiesByEights (Crypt line) = line.base.offset % 8 ≡ 0
LiesByEights (Verity line) = Unit {0}
LiesByEights (Unstriped line) = ⊥

-- each line begins at a multiple of eight sectors of its device, and lies at one beneath
abbrev pub AreByEights : Configuration → Type 0
AreByEights c = (d l : ℕ) (line : Line) → IsLine c d l line → (line.start % 8 ≡ 0) × LiesByEights line.target

-- in such a stack some sector of any eight ends all units and data blocks in which it lies
abbrev pub SomeOfEightEnds : Type 0
SomeOfEightEnds = (c : Configuration) (d first most : ℕ) → IsLoaded c → AreByEights c → 8 ≤ most → SomeEnd c d first most

-- as many sectors as a piece and the next one have together, of the rest from sector first of device d on
abbrev pub two_lens : Configuration → ℕ → ℕ → ℕ → ℕ → ℕ
two_lens c d first rest most = aligned_len c d first rest most + aligned_len c d (first + aligned_len c d first rest most) (rest - aligned_len c d first rest most) most

-- two pieces, one after the other, have all that is left, or more sectors than the longest piece
abbrev pub TwoPiecesGoFar : Type 0
TwoPiecesGoFar = (c : Configuration) (d first rest most : ℕ) → 0 < most → (two_lens c d first rest most ≡ rest) ⊎ (most < two_lens c d first rest most)
