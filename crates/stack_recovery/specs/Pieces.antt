-- The next piece of a recovery.
use Rattle.std.specs.Prelude.{◌≡◌, ℕ, ◌+◌, ◌-◌, ◌*◌, ◌/◌, ◌%◌, ◌≤◌, min, false, IsTrue}
use Rattle.dm_table.specs.declared.table.Target.{Target}
use Rattle.dm_table.specs.declared.table.Target.TheVariants.{Error, Verity}
use Rattle.alignment.specs.Lengths.{aligned_len}
use Rattle.stack_rules.specs.Lines.{IsIn}
use Rattle.stack_rules.specs.Names.{lines_of}
use Rattle.stack_rules.specs.Records.{Configuration}
use Rattle.stack_rules.specs.Trees.{block_sectors}
use Rattle.stack_recovery.specs.declared.piece.Piece.{Piece}
use Rattle.stack_recovery.specs.Alike.{AreAlike, AreLostTogether}

-- how many sectors are lost together from sector w of a line on, and how many in each unit after them
abbrev pub rest_of_unit : Target → ℕ → ℕ
rest_of_unit Error w = 128
rest_of_unit (Verity v) w = block_sectors v - w % block_sectors v
rest_of_unit target w = 1

abbrev pub whole_unit : Target → ℕ
whole_unit (Verity v) = block_sectors v
whole_unit target = 1

-- from sector w of a line on, the rest of a unit and a whole one have so many sectors
pub record AreUnitLens (target : Target) (w rest whole : ℕ) : Type 0 where
  pub rest_is : rest ≡ rest_of_unit target w
  pub whole_is : whole ≡ whole_unit target
  pub together : AreLostTogether target w rest

-- The sectors that a piece has at most, from sector w of a line on: `most`, down to the end of a unit; but those that are lost
-- together, and never more than 128.
abbrev pub longest_piece : Target → ℕ → ℕ → ℕ
longest_piece target w most = min (rest_of_unit target w + (most - rest_of_unit target w) / whole_unit target * whole_unit target) 128

-- n sectors of device d from the first on are the next piece of a transfer up to the end, or to the end of their line
pub record EndsAligned (c : Configuration) (d first end most n : ℕ) : Type 0 where
  pub number : ℕ
  pub left : ℕ
  pub place : IsIn (lines_of c d) first number left
  pub value : n ≡ aligned_len c d first (min left (end - first)) (longest_piece place.line.target (first - place.line.start) most)

-- A piece of device d from sector `first` on and before the end: of sectors that are lost together, or of at most so many
-- sectors. It splits no unit and no data block that fits.
pub record IsPiece (c : Configuration) (d first end most : ℕ) (piece : Piece) : Type 0 where
  pub some : 1 ≤ piece.count
  pub few : piece.count ≤ 128
  pub inside : first + piece.count ≤ end
  pub ends : EndsAligned c d first end most piece.count
  pub alike : IsTrue piece.alike → AreAlike c d first piece.count
  pub apart : piece.alike ≡ false → (2 ≤ piece.count) × (piece.count ≤ most)

-- how many sectors a piece may have at most
abbrev pub IsPieceLimit : ℕ → Type 0
IsPieceLimit most = (1 ≤ most) × (most ≤ 128)
