-- Blocks restored by parity.
use Rattle.std.specs.Prelude.{◌≡◌, ℕ, zero, suc, ◌+◌, ◌/◌, ◌<◌, ◌≤◌, Bool, true, false, IsTrue, List}
use Rattle.block_device.specs.Device.{Device}
use Rattle.fec_area.specs.declared.layout.Layout.{Layout}
use Rattle.fec_area.specs.declared.restoring.RestoreFault.{RestoreFault}
use Rattle.fec_area.specs.declared.restoring.RestoreFault.TheVariants.{TooManyLost, TooSmall, Device as DeviceFailed, NoMemory}
use Rattle.fec_area.specs.Layouts.{IsOfData, IsOfHash, covered_blocks}
use Rattle.fec_area.specs.Restoring.{IsMadeAgain, IsRestoreCause}
use Rattle.fec_area.specs.Rounds.{AllNeverFail}
use Rattle.tree_shape.specs.Shape.{ShapeRecord, IsShape, ancestor, levels, position}
use Rattle.tree_path.specs.Path.{PathRecord, digest_on}
use Rattle.tree_survey.specs.Surveys.{IsWay}
use Rattle.verity_format.specs.Blocks.{IsOnlyRead}
use Rattle.verity_format.specs.Image.{data_sectors, tree_sectors}
use Rattle.tree_repair.specs.declared.mending.Mended.TheVariants as mended
use Rattle.tree_repair.specs.declared.losses.Losses.{Losses}
use Rattle.tree_repair.specs.Mending.{IsBlockReplaced}
use Rattle.tree_repair.specs.Runs.{IsVisited, Job, own, sector_at, size_at, visit}
use Rattle.tree_repair.specs.Worlds.{IsWorldRead, RepairWorld}
use Rattle.tree_repair.specs.Sources.{IsThere, Wanted, wanted}

-- the tree has a block of that height on the path to a data block
pub record IsPlace (s : ShapeRecord) (h i : ℕ) : Type 0 where
  pub valid : IsShape s
  pub inside : i < s.blocks
  pub high : h ≤ levels s

-- covered block k is the block of that height
abbrev pub IsOfPlace : ShapeRecord → Layout → ℕ → ℕ → ℕ → Type 0
IsOfPlace s l zero i k = IsOfData l i k
IsOfPlace s l (suc h) i k = IsOfHash l (position s h (ancestor s (h + 1) i)) k

pub record IsCoveredAt (s : ShapeRecord) (l : Layout) (h i k : ℕ) : Type 0 where
  pub place : IsPlace s h i
  pub size : l.block ≡ size_at s h
  pub inside : k < covered_blocks l
  pub is : IsOfPlace s l h i k

-- the sector where the data or the tree ends
abbrev pub end_at : ShapeRecord → ℕ → ℕ
end_at s zero = data_sectors s
end_at s (suc l) = tree_sectors s

-- a corrupt block was replaced, or the block is valid and was only read
abbrev pub IsPutOr : Device → ℕ → Wanted → Bool → List ℕ → Device → Bool → Type 0
IsPutOr old first w write bytes new true = IsBlockReplaced old first w write bytes true new
IsPutOr old first w write bytes new false = (IsOnlyRead old new × (old.failures ≤ new.failures)) × ((read : List ℕ) × IsThere old first w read)

-- a block of an image is valid
pub record IsGoodNow (j : Job) (h i : ℕ) (w : RepairWorld) : Type 0 where
  pub p : PathRecord
  pub way : IsWay j.tree i h p
  pub bytes : List ℕ
  pub there : IsThere (own h w) (sector_at j.tree.shape h i) (wanted j.tree.salt (digest_on p i h) (size_at j.tree.shape h / 512)) bytes

-- a corrupt block of an image was replaced, or the block is valid and was only read
abbrev pub IsPlaced : Job → ℕ → ℕ → List ℕ → RepairWorld → RepairWorld → Bool → Type 0
IsPlaced j h i bytes w w' true = IsVisited j (visit h i mended.Parity bytes true) w w'
IsPlaced j h i bytes w w' false = IsWorldRead w w' × IsGoodNow j h i w

-- a corrupt block of an image was replaced, and the devices were only read afterwards; or the block is valid and was only read
abbrev pub IsPlacedAndRead : Job → ℕ → ℕ → List ℕ → RepairWorld → RepairWorld → Bool → Type 0
IsPlacedAndRead j h i bytes w w' true = (x : RepairWorld) × (IsVisited j (visit h i mended.Parity bytes true) w x × IsWorldRead x w')
IsPlacedAndRead j h i bytes w w' false = IsWorldRead w w' × IsGoodNow j h i w

-- the block is corrupt, but its write failed
abbrev pub FailsToPlace : Job → ℕ → ℕ → List ℕ → RepairWorld → RepairWorld → Type 0
FailsToPlace j h i bytes w w' = IsVisited j (visit h i mended.Parity bytes false) w w'

-- ---- by parity

-- a covered block was restored, from what the devices store if they are steady
abbrev pub IsBack : Losses → RepairWorld → Device → ℕ → List ℕ → Bool → Type 0
IsBack l w parity_dev index bytes back = IsTrue back → IsTrue w.data_dev.steady → IsTrue w.hash_dev.steady → IsTrue parity_dev.steady
    → IsMadeAgain l.layout w.data_dev.image w.hash_dev.image parity_dev.image l.lost.items index bytes

-- causes other than a refused allocation; a device failure is one only if one of the three devices may fail
abbrev pub IsOfBlocks : Device → Device → Device → RestoreFault → Type 0
IsOfBlocks data_dev hash_dev parity_dev (TooManyLost count) = Unit {0}
IsOfBlocks data_dev hash_dev parity_dev (TooSmall needed) = Unit {0}
IsOfBlocks data_dev hash_dev parity_dev DeviceFailed = AllNeverFail data_dev hash_dev parity_dev → ⊥
IsOfBlocks data_dev hash_dev parity_dev NoMemory = ⊥

-- the block wasn't restored, for such a cause
abbrev pub IsNotBack : Losses → ℕ → RepairWorld → RepairWorld → Device → Device → Bool → Type 0
IsNotBack l index w w' parity_dev parity_dev' back = back ≡ false
    → (fault : RestoreFault) × (IsOfBlocks w.data_dev w.hash_dev parity_dev fault × IsRestoreCause l.layout l.lost.items index w.data_dev w.hash_dev parity_dev w'.data_dev w'.hash_dev parity_dev' fault)
