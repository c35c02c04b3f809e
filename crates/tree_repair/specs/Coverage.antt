-- Which blocks of an image a run visits.
use Rattle.std.specs.Prelude.{◌≡◌, ◌⊎◌, ℕ, ◌+◌, ◌-◌, ◌*◌, ◌/◌, ◌<◌, ◌≤◌, List, [], ◌∷◌, ◌++◌, length, All}
use Rattle.std.specs.List.{slice_index_or}
use Rattle.block_device.specs.Device.{Device}
use Rattle.tree_shape.specs.Shape.{ShapeRecord, ancestor, levels}
use Rattle.tree_path.specs.Path.{PathRecord, digest_on}
use Rattle.tree_survey.specs.Failing.{HasFailedRead}
use Rattle.tree_repair.specs.declared.place.Place.{Place}
use Rattle.tree_repair.specs.declared.place.Row.{Row}
use Rattle.tree_repair.specs.Runs.{Job, VisitsAll, Visit}
use Rattle.tree_repair.specs.Sources.{IsThere, wanted}
use Rattle.tree_repair.specs.ParitySearches.{IsCutOff}
use Rattle.tree_repair.specs.Worlds.{IsWorldRead, RepairWorld}

-- ---- data blocks that verify

-- Data blocks from one on were read with the digests that the path leads to; on a steady device they are the stored blocks.
abbrev pub AreThere : Job → PathRecord → Device → ℕ → List (List ℕ) → Type 0
AreThere j p d i [] = Unit {0}
AreThere j p d i (b ∷ more) =
    IsThere d (i * (j.tree.shape.data_block / 512)) (wanted j.tree.salt (digest_on p i 0) (j.tree.shape.data_block / 512)) b × AreThere j p d (i + 1) more

-- n such data blocks
pub record AreGoodFrom (j : Job) (p : PathRecord) (d : Device) (i n : ℕ) : Type 0 where
  pub contents : List (List ℕ)
  pub count : length contents ≡ n
  pub are : AreThere j p d i contents

-- the data blocks of a row
abbrev pub AreGoodInRow : Job → PathRecord → Row → Device → Type 0
AreGoodInRow j p row d = AreGoodFrom j p d row.first (row.end - row.first)

-- all data blocks of a row were read and verify
pub record IsGoodRow (j : Job) (p : PathRecord) (row : Row) (d : Device) : Type 0 where
  pub height_is : row.height ≡ 0
  pub good : AreGoodFrom j p d row.first (row.end - row.first)

-- the path stores these digests for the data blocks from one on
abbrev pub AreDigestsOn : PathRecord → ℕ → List (List ℕ) → Type 0
AreDigestsOn p i digests = (k : ℕ) → k < length digests → (d : List ℕ) → slice_index_or digests k d ≡ digest_on p (i + k) 0

-- ---- blocks that are visited

-- a visit of the block of that height above data block i
pub record IsVisitAt (s : ShapeRecord) (h i : ℕ) (v : Visit) : Type 0 where
  pub height_is : v.height ≡ h
  pub same : ancestor s h v.index ≡ ancestor s h i

-- one of these is such a visit
abbrev pub IsVisitedIn : ShapeRecord → ℕ → ℕ → List Visit → Type 0
IsVisitedIn s h i [] = ⊥
IsVisitedIn s h i (v ∷ more) = IsVisitAt s h i v ⊎ IsVisitedIn s h i more

-- After some of the visits a hash block above the block was corrupt, or the hash device, which may fail, failed in a read of
-- the tree. This was seen at a neighbouring block with the same hash blocks above.
pub record IsPassedBy (j : Job) (h i : ℕ) (visits : List Visit) (w w' : RepairWorld) : Type 0 where
  pub earlier : List Visit
  pub later : List Visit
  pub are : visits ≡ earlier ++ later
  pub a : RepairWorld
  pub b : RepairWorld
  pub before : VisitsAll j earlier w a
  pub read : IsWorldRead a b
  pub behind : VisitsAll j later b w'
  pub beside : ℕ
  pub same : ancestor j.tree.shape (h + 1) beside ≡ ancestor j.tree.shape (h + 1) i
  pub cut : HasFailedRead a.hash_dev b.hash_dev ⊎ IsCutOff j.tree beside h a.hash_dev

-- the block was visited, unless a hash block above it was corrupt or unreadable
abbrev pub IsLookedAt : Job → ℕ → ℕ → List Visit → RepairWorld → RepairWorld → Type 0
IsLookedAt j h i visits w w' = IsVisitedIn j.tree.shape h i visits ⊎ IsPassedBy j h i visits w w'

-- ---- the blocks that are due

abbrev pub IsBlockAt : ShapeRecord → Place → ℕ → ℕ → Type 0
IsBlockAt s place h i = (place.height ≡ h) × (ancestor s h place.index ≡ ancestor s h i)

abbrev pub IsFromTo : ℕ → ℕ → ℕ → ℕ → ℕ → Type 0
IsFromTo height first end h i = (height ≡ h) × ((first ≤ i) × (i < end))

abbrev pub IsOfRow : Row → ℕ → ℕ → Type 0
IsOfRow row h i = IsFromTo row.height row.first row.end h i

-- the blocks of a row before a data block
abbrev pub IsOfRowBefore : Row → ℕ → ℕ → ℕ → Type 0
IsOfRowBefore row end h i = IsOfRow row h i × (i < end)

-- the blocks from a height up
abbrev pub IsFromUp : ShapeRecord → ℕ → ℕ → ℕ → Type 0
IsFromUp s low h i = (low ≤ h) × ((h ≤ levels s) × (i < s.blocks))

-- ---- blocks that are visited once

-- the block of that height above data block i is due; `beside` is a data block below it
pub record IsDueAt (s : ShapeRecord) (Due : ℕ → ℕ → Type 0) (h i : ℕ) : Type 0 where
  pub beside : ℕ
  pub due : Due h beside
  pub same : ancestor s h i ≡ ancestor s h beside

-- each of these visits is of a block that is due
abbrev pub AreVisitsDue : ShapeRecord → (ℕ → ℕ → Type 0) → List Visit → Type 0
AreVisitsDue s Due visits = All (λ (v : Visit). IsDueAt s Due v.height v.index) visits

-- no two of the visits are of the same block
abbrev pub AreVisitedOnce : ShapeRecord → List Visit → Type 0
AreVisitedOnce s [] = Unit {0}
AreVisitedOnce s (v ∷ more) = (IsVisitedIn s v.height v.index more → ⊥) × AreVisitedOnce s more
