-- What the devices of an image store after a run without a failed write.
use Rattle.std.specs.Prelude.{◌≡◌, ◌⊎◌, ℕ, ◌/◌, ◌<◌, ◌≤◌, Bool, IsTrue, List, [], ◌∷◌, Option, None, All}
use Rattle.block_device.specs.Device.{IsWhole}
use Rattle.tree_shape.specs.Digests.{digest}
use Rattle.tree_shape.specs.Shape.{ShapeRecord, IsShape, levels}
use Rattle.hash_tree.specs.Chain.{formed}
use Rattle.tree_path.specs.Laws.{Collide}
use Rattle.tree_path.specs.Path.{PathRecord, digest_on}
use Rattle.tree_survey.specs.Laws.{AreContents}
use Rattle.tree_survey.specs.Surveys.{IsContentStoredAs, IsWay}
use Rattle.verity_format.specs.Image.{data_sectors, tree_sectors}
use Rattle.tree_repair.specs.declared.mending.Mended.{Mended}
use Rattle.tree_repair.specs.declared.mending.Mended.TheVariants as mended
use Rattle.tree_repair.specs.declared.repair.Plan.{Plan}
use Rattle.tree_repair.specs.Coverage.{IsVisitAt}
use Rattle.tree_repair.specs.Laws.{block_of_height}
use Rattle.tree_repair.specs.Repairs.{Repairs, job_of}
use Rattle.tree_repair.specs.Runs.{IsDone, Job, VisitsAll, Visit, own, sector_at, size_at}
use Rattle.tree_repair.specs.Sources.{bytes_on_device}
use Rattle.tree_repair.specs.Worlds.{RepairWorld}

-- ---- the run

-- the data device and the hash device are steady, and their images are whole
pub record IsWorldSteady (w : RepairWorld) : Type 0 where
  pub data_whole : IsWhole w.data_dev
  pub hash_whole : IsWhole w.hash_dev
  pub data_steady : IsTrue w.data_dev.steady
  pub hash_steady : IsTrue w.hash_dev.steady

-- the data and the tree are within such devices
pub record IsSteadyImage (s : ShapeRecord) (w : RepairWorld) : Type 0 where
  pub valid : IsShape s
  pub steady : IsWorldSteady w
  pub data_fits : data_sectors s ≤ w.data_dev.size
  pub tree_fits : tree_sectors s ≤ w.hash_dev.size

-- these blocks were visited, the repair could write, and no write failed
pub record HasWrittenAll (j : Job) (visits : List Visit) (w w' : RepairWorld) : Type 0 where
  pub image : IsSteadyImage j.tree.shape w
  pub write : IsTrue j.write
  pub runs : VisitsAll j visits w w'
  pub done : All IsDone visits

-- this holds of a successful repair, with parity or without
abbrev pub RepairsWriteAll : Type 0
RepairsWriteAll = (plan : Plan) → (parity : Bool) → (w w' : RepairWorld) → (old new : Option (List ℕ)) → (r : Repairs plan parity w w' old new None) → IsTrue plan.write → IsWorldSteady w
    → HasWrittenAll (job_of plan parity) r.run.visits w w'

-- ---- a block of it

abbrev pub IsNotLost : Mended → Type 0
IsNotLost mended.Good = Unit {0}
IsNotLost (mended.Copy k) = Unit {0}
IsNotLost mended.Remade = Unit {0}
IsNotLost mended.Parity = Unit {0}
IsNotLost mended.Lost = ⊥

-- the block of that height above data block i was visited, and was valid, found or reconstructed
pub record LeavesGood (s : ShapeRecord) (h i : ℕ) (v : Visit) : Type 0 where
  pub at : IsVisitAt s h i v
  pub kept : IsNotLost v.mended

-- this holds of one of the visits
abbrev pub IsLeftGoodIn : ShapeRecord → ℕ → ℕ → List Visit → Type 0
IsLeftGoodIn s h i [] = ⊥
IsLeftGoodIn s h i (v ∷ more) = LeavesGood s h i v ⊎ IsLeftGoodIn s h i more

-- the block's bytes as they are stored
abbrev pub standing_bytes : Job → ℕ → ℕ → RepairWorld → List ℕ
standing_bytes j h i w = bytes_on_device (own h w) (sector_at j.tree.shape h i) (size_at j.tree.shape h / 512)

-- verified hash blocks lead from the root to their digest
pub record StandsGood (j : Job) (h i : ℕ) (w : RepairWorld) : Type 0 where
  pub p : PathRecord
  pub way : IsWay j.tree i h p
  pub good : digest j.tree.salt (standing_bytes j h i w) ≡ digest_on p i h

-- a block that one visit left valid is valid on its device after the run
abbrev pub LeftGoodBlocksStand : Type 0
LeftGoodBlocksStand = (j : Job) → (visits : List Visit) → (w w' : RepairWorld) → HasWrittenAll j visits w w' → (h i : ℕ) → i < j.tree.shape.blocks → IsLeftGoodIn j.tree.shape h i visits
    → StandsGood j h i w'

-- it is the block of all data whose tree has the root, or two different inputs have one digest
abbrev pub LeftGoodBlocksAreFormatted : Type 0
LeftGoodBlocksAreFormatted = (j : Job) → (visits : List Visit) → (w w' : RepairWorld) → HasWrittenAll j visits w w' → (h i : ℕ) → i < j.tree.shape.blocks → IsLeftGoodIn j.tree.shape h i visits
    → (contents : List (List ℕ)) → AreContents j.tree contents → (standing_bytes j h i w' ≡ block_of_height j.tree (formed j.tree.shape j.tree.salt contents i) h) ⊎ Collide j.tree.salt

-- ---- a data block and all hash blocks above it

-- each of these blocks was left valid by one visit
abbrev pub IsWayLeftGood : ShapeRecord → ℕ → List Visit → Type 0
IsWayLeftGood s i visits = (h : ℕ) → h ≤ levels s → IsLeftGoodIn s h i visits

-- Each of these blocks has the digest that its parent stores after the run, so the data block is valid, or two different inputs
-- have one digest.
abbrev pub LeftGoodWaysStand : Type 0
LeftGoodWaysStand = (j : Job) → (visits : List Visit) → (w w' : RepairWorld) → HasWrittenAll j visits w w' → (i : ℕ) → i < j.tree.shape.blocks → IsWayLeftGood j.tree.shape i visits
    → IsContentStoredAs j.tree w'.data_dev.image w'.hash_dev.image i None ⊎ Collide j.tree.salt
