-- The state of an image's blocks after a pass.
use Rattle.std.specs.Prelude.{◌≡◌, ◌⊎◌, ℕ, ◌<◌, ◌≤◌, Bool, true, false, IsTrue, List, [], ◌∷◌, None, All}
use Rattle.tree_shape.specs.Shape.{ShapeRecord, levels}
use Rattle.tree_path.specs.Laws.{Collide}
use Rattle.tree_survey.specs.Surveys.{IsContentStoredAs}
use Rattle.tree_repair.specs.declared.mending.Mended.TheVariants as mended
use Rattle.tree_repair.specs.declared.outcome.Outcome.{Outcome}
use Rattle.tree_repair.specs.declared.outcome.Outcome.TheVariants.{Partly, Whole}
use Rattle.tree_repair.specs.declared.repair.Plan.{Plan}
use Rattle.tree_repair.specs.Coverage.{IsFromUp, IsVisitAt}
use Rattle.tree_repair.specs.Flaws.{HappensIn, IsFlaw}
use Rattle.tree_repair.specs.Noting.{found_of}
use Rattle.tree_repair.specs.Repairs.{LiesOn, job_of}
use Rattle.tree_repair.specs.Runs.{IsDone, Job, VisitsAll, Visit}
use Rattle.tree_repair.specs.Standing.{IsSteadyImage, IsWorldSteady, StandsGood}
use Rattle.tree_repair.specs.Worlds.{HasCountedNone, IsImageUnfailed, RepairWorld}

-- ---- why a block is corrupt after a pass

-- the block of that height above data block i was lost in one of the visits
abbrev pub IsLostIn : ShapeRecord → ℕ → ℕ → List Visit → Type 0
IsLostIn s h i [] = ⊥
IsLostIn s h i (v ∷ more) = (IsVisitAt s h i v × (v.mended ≡ mended.Lost)) ⊎ IsLostIn s h i more

-- the data block or a hash block above it was lost
abbrev pub IsLostOnWay : ShapeRecord → ℕ → List Visit → Type 0
IsLostOnWay s i visits = (h : ℕ) × IsLostIn s h i visits

-- a block on the path was lost, or two different inputs have one digest
abbrev pub IsExcused : Job → ℕ → List Visit → Type 0
IsExcused j i visits = IsLostOnWay j.tree.shape i visits ⊎ Collide j.tree.salt

-- ---- a pass

-- the data and the tree are on steady devices, and the hash device counted no failure between two states
pub record IsSureImage (s : ShapeRecord) (w w' : RepairWorld) : Type 0 where
  pub image : IsSteadyImage s w
  pub sure : HasCountedNone w.hash_dev w'.hash_dev

-- The blocks from a height up were visited, and no write failed. On such devices, if writable, each block is valid, or a block
-- on its path was lost, or two different inputs have one digest.
pub record StandsFrom (j : Job) (low : ℕ) (w w' : RepairWorld) : Type 0 where
  pub visits : List Visit
  pub runs : VisitsAll j visits w w'
  pub done : All IsDone visits
  pub stand : IsTrue j.write → IsSureImage j.tree.shape w w' → (h i : ℕ) → IsFromUp j.tree.shape low h i → StandsGood j h i w' ⊎ IsExcused j i visits

-- An image was repaired in one pass, and no write failed. On steady writable devices, if the hash device counted no failure,
-- each data block and all hash blocks above it are valid afterwards, or one of these blocks was lost.
pub record LeavesWhole (plan : Plan) (w w' : RepairWorld) : Type 0 where
  pub lies : LiesOn plan.tree.shape w
  pub visits : List Visit
  pub runs : VisitsAll (job_of plan false) visits w w'
  pub done : All IsDone visits
  pub good : IsTrue plan.write → IsWorldSteady w → HasCountedNone w.hash_dev w'.hash_dev → (i : ℕ) → i < plan.tree.shape.blocks
      → IsContentStoredAs (job_of plan false).tree w'.data_dev.image w'.hash_dev.image i None ⊎ IsExcused (job_of plan false) i visits

-- ---- what is known of the image

-- one of the visits was to the block of that height above data block i, and left it valid
abbrev pub IsGoodThenIn : Bool → ShapeRecord → ℕ → ℕ → List Visit → Type 0
IsGoodThenIn write s h i [] = ⊥
IsGoodThenIn write s h i (v ∷ more) = (IsVisitAt s h i v × (found_of write v.mended ≡ None)) ⊎ IsGoodThenIn write s h i more

-- each block of the tree was visited, and the visit left it valid; no write failed
pub record IsAllGood (j : Job) (w w' : RepairWorld) : Type 0 where
  pub visits : List Visit
  pub runs : VisitsAll j visits w w'
  pub done : All IsDone visits
  pub each : (h i : ℕ) → h ≤ levels j.tree.shape → i < j.tree.shape.blocks → IsGoodThenIn j.write j.tree.shape h i visits

-- So many data blocks and all hash blocks above them were visited, and each visit left its block valid; no call of the image's
-- devices failed. On steady devices each data block and all hash blocks above it are valid at the end, or two different inputs
-- have one digest.
pub record LeavesAllGood (plan : Plan) (parity : Bool) (w w' : RepairWorld) (count : ℕ) : Type 0 where
  pub lies : LiesOn plan.tree.shape w
  pub count_is : count ≡ plan.tree.shape.blocks
  pub visits : List Visit
  pub runs : VisitsAll (job_of plan parity) visits w w'
  pub done : All IsDone visits
  pub each : (h i : ℕ) → h ≤ levels plan.tree.shape → i < count → IsGoodThenIn plan.write plan.tree.shape h i visits
  pub data_unfailed : HasCountedNone w.data_dev w'.data_dev
  pub hash_unfailed : HasCountedNone w.hash_dev w'.hash_dev
  pub good : IsWorldSteady w → (i : ℕ) → i < count → IsContentStoredAs (job_of plan parity).tree w'.data_dev.image w'.hash_dev.image i None ⊎ Collide plan.tree.salt

-- why not all of the image is known to be valid: a call of its devices failed, or one block isn't known to be valid
abbrev pub IsPartlyCause : Job → RepairWorld → RepairWorld → Type 0
IsPartlyCause j w w' = (IsImageUnfailed w w' → ⊥) ⊎ HappensIn j (IsFlaw j) w w'

-- the outcome of a repair without parity
abbrev pub IsOutcomeOf : Plan → RepairWorld → RepairWorld → Outcome → Type 0
IsOutcomeOf plan w w' (Whole count) = LeavesAllGood plan false w w' count
IsOutcomeOf plan w w' Partly = LeavesWhole plan w w' × IsPartlyCause (job_of plan false) w w'

-- the outcome of a repair with parity
abbrev pub IsParityOutcome : Plan → RepairWorld → RepairWorld → Outcome → Type 0
IsParityOutcome plan w w' (Whole count) = LeavesAllGood plan true w w' count
IsParityOutcome plan w w' Partly = Unit {0}
