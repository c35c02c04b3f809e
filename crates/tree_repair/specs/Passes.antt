-- A pass of a repair with parity: which blocks it notes, and that each lost block is sought.
use Rattle.std.specs.Prelude.{◌≡◌, ◌⊎◌, ◌<◌, ◌≤◌, ℕ, IsTrue, List, [], ◌∷◌, ◌++◌, Option, Result, IsNone, ◌&&◌, zero, suc, Bool, true, false, None, All}
use Rattle.std.specs.List.{flat_map}
use Rattle.std.specs.Result.{result_err}
use Rattle.block_device.specs.Device.{Device}
use Rattle.program_io.specs.Counted.{CountedRecord}
use Rattle.tree_shape.specs.Shape.{ShapeRecord, levels}
use Rattle.fec_area.specs.declared.layout.Layout.{Layout}
use Rattle.tree_repair.specs.declared.bad.BadBlock.{BadBlock}
use Rattle.tree_repair.specs.declared.bad.BadBlocks.{BadBlocks}
use Rattle.tree_repair.specs.declared.fault.RepairFault.{RepairFault}
use Rattle.tree_repair.specs.declared.mending.Mended.TheVariants as mended
use Rattle.tree_repair.specs.Coverage.{AreVisitedOnce, AreVisitsDue, IsLookedAt, IsVisitAt, IsVisitedIn}
use Rattle.tree_repair.specs.Flaws.{HasFlaws}
use Rattle.tree_repair.specs.Noting.{bad_blocks, found_of}
use Rattle.tree_repair.specs.Runs.{HasRun, IsDone, Job, VisitsAll, Visit}
use Rattle.tree_repair.specs.ParitySearches.{HasSought}
use Rattle.tree_repair.specs.Worlds.{IsParityRead, IsWorldRead, RepairWorld}

-- the note about a visited block
abbrev pub bad_of : Job → Visit → List BadBlock
bad_of j v = bad_blocks (record { height = v.height; index = v.index }) (found_of j.write v.mended)

-- the block is valid after the visit
abbrev pub IsGoodThen : Job → Visit → Type 0
IsGoodThen j v = found_of j.write v.mended ≡ None

-- A run that notes the blocks that are corrupt after it, if the caller asks for them. It considered each block that was due,
-- visited no other, and none twice. If it knows of no corrupt block, all blocks that it visited are valid. If it knows of no
-- skipped block, it visited all blocks that were due. What it knows of has its cause in the run.
pub record HasNoted (j : Job) (Due : ℕ → ℕ → Type 0) (w w' : RepairWorld) (old new : Option (List ℕ)) (a b : BadBlocks) (fault : Option RepairFault) : Type 0 where
  pub run : HasRun j w w' old new fault
  pub asked : b.asked ≡ a.asked
  pub noted : IsNone fault → IsTrue a.asked → b.blocks.items ≡ a.blocks.items ++ flat_map (bad_of j) run.visits
  pub looked : IsNone fault → (h i : ℕ) → Due h i → IsLookedAt j h i run.visits w w'
  pub only : IsNone fault → AreVisitsDue j.tree.shape Due run.visits
  pub once : IsNone fault → AreVisitedOnce j.tree.shape run.visits
  pub any : IsNone fault → b.any ≡ false → (a.any ≡ false) × All (IsGoodThen j) run.visits
  pub passed : IsNone fault → b.passed ≡ false → (a.passed ≡ false) × ((h i : ℕ) → Due h i → IsVisitedIn j.tree.shape h i run.visits)
  pub flaws : IsNone fault → HasFlaws j w w' a b

-- such a run, by the writer before and after and the result
abbrev pub Notes : {W T : Type 0} → (W → Option (List ℕ)) → Job → (ℕ → ℕ → Type 0) → RepairWorld → RepairWorld → BadBlocks → BadBlocks → CountedRecord W → CountedRecord W → Result T RepairFault → Type 0
Notes contents j Due w w' a b old new result = HasNoted j Due w w' (contents old.inner) (contents new.inner) a b (result_err result)

-- ---- restored blocks

-- one of the visits restored the block
abbrev pub IsBackIn : ShapeRecord → BadBlock → List Visit → Type 0
IsBackIn s b [] = ⊥
IsBackIn s b (v ∷ more) = (IsVisitAt s b.place.height b.place.index v × (v.mended ≡ mended.Parity)) ⊎ IsBackIn s b more

-- each of these blocks was restored, and no write failed
pub record AreBack (j : Job) (blocks : List BadBlock) (w w' : RepairWorld) : Type 0 where
  pub visits : List Visit
  pub runs : VisitsAll j visits w w'
  pub done : All IsDone visits
  pub each : All (λ (b : BadBlock). IsBackIn j.tree.shape b visits) blocks

-- ---- passes

-- All blocks were visited, from the top down, none of them twice. Each lost block was then sought by parity, with all corrupt
-- blocks counted as lost; no write failed. A further pass is due if a hash block was restored and written.
pub record IsPass (j : Job) (l : Layout) (w w' : RepairWorld) (p p' : Device) (again : Bool) : Type 0 where
  pub visits : List Visit
  pub behind : RepairWorld
  pub runs : VisitsAll j visits w behind
  pub done : All IsDone visits
  pub looked : (h i : ℕ) → h ≤ levels j.tree.shape → i < j.tree.shape.blocks → IsLookedAt j h i visits w behind
  pub once : AreVisitedOnce j.tree.shape visits
  pub hash_came : Bool
  pub sought : HasSought j l (flat_map (bad_of j) visits) behind w' p p' hash_came
  pub again_is : again ≡ (hash_came && j.write)

-- so many passes, after each of which a further one is due
abbrev pub AreDuePasses : Job → Layout → ℕ → RepairWorld → RepairWorld → Device → Device → Type 0
AreDuePasses j l zero w w' p p' = IsWorldRead w w' × IsParityRead p p'
AreDuePasses j l (suc n) w w' p p' = (a : RepairWorld) × ((q : Device) × (AreDuePasses j l n w a p q × IsPass j l a w' q p' true))

-- n + 1 passes were made. The visits are those of all passes but the last.
pub record ArePasses (j : Job) (l : Layout) (n : ℕ) (w w' : RepairWorld) (p p' : Device) (again : Bool) : Type 0 where
  pub earlier : List Visit
  pub last : RepairWorld
  pub last_parity : Device
  pub before : VisitsAll j earlier w last
  pub parity_read : IsParityRead p last_parity
  pub due : AreDuePasses j l n w last p last_parity
  pub pass : IsPass j l last w' last_parity p' again

-- A run ends with a pass after which none is due; or it made as many passes as there are covered hash blocks, and one more.
pub record EndsInPass (j : Job) (l : Layout) (w w' : RepairWorld) (p p' : Device) : Type 0 where
  pub count : ℕ
  pub again : Bool
  pub passes : ArePasses j l count w w' p p' again
  pub few : count ≤ l.hash_blocks
  pub over : IsTrue again → count ≡ l.hash_blocks
