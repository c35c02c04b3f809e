-- Why not all of an image is known to be valid after a run.
use Rattle.std.specs.Prelude.{◌≢◌, ◌⊎◌, ℕ, ◌/◌, ◌<◌, Bool, true, false, IsTrue, None}
use Rattle.tree_path.specs.Path.{PathRecord, digest_on}
use Rattle.tree_survey.specs.Failing.{HasFailedRead}
use Rattle.tree_survey.specs.Surveys.{IsWay}
use Rattle.tree_repair.specs.declared.bad.BadBlocks.{BadBlocks}
use Rattle.tree_repair.specs.Noting.{found_of}
use Rattle.tree_repair.specs.Parity.{IsGoodNow}
use Rattle.tree_repair.specs.ParitySearches.{IsCutOff}
use Rattle.tree_repair.specs.Runs.{IsPart, IsVisited, Job, Visit, own, sector_at, size_at}
use Rattle.tree_repair.specs.Sources.{IsBad, wanted}
use Rattle.tree_repair.specs.Worlds.{IsWorldRead, RepairWorld}

-- this happened in a part of a run
pub record HappensIn (j : Job) (Event : RepairWorld → RepairWorld → Type 0) (w w' : RepairWorld) : Type 0 where
  pub a : RepairWorld
  pub b : RepairWorld
  pub event : Event a b
  pub part : IsPart j w a b w'

-- a visit left its block corrupt: the block's bytes were found nowhere, or weren't written
pub record LeavesCorrupt (j : Job) (w w' : RepairWorld) : Type 0 where
  pub v : Visit
  pub visited : IsVisited j v w w'
  pub corrupt : found_of j.write v.mended ≢ None

-- a block couldn't be visited: a hash block above it is corrupt, or the hash device failed
pub record IsSkipped (j : Job) (w w' : RepairWorld) : Type 0 where
  pub height : ℕ
  pub index : ℕ
  pub inside : index < j.tree.shape.blocks
  pub read : IsWorldRead w w'
  pub cut : HasFailedRead w.hash_dev w'.hash_dev ⊎ IsCutOff j.tree index height w.hash_dev

-- verified hash blocks lead to a block's digest, but it wasn't read with this digest
pub record IsNotRead (j : Job) (h i : ℕ) (w w' : RepairWorld) : Type 0 where
  pub p : PathRecord
  pub inside : i < j.tree.shape.blocks
  pub way : IsWay j.tree i h p
  pub bad : IsBad (own h w) (sector_at j.tree.shape h i) (wanted j.tree.salt (digest_on p i h) (size_at j.tree.shape h / 512)) (own h w')
  pub read : IsWorldRead w w'

-- whether a block was read with its digest, if it was to be read
abbrev pub IsReadOr : Job → ℕ → ℕ → Bool → RepairWorld → RepairWorld → Bool → Type 0
IsReadOr j h i due w w' true = IsTrue due → IsGoodNow j h i w
IsReadOr j h i due w w' false = IsNotRead j h i w w'

-- a block wasn't read back after its write
abbrev pub IsNotReadBack : Job → RepairWorld → RepairWorld → Type 0
IsNotReadBack j w w' = (h : ℕ) × ((i : ℕ) × IsNotRead j h i w w')

-- one of these
abbrev pub IsFlaw : Job → RepairWorld → RepairWorld → Type 0
IsFlaw j w w' = LeavesCorrupt j w w' ⊎ (IsSkipped j w w' ⊎ IsNotReadBack j w w')

-- what is noted after a run was noted before it, or has its cause in the run
pub record HasFlaws (j : Job) (w w' : RepairWorld) (a b : BadBlocks) : Type 0 where
  pub corrupt : IsTrue b.any → IsTrue a.any ⊎ (HappensIn j (LeavesCorrupt j) w w' ⊎ HappensIn j (IsNotReadBack j) w w')
  pub skipped : IsTrue b.passed → IsTrue a.passed ⊎ HappensIn j (IsSkipped j) w w'
  pub unkept : IsTrue b.unkept → IsTrue a.unkept ⊎ HappensIn j (IsNotReadBack j) w w'
