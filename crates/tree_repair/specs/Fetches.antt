-- Runs of neighbouring data blocks that are fetched from copies.
use Rattle.std.specs.Prelude.{◌≡◌, ◌⊎◌, ℕ, ◌+◌, ◌-◌, ◌*◌, ◌/◌, ◌^◌, ◌<◌, ◌≤◌, List}
use Rattle.block_device.specs.Call.{Call}
use Rattle.block_device.specs.Device.{capped}
use Rattle.tree_path.specs.Path.{PathRecord, digest_on}
use Rattle.tree_survey.specs.Failing.{HasFailedRead}
use Rattle.tree_survey.specs.Surveys.{IsWay}
use Rattle.tree_repair.specs.Parity.{IsPlace}
use Rattle.tree_repair.specs.ParitySearches.{IsCutOff}
use Rattle.tree_repair.specs.RepairCalls.{IsReadOnce}
use Rattle.tree_repair.specs.Runs.{Job}
use Rattle.tree_repair.specs.Sources.{IsBad, IsThere, wanted}
use Rattle.tree_repair.specs.Worlds.{IsWorldRead, RepairWorld}

-- a read of data block i didn't give bytes with the digest that a path has for it
abbrev pub IsNotOnData : Job → PathRecord → ℕ → RepairWorld → RepairWorld → Type 0
IsNotOnData j p i w w' = IsBad w.data_dev (i * (j.tree.shape.data_block / 512)) (wanted j.tree.salt (digest_on p i 0) (j.tree.shape.data_block / 512)) w'.data_dev

-- verified hash blocks lead to data block i, and the data device lacked it at some time while the devices were only read
pub record IsLacking (j : Job) (i : ℕ) (w w' : RepairWorld) : Type 0 where
  pub path : PathRecord
  pub way : IsWay j.tree i 0 path
  pub a : RepairWorld
  pub b : RepairWorld
  pub before : IsWorldRead w a
  pub missing : IsNotOnData j path i a b
  pub behind : IsWorldRead b w'

-- so it did each block between a first one and an end
abbrev pub AreLacking : Job → ℕ → ℕ → RepairWorld → RepairWorld → Type 0
AreLacking j first end w w' = (i : ℕ) → first < i → i < end → IsLacking j i w w'

-- the data device has data block i: bytes with the digest that a path has for it
abbrev pub IsOnData : Job → PathRecord → ℕ → RepairWorld → List ℕ → Type 0
IsOnData j p i w bytes = IsThere w.data_dev (i * (j.tree.shape.data_block / 512)) (wanted j.tree.salt (digest_on p i 0) (j.tree.shape.data_block / 512)) bytes

-- Data block i wasn't lacking at some time, while the devices were only read: the tree doesn't have it, a hash block above it is corrupt
-- or couldn't be read, or the data device has it.
pub record IsNotLacking (j : Job) (i : ℕ) (w : RepairWorld) : Type 0 where
  pub a : RepairWorld
  pub b : RepairWorld
  pub before : IsWorldRead w a
  pub why : (IsPlace j.tree.shape 0 i → ⊥) ⊎ ((HasFailedRead a.hash_dev b.hash_dev ⊎ IsCutOff j.tree i 0 a.hash_dev) ⊎ ((p : PathRecord) × (IsWay j.tree i 0 p × ((bytes : List ℕ) × IsOnData j p i a bytes))))

-- how many blocks of a size a read of at most 1 MiB has
abbrev pub most_blocks : ℕ → ℕ
most_blocks size = 1048576 / size

-- a run of blocks of a size is as long as a read can be, or ends before a block that isn't lacking
abbrev pub IsWholeRun : Job → ℕ → ℕ → ℕ → RepairWorld → Type 0
IsWholeRun j size first end w = (capped (first + most_blocks size) ≤ end) ⊎ IsNotLacking j end w

-- one read into a buffer, from a sector that a device can have, or no call
abbrev pub IsReadAtMostOnce : {B : Type 0} → (B → Call → B → Type 0) → ℕ → List ℕ → B → B → Type 0
IsReadAtMostOnce does first bytes old new = (new ≡ old) ⊎ ((first < 2 ^ 64 - 1) × IsReadOnce does first bytes old new)
