-- Hash blocks that are read level by level, down to a data block.
use Rattle.std.specs.Prelude.{◌≡◌, ◌≢◌, ℕ, ◌+◌, ◌-◌, ◌*◌, ◌/◌, ◌<◌, ◌≤◌, Bool, IsTrue, List, length, Option, Some, None}
use Rattle.std.specs.Str.{bytes_eq}
use Rattle.std.specs.Prelude.{slice_set}
use Rattle.block_device.specs.Call.{Call, Calls}
use Rattle.block_device.specs.CallList.{AllReads}
use Rattle.block_device.specs.Device.{Device, HasFailed, capped}
use Rattle.tree_shape.specs.Digests.{digest}
use Rattle.tree_shape.specs.Shape.{levels, position, ancestor}
use Rattle.verity_format.specs.Blocks.{IsFullRead, IsBlockRead}
use Rattle.verity_format.specs.Image.{tree_sectors}
use Rattle.tree_path.specs.Path.{PathRecord, IsPathOf, block_of, digest_on, stored_block}

-- a path and a device before and after the steps, the data block that they lead to, and the level that they begin at
pub record Steps : Type 0 where
  pub old : PathRecord
  pub new : PathRecord
  pub device : Device
  pub device' : Device
  pub index : ℕ
  pub from : ℕ

abbrev pub steps : PathRecord → PathRecord → Device → Device → ℕ → ℕ → Steps
steps old new device device' index from = record { old = old; new = new; device = device; device' = device'; index = index; from = from }

-- the data block is in the tree, and the tree is within the device
pub record CanDescend (p : PathRecord) (device : Device) (i from to : ℕ) : Type 0 where
  pub index : i < p.shape.blocks
  pub order : to ≤ from
  pub few : from ≤ levels p.shape
  pub fits : tree_sectors p.shape ≤ device.size

-- the hash block of level `from` was read; `good` says whether it has its expected digest
pub record IsStepLoaded (w : Steps) (good : Bool) : Type 0 where
  pub block : List ℕ
  pub inside : w.from < length w.old.blocks
  pub is : w.new ≡ record w.old { blocks = slice_set w.old.blocks w.from block }
  pub test : good ≡ bytes_eq (digest w.old.salt block) (digest_on w.old w.index (w.from + 1))
  pub read : IsBlockRead w.device w.old.shape.hash_block (position w.old.shape w.from (ancestor w.old.shape (w.from + 1) w.index)) block w.device'

-- one call failed, and the failure was counted
pub record HasFailedOnce (old new : Device) : Type 0 where
  pub failed : HasFailed old new
  pub counted : new.failures ≡ capped (old.failures + 1)

-- the hash block of level `from` couldn't be read, and its buffer holds arbitrary bytes
pub record IsUnloaded (w : Steps) : Type 0 where
  pub block : List ℕ
  pub inside : w.from < length w.old.blocks
  pub is : w.new ≡ record w.old { blocks = slice_set w.old.blocks w.from block }
  pub fault : HasFailedOnce w.device w.device'

-- the tree and the blocks from level `from` up are unchanged
pub record IsKeptAbove (w : Steps) : Type 0 where
  pub same : IsPathOf w.old.shape w.old.salt w.old.root w.new
  pub kept : (l : ℕ) → w.from ≤ l → block_of w.new l ≡ block_of w.old l

-- the hash blocks below level `from` down to level `level` were read, each once, and those down to level `good` have
-- their expected digests
pub record IsDown (w : Steps) (good level : ℕ) : Type 0 where
  pub same : IsPathOf w.old.shape w.old.salt w.old.root w.new
  pub kept : (l : ℕ) → w.from ≤ l → block_of w.new l ≡ block_of w.old l
  pub goods : (l : ℕ) → good ≤ l → l < w.from → digest w.new.salt (block_of w.new l) ≡ digest_on w.new w.index (l + 1)
  pub stored : IsTrue w.device.steady → (l : ℕ) → level ≤ l → l < w.from → block_of w.new l ≡ stored_block w.old.shape w.device.image l w.index
  pub full : IsFullRead w.device ((w.from - level) * (w.old.shape.hash_block / 512)) w.device'

-- the block of level `level` doesn't have its expected digest; those above it up to `from` do
pub record IsStopped (w : Steps) (to level : ℕ) : Type 0 where
  pub between : (to ≤ level) × (level < w.from)
  pub down : IsDown w (level + 1) level
  pub bad : digest w.new.salt (block_of w.new level) ≢ digest_on w.new w.index (level + 1)

abbrev pub HasCome : Steps → ℕ → Option ℕ → Type 0
HasCome w to None = IsDown w to to
HasCome w to (Some level) = IsStopped w to level

-- at most n sectors were read, including those of failed calls
abbrev pub HasReadAtMost : Device → ℕ → Device → Type 0
HasReadAtMost old n new = new.reads ≤ old.reads + n

-- only reads were called
pub record MakesReads {D : Type 0} (does : D → Call → D → Type 0) (old new : D) : Type 0 where
  pub calls : List Call
  pub made : Calls does old calls new
  pub reads : AllReads calls
