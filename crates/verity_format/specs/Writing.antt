-- Hash blocks that are written to a device.
use Rattle.std.specs.Prelude.{◌≡◌, ◌⊎◌, ℕ, ◌+◌, ◌*◌, ◌/◌, ◌≤◌, IsTrue, All, List, length, take, drop}
use Rattle.allocation.specs.Refusal.{IsOutOfMemory}
use Rattle.block_device.specs.Device.{Device, IsSameDevice, HasFailed, capped}
use Rattle.tree_shape.specs.Shape.{ShapeRecord, area_blocks}
use Rattle.hash_tree.specs.Building.{BuilderRecord, PlacedRecord, begun_builder, completed}
use Rattle.hash_tree.specs.Placing.{written}
use Rattle.verity_format.specs.declared.access.TreeFault.{TreeFault}
use Rattle.verity_format.specs.declared.access.TreeFault.TheVariants.{Device as DeviceFailed, NoMemory}
use Rattle.verity_format.specs.Access.{largest_allocation}
use Rattle.verity_format.specs.Blocks.{IsOnlyRead, IsFullRead, block_at}
use Rattle.verity_format.specs.Comparing.{LiesOn}
use Rattle.verity_format.specs.Growth.{IsTaken}
use Rattle.verity_format.specs.Image.{area_sectors, data_sectors, root_over, tree_sectors, with_tree}

-- a block of that size within the device
abbrev pub MayStand : Device → ℕ → PlacedRecord → Type 0
MayStand device size p = (length p.bytes ≡ size) × LiesOn device size p

-- a block from block `first` on and within the first `last` sectors
abbrev pub LiesBetween : ℕ → ℕ → ℕ → PlacedRecord → Type 0
LiesBetween size first last p = (first ≤ p.block) × (p.block * (size / 512) + size / 512 ≤ last)

-- at most n blocks of that size were written, each from block `first` on and within the first `last` sectors, whether
-- the writes failed or not
pub record IsPartWritten (size first last n : ℕ) (old new : Device) : Type 0 where
  pub same : IsSameDevice old new
  pub reads : new.reads ≡ old.reads
  pub writes : new.writes ≤ old.writes + n * (size / 512)
  pub before : IsTrue old.steady → take (first * (size / 512)) new.image ≡ take (first * (size / 512)) old.image
  pub after : IsTrue old.steady → drop last new.image ≡ drop last old.image

-- these blocks were written, each once, and no call failed
pub record AreBlocksWritten (size : ℕ) (old : Device) (ps : List PlacedRecord) (new : Device) : Type 0 where
  pub writes : capped new.writes ≡ capped (old.writes + length ps * (size / 512))
  pub failures : new.failures ≡ old.failures
  pub blocks : IsTrue old.steady → (i : ℕ) → block_at new.image size i ≡ written (block_at old.image size) ps i

-- at most the tree's blocks were written, whether the writes failed or not
abbrev pub IsPartOfTree : ShapeRecord → Device → Device → Type 0
IsPartOfTree shape old new = IsPartWritten shape.hash_block shape.start (tree_sectors shape) (area_blocks shape) old new

-- the data device was only read, and on the hash device at most the tree's blocks were written
pub record IsTreeMoved (shape : ShapeRecord) (data_dev hash_dev data_dev' hash_dev' : Device) : Type 0 where
  pub read : IsOnlyRead data_dev data_dev'
  pub part : IsPartOfTree shape hash_dev hash_dev'

-- the hash blocks completed by the first data blocks were written, each once
pub record IsWriting (shape : ShapeRecord) (salt : List ℕ) (data_dev hash_dev data_dev' hash_dev' : Device) (b : BuilderRecord) : Type 0 where
  pub taken : IsTaken shape salt data_dev data_dev' b
  pub part : IsPartWritten shape.hash_block shape.start (tree_sectors shape) (length (completed (begun_builder shape salt) taken.digests)) hash_dev hash_dev'
  pub done : AreBlocksWritten shape.hash_block hash_dev (completed (begun_builder shape salt) taken.digests) hash_dev'

-- all data blocks were read and all blocks of the tree written, each once, and no call failed; if both devices are
-- steady, the hash device stores the tree over the data and is unchanged elsewhere, and `digest` is the root hash
pub record IsTreeWritten (shape : ShapeRecord) (salt : List ℕ) (data_dev hash_dev data_dev' hash_dev' : Device) (digest : List ℕ) : Type 0 where
  pub read : IsFullRead data_dev (data_sectors shape) data_dev'
  pub writes : capped hash_dev'.writes ≡ capped (hash_dev.writes + area_sectors shape)
  pub failures : hash_dev'.failures ≡ hash_dev.failures
  pub root : IsTrue data_dev.steady → digest ≡ root_over shape salt data_dev.image
  pub image : IsTrue data_dev.steady → IsTrue hash_dev.steady → hash_dev'.image ≡ with_tree shape salt data_dev.image hash_dev.image

-- the data device failed and the hash device didn't, the hash device failed, or an allocation failed and neither
-- device did
abbrev pub IsWriteCause : Device → Device → Device → Device → TreeFault → Type 0
IsWriteCause data_dev hash_dev data_dev' hash_dev' DeviceFailed = (HasFailed data_dev data_dev' × (hash_dev'.failures ≡ hash_dev.failures)) ⊎ HasFailed hash_dev hash_dev'
IsWriteCause data_dev hash_dev data_dev' hash_dev' NoMemory = (data_dev'.failures ≡ data_dev.failures) × (hash_dev'.failures ≡ hash_dev.failures) × IsOutOfMemory largest_allocation

-- ---- calls, from the device states that a proof sees: first those before, then those after

-- if all these blocks are between two limits, nothing outside the limits was written
abbrev pub WritesWithin : {H : Type 0} → (H → Device) → ℕ → List PlacedRecord → H → H → Type 0
WritesWithin state size blocks h h' = (first last : ℕ) → All (LiesBetween size first last) blocks → IsPartWritten size first last (length blocks) (state h) (state h')

-- the data device was only read, and on the hash device at most the tree's blocks were written
abbrev pub MovesTree : {D H : Type 0} → (D → Device) → (H → Device) → ShapeRecord → D → H → D → H → Type 0
MovesTree data_state hash_state shape d h d' h' = IsTreeMoved shape (data_state d) (hash_state h) (data_state d') (hash_state h')

-- the whole tree was written, and `digest` is its root hash
abbrev pub WritesTree : {D H : Type 0} → (D → Device) → (H → Device) → ShapeRecord → List ℕ → D → H → D → H → List ℕ → Type 0
WritesTree data_state hash_state shape salt d h d' h' digest = IsTreeWritten shape salt (data_state d) (hash_state h) (data_state d') (hash_state h') digest

-- why the tree wasn't written
abbrev pub FailsToWrite : {D H : Type 0} → (D → Device) → (H → Device) → D → H → D → H → TreeFault → Type 0
FailsToWrite data_state hash_state d h d' h' fault = IsWriteCause (data_state d) (hash_state h) (data_state d') (hash_state h') fault
