-- Trees with and without a superblock, and the effect of writing one.
use Rattle.std.specs.Prelude.{◌≡◌, ◌⊎◌, ℕ, Option, Some, None, List}
use Rattle.allocation.specs.Refusal.{IsOutOfMemory}
use Rattle.block_device.specs.Device.{Device, HasFailed}
use Rattle.tree_shape.specs.Shape.{ShapeRecord, shape_with}
use Rattle.verity_format.specs.declared.formatting.FormatFault.{FormatFault}
use Rattle.verity_format.specs.declared.formatting.FormatFault.TheVariants.{Device as DeviceFailed, NoMemory}
use Rattle.verity_format.specs.declared.tree.VerityTree.{VerityTree}
use Rattle.verity_format.specs.Access.{largest_allocation}
use Rattle.verity_format.specs.Formatting.{room_refusal}
use Rattle.verity_format.specs.Image.{tree_sectors}
use Rattle.verity_format.specs.Superblock.{SuperRecord, shape_of}
use Rattle.verity_format.specs.Writing.{IsTreeWritten}

-- the tree that follows a superblock
abbrev pub superblock_tree : SuperRecord → VerityTree
superblock_tree s = record { shape = shape_of s; salt = s.salt }

-- the tree with the same fields without a superblock before it
abbrev pub shape_alone : SuperRecord → ShapeRecord
shape_alone s = shape_with s.data_block s.hash_block s.blocks 0

abbrev pub tree_alone : SuperRecord → VerityTree
tree_alone s = record { shape = shape_alone s; salt = s.salt }

-- why a tree isn't written: a device is too small for the data blocks or the tree, or the hash device isn't writable
abbrev pub tree_refusal : ShapeRecord → Device → Device → Option FormatFault
tree_refusal shape data_dev hash_dev = room_refusal shape (tree_sectors shape) data_dev hash_dev

-- no refusal applied, and the whole tree was written
pub record IsTreeBuilt (shape : ShapeRecord) (salt : List ℕ) (data_dev hash_dev data_dev' hash_dev' : Device) (digest : List ℕ) : Type 0 where
  pub fit : tree_refusal shape data_dev hash_dev ≡ None
  pub written : IsTreeWritten shape salt data_dev hash_dev data_dev' hash_dev' digest

-- one of the two devices failed in the call, an allocation failed and neither device did, or a refusal applies and
-- neither device was accessed
abbrev pub IsBuildCause : ShapeRecord → Device → Device → Device → Device → FormatFault → Type 0
IsBuildCause shape data_dev hash_dev data_dev' hash_dev' DeviceFailed = HasFailed data_dev data_dev' ⊎ HasFailed hash_dev hash_dev'
IsBuildCause shape data_dev hash_dev data_dev' hash_dev' NoMemory = (data_dev'.failures ≡ data_dev.failures) × (hash_dev'.failures ≡ hash_dev.failures) × IsOutOfMemory largest_allocation
IsBuildCause shape data_dev hash_dev data_dev' hash_dev' fault = (tree_refusal shape data_dev hash_dev ≡ Some fault) × (data_dev' ≡ data_dev) × (hash_dev' ≡ hash_dev)

-- ---- calls, from the device states that a proof sees: first those before, then those after

-- the tree was written, and `root` is its root hash
abbrev pub BuildsTree : {D H : Type 0} → (D → Device) → (H → Device) → VerityTree → D → H → D → H → List ℕ → Type 0
BuildsTree data_state hash_state tree d h d' h' root = IsTreeBuilt tree.shape tree.salt (data_state d) (hash_state h) (data_state d') (hash_state h') root

-- why the tree wasn't written
abbrev pub FailsToBuildTree : {D H : Type 0} → (D → Device) → (H → Device) → VerityTree → D → H → D → H → FormatFault → Type 0
FailsToBuildTree data_state hash_state tree d h d' h' fault = IsBuildCause tree.shape (data_state d) (hash_state h) (data_state d') (hash_state h') fault
