-- The root hash blocks of two trees, which are read before the trees are compared.
use Rattle.std.specs.Prelude.{◌≡◌, ℕ, ◌-◌, ◌*◌, ◌/◌, ◌<◌, IsTrue, List}
use Rattle.allocation.specs.Refusal.{IsOutOfMemory}
use Rattle.block_device.specs.Device.{Device, HasFailed}
use Rattle.tree_shape.specs.Digests.{digest}
use Rattle.tree_shape.specs.Shape.{ShapeRecord, levels}
use Rattle.verity_format.specs.declared.verifying.VerifyFault.TheVariants.{Device as DeviceFailed}
use Rattle.verity_format.specs.Blocks.{IsFullRead}
use Rattle.verity_format.specs.declared.tree.VerityTree.{VerityTree}
use Rattle.tree_path.specs.Path.{largest_block, stored_block}
use Rattle.tree_difference.specs.declared.fault.DifferenceFault.{DifferenceFault}
use Rattle.tree_difference.specs.declared.fault.DifferenceFault.TheVariants.{Image, Hash, NoMemory}
use Rattle.tree_difference.specs.declared.fault.Which.{Which}
use Rattle.tree_difference.specs.Causes.{IsBadBlock}

-- the level of a tree's root hash block
abbrev pub root_level : ShapeRecord → ℕ
root_level s = levels s - 1

-- how many sectors the root hash block has: none if the tree has no level
abbrev pub root_sectors : ShapeRecord → ℕ
root_sectors s = (levels s - root_level s) * (s.hash_block / 512)

-- The root hash block was read, and has the root hash; on a steady device it is the stored block. A tree of one data block has
-- no hash block, and nothing is checked: its root hash is the digest of that data block.
pub record IsRootRead (s : ShapeRecord) (salt root : List ℕ) (device : Device) : Type 0 where
  pub block : List ℕ
  pub good : 0 < levels s → digest salt block ≡ root
  pub stored : IsTrue device.steady → 0 < levels s → block ≡ stored_block s device.image (root_level s) 0

-- the root hash block has another digest, the device failed, or an allocation was refused before a read
abbrev pub IsRootCause : VerityTree → List ℕ → Device → Device → Which → DifferenceFault → Type 0
IsRootCause t root device device' which (Hash tree level number) = (tree ≡ which) × IsBadBlock t.shape t.salt root device level number
IsRootCause t root device device' which (Image tree DeviceFailed) = (tree ≡ which) × HasFailed device device'
IsRootCause t root device device' which NoMemory = (device' ≡ device) × IsOutOfMemory largest_block
IsRootCause t root device device' which fault = ⊥

-- ---- relations for calls: the device before and after, as a proof sees it

abbrev pub ChecksRoot : {H : Type 0} → (H → Device) → H → H → VerityTree → List ℕ → Type 0
ChecksRoot state h h' tree root = IsRootRead tree.shape tree.salt root (state h) × IsFullRead (state h) (root_sectors tree.shape) (state h')

abbrev pub FailsToCheckRoot : {H : Type 0} → (H → Device) → H → H → Which → VerityTree → List ℕ → DifferenceFault → Type 0
FailsToCheckRoot state h h' which tree root = IsRootCause tree root (state h) (state h') which
