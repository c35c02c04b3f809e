-- Hash blocks compared with those stored on a device.
use Rattle.std.specs.Prelude.{◌≡◌, ℕ, ◌+◌, ◌*◌, ◌/◌, ◌^◌, ◌≤◌, min, IsTrue, Option, List, ◌++◌, length}
use Rattle.block_device.specs.Device.{Device}
use Rattle.tree_shape.specs.Shape.{IsShape, ShapeRecord}
use Rattle.hash_tree.specs.Building.{BuilderRecord, PlacedRecord, begun_builder, completed, numbered}
use Rattle.hash_tree.specs.Placing.{IsLeastDiffering}
use Rattle.verity_format.specs.Blocks.{IsFullRead, block_at}
use Rattle.verity_format.specs.Image.{data_sectors, area_sectors, area_over, root_over}
use Rattle.verity_format.specs.Growth.{IsTaken}

-- a block of that size within the device
abbrev pub LiesOn : Device → ℕ → PlacedRecord → Type 0
LiesOn device size p = p.block * (size / 512) + size / 512 ≤ min device.size (2 ^ 54)

-- if the device is steady: given the first differing block among those compared before, the first differing block
-- with these included
abbrev pub IsLeastWith : Device → ℕ → List PlacedRecord → Option ℕ → Option ℕ → Type 0
IsLeastWith device size out before least =
    IsTrue device.steady → (ps : List PlacedRecord) → IsLeastDiffering (block_at device.image size) ps before → IsLeastDiffering (block_at device.image size) (ps ++ out) least

-- these blocks were read, each once; `after` is the first that differs among those compared before and these
pub record AreCompared (old : Device) (size : ℕ) (blocks : List PlacedRecord) (before after : Option ℕ) (new : Device) : Type 0 where
  pub least : IsLeastWith old size blocks before after
  pub full : IsFullRead old (length blocks * (size / 512)) new

-- the hash blocks completed by the first data blocks were read, each once, and the first of them that differs is
-- known
pub record IsComparing (shape : ShapeRecord) (salt : List ℕ) (data_dev hash_dev data_dev' hash_dev' : Device) (b : BuilderRecord) (least : Option ℕ) : Type 0 where
  pub taken : IsTaken shape salt data_dev data_dev' b
  pub read : IsFullRead hash_dev (length (completed (begun_builder shape salt) taken.digests) * (shape.hash_block / 512)) hash_dev'
  pub found : IsTrue hash_dev.steady → IsLeastDiffering (block_at hash_dev.image shape.hash_block) (completed (begun_builder shape salt) taken.digests) least

-- all data blocks and all hash blocks of the tree were read, each once, and no call failed; if both devices are
-- steady, these are the first hash block that differs from the tree over the data, and the root hash of that tree
pub record IsTreeCompared (shape : ShapeRecord) (salt : List ℕ) (data_dev hash_dev data_dev' hash_dev' : Device) (least : Option ℕ) (digest : List ℕ) : Type 0 where
  pub valid : IsShape shape
  pub data_read : IsFullRead data_dev (data_sectors shape) data_dev'
  pub hash_read : IsFullRead hash_dev (area_sectors shape) hash_dev'
  pub root : IsTrue data_dev.steady → digest ≡ root_over shape salt data_dev.image
  pub found : IsTrue data_dev.steady → IsTrue hash_dev.steady → IsLeastDiffering (block_at hash_dev.image shape.hash_block) (numbered shape.start (area_over shape salt data_dev.image)) least

-- ---- calls, from the device states that a proof sees: first those before, then those after

-- these blocks were read, each once, and `after` is the first that differs
abbrev pub ComparesPlaced : {H : Type 0} → (H → Device) → H → H → ℕ → List PlacedRecord → Option ℕ → Option ℕ → Type 0
ComparesPlaced state h h' size blocks before after = AreCompared (state h) size blocks before after (state h')

-- all blocks of the tree were read, each once, and `least` is the first that differs
abbrev pub ComparesTree : {D H : Type 0} → (D → Device) → (H → Device) → ShapeRecord → List ℕ → D → H → D → H → Option ℕ → List ℕ → Type 0
ComparesTree data_state hash_state shape salt d h d' h' least digest = IsTreeCompared shape salt (data_state d) (hash_state h) (data_state d') (hash_state h') least digest
