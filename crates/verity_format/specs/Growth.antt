-- A tree that is built from a device's data blocks, run by run.
use Rattle.std.specs.Prelude.{◌≡◌, ◌⊎◌, ℕ, ◌-◌, ◌*◌, ◌/◌, ◌<◌, ◌≤◌, IsTrue, List, Vec, length, map, All}
use Rattle.std.specs.Global.{Global}
use Rattle.allocation.specs.Refusal.{IsOutOfMemory}
use Rattle.block_device.specs.Device.{Device, HasFailed}
use Rattle.tree_shape.specs.Digests.{digest}
use Rattle.tree_shape.specs.Shape.{ShapeRecord}
use Rattle.hash_tree.specs.Building.{BuilderRecord, PlacedRecord, begun_builder, pushed, completed}
use Rattle.verity_format.specs.declared.access.TreeFault.{TreeFault}
use Rattle.verity_format.specs.declared.access.TreeFault.TheVariants.{Device as DeviceFailed, NoMemory}
use Rattle.verity_format.specs.Access.{largest_allocation}
use Rattle.verity_format.specs.Blocks.{IsFullRead, blocks_at}

abbrev pub IsDigest : List ℕ → Type 0
IsDigest d = length d ≡ 32

-- a run of data blocks was read, each once; the builder took their digests and emitted the hash blocks that they
-- complete
pub record IsRunTaken (shape : ShapeRecord) (salt : List ℕ) (old new : Device) (b b' : BuilderRecord) (out : List PlacedRecord) : Type 0 where
  pub digests : List (List ℕ)
  pub sized : All IsDigest digests
  pub some : 0 < length digests
  pub few : length digests ≤ b.left
  pub after : b' ≡ pushed b digests
  pub placed : out ≡ completed b digests
  pub read : IsFullRead old (length digests * (shape.data_block / 512)) new
  pub over : IsTrue old.steady → digests ≡ map (digest salt) (blocks_at old.image shape.data_block (shape.blocks - b.left) (length digests))

-- the first data blocks were read, each once, and the builder took their digests
pub record IsTaken (shape : ShapeRecord) (salt : List ℕ) (old new : Device) (b : BuilderRecord) : Type 0 where
  pub digests : List (List ℕ)
  pub sized : All IsDigest digests
  pub few : length digests ≤ shape.blocks
  pub after : b ≡ pushed (begun_builder shape salt) digests
  pub read : IsFullRead old (length digests * (shape.data_block / 512)) new
  pub over : IsTrue old.steady → digests ≡ map (digest salt) (blocks_at old.image shape.data_block 0 (length digests))

-- one of two devices failed in the call, or an allocation failed and neither device did
abbrev pub IsPairCause : Device → Device → Device → Device → TreeFault → Type 0
IsPairCause data_dev hash_dev data_dev' hash_dev' DeviceFailed = HasFailed data_dev data_dev' ⊎ HasFailed hash_dev hash_dev'
IsPairCause data_dev hash_dev data_dev' hash_dev' NoMemory = (data_dev'.failures ≡ data_dev.failures) × (hash_dev'.failures ≡ hash_dev.failures) × IsOutOfMemory largest_allocation

-- ---- calls, from the device states that a proof sees: first those before, then those after

-- the next run was read and taken by the builder
abbrev pub TakesRun : {D : Type 0} → (D → Device) → ShapeRecord → List ℕ → D → D → BuilderRecord → BuilderRecord → Vec PlacedRecord Global → Type 0
TakesRun state shape salt d d' b b' out = IsRunTaken shape salt (state d) (state d') b b' out.items

-- one of the two devices failed, or an allocation failed and neither device did
abbrev pub FailsOnEither : {D H : Type 0} → (D → Device) → (H → Device) → D → H → D → H → TreeFault → Type 0
FailsOnEither data_state hash_state d h d' h' fault = IsPairCause (data_state d) (hash_state h) (data_state d') (hash_state h') fault
