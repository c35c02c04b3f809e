-- The chain of a data block as two devices store it.
use Rattle.std.specs.Prelude.{◌≡◌, ◌⊎◌, ℕ, zero, suc, ◌+◌, ◌*◌, ◌/◌, IsTrue, List, Vec, [], ◌∷◌, map}
use Rattle.std.specs.Global.{Global}
use Rattle.allocation.specs.Refusal.{IsOutOfMemory}
use Rattle.block_device.specs.Device.{Device, HasFailed}
use Rattle.tree_shape.specs.Shape.{ShapeRecord, levels, position, ancestor}
use Rattle.hash_tree.specs.Chain.{ChainRecord}
use Rattle.verity_format.specs.declared.chains.ChainFault.{ChainFault}
use Rattle.verity_format.specs.declared.chains.ChainFault.TheVariants.{Device as DeviceFailed, NoMemory}
use Rattle.verity_format.specs.Access.{largest_allocation}
use Rattle.verity_format.specs.Blocks.{IsFullRead, block_at}

-- the stored hash blocks above data block i, of the n levels from n - 1 down to 0
abbrev pub stored_path : ShapeRecord → List (List ℕ) → ℕ → ℕ → List (List ℕ)
stored_path shape image zero i = []
stored_path shape image (suc l) i = block_at image shape.hash_block (position shape l (ancestor shape (l + 1) i)) ∷ stored_path shape image l i

-- stored data block i and the stored hash blocks on its path
unfoldable pub stored_chain : ShapeRecord → List (List ℕ) → List (List ℕ) → ℕ → ChainRecord
stored_chain shape data_image hash_image i = record {
  index = i;
  content = block_at data_image shape.data_block i;
  path = stored_path shape hash_image (levels shape) i;
}

-- no call failed, and each sector of the chain was read once
pub record IsChainRead (shape : ShapeRecord) (data_dev hash_dev data_dev' hash_dev' : Device) : Type 0 where
  pub data_read : IsFullRead data_dev (shape.data_block / 512) data_dev'
  pub hash_read : IsFullRead hash_dev (levels shape * (shape.hash_block / 512)) hash_dev'

-- one of the two devices failed in the call, or an allocation failed and neither device was accessed
abbrev pub IsChainCause : Device → Device → Device → Device → ChainFault → Type 0
IsChainCause data_dev hash_dev data_dev' hash_dev' DeviceFailed = HasFailed data_dev data_dev' ⊎ HasFailed hash_dev hash_dev'
IsChainCause data_dev hash_dev data_dev' hash_dev' NoMemory = (data_dev' ≡ data_dev) × (hash_dev' ≡ hash_dev) × IsOutOfMemory largest_allocation

-- the hash blocks above data block i were read, each once; if the device is steady, they are those stored there
pub record IsPathRead (shape : ShapeRecord) (i : ℕ) (old : Device) (blocks : List (List ℕ)) (new : Device) : Type 0 where
  pub path : IsTrue old.steady → blocks ≡ stored_path shape old.image (levels shape) i
  pub full : IsFullRead old (levels shape * (shape.hash_block / 512)) new

-- ---- calls, from the device states that a proof sees: first those before, then those after

-- the chain is that of the data block, and if both devices are steady, the stored one
abbrev pub IsStoredChain : {D H : Type 0} → (D → Device) → (H → Device) → ShapeRecord → D → H → ℕ → ChainRecord → Type 0
IsStoredChain data_state hash_state shape d h index chain =
    (chain.index ≡ index) × (IsTrue (data_state d).steady → IsTrue (hash_state h).steady → chain ≡ stored_chain shape (data_state d).image (hash_state h).image index)

-- the blocks of the chain were read, each once, and no call failed
abbrev pub ReadsChain : {D H : Type 0} → (D → Device) → (H → Device) → ShapeRecord → D → H → D → H → Type 0
ReadsChain data_state hash_state shape d h d' h' = IsChainRead shape (data_state d) (hash_state h) (data_state d') (hash_state h')

-- why the chain wasn't read
abbrev pub FailsToReadChain : {D H : Type 0} → (D → Device) → (H → Device) → D → H → D → H → ChainFault → Type 0
FailsToReadChain data_state hash_state d h d' h' fault = IsChainCause (data_state d) (hash_state h) (data_state d') (hash_state h') fault

-- the hash blocks above a data block were read into these vectors
abbrev pub ReadsPath : {H : Type 0} → (H → Device) → ShapeRecord → ℕ → H → H → List (Vec ℕ Global) → Type 0
ReadsPath state shape index h h' path = IsPathRead shape index (state h) (map (λ b. b.items) path) (state h')
