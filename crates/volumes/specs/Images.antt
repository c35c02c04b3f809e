-- What is known of a verity image, and of a block that was read of it.
use Rattle.std.specs.Prelude.{◌≡◌, ◌⊎◌, ℕ, ◌≤◌, ◌<◌, IsTrue, List}
use Rattle.allocation.specs.Refusal.{IsOutOfMemory}
use Rattle.block_device.specs.Device.{Device, HasFailed}
use Rattle.hash_tree.specs.Chain.{ChainRecord, IsGood}
use Rattle.verity_format.specs.Access.{largest_allocation}
use Rattle.verity_format.specs.Chain.{IsChainRead, stored_chain}
use Rattle.verity_format.specs.Image.{data_sectors, tree_sectors}
use Rattle.verity_format.specs.Superblock.{SuperRecord}
use Rattle.verity_format.specs.Trees.{superblock_tree}
use Rattle.verity_format.specs.Verifying.{IsReadCause, IsReadFrom}
use Rattle.verity_format.specs.declared.tree.VerityTree.{VerityTree}
use Rattle.verity_format.specs.declared.verifying.VerifyFault.{VerifyFault}
use Rattle.volumes.specs.declared.image.BlockFault.{BlockFault}
use Rattle.volumes.specs.declared.image.BlockFault.TheVariants.{OutOfRange, TooSmall, Mismatch, Device as DeviceFailed, NoMemory}
use Rattle.volumes.specs.declared.image.VerityImage.{VerityImage}

-- the tree is that of the superblock which the hash device's first sector stores
pub record HasTree (hash_dev : Device) (tree : VerityTree) : Type 0 where
  pub sector : List ℕ
  pub superblock : SuperRecord
  pub read : IsReadFrom hash_dev sector superblock
  pub is : tree ≡ superblock_tree superblock

-- why no superblock was read; the hash device is gone afterwards
abbrev pub FailsToOpen : {D : Type 0} → (D → Device) → D → VerifyFault → Type 0
FailsToOpen {D} state hash_dev fault = (after : D) × IsReadCause (state hash_dev) (state after) fault

-- hash blocks lead from the root hash to the bytes of that data block
pub record IsVerified (tree : VerityTree) (root : List ℕ) (index : ℕ) (bytes : List ℕ) : Type 0 where
  pub chain : ChainRecord
  pub good : IsGood tree.shape tree.salt root chain
  pub index_is : chain.index ≡ index
  pub content : chain.content ≡ bytes

-- The data block and the hash blocks above it were read, each once, and don't lead to the block from the root hash. On steady
-- devices they are the stored ones.
pub record IsMismatch (tree : VerityTree) (root : List ℕ) (index : ℕ) (data_dev hash_dev data_dev' hash_dev' : Device) : Type 0 where
  pub chain : ChainRecord
  pub read : IsChainRead tree.shape data_dev hash_dev data_dev' hash_dev'
  pub stored : IsTrue data_dev.steady → IsTrue hash_dev.steady → chain ≡ stored_chain tree.shape data_dev.image hash_dev.image index
  pub bad : IsGood tree.shape tree.salt root chain → ⊥

-- why a block isn't returned
abbrev pub IsBlockCause : VerityTree → List ℕ → ℕ → Device → Device → Device → Device → BlockFault → Type 0
IsBlockCause tree root index data_dev hash_dev data_dev' hash_dev' OutOfRange = tree.shape.blocks ≤ index
IsBlockCause tree root index data_dev hash_dev data_dev' hash_dev' TooSmall = (data_dev.size < data_sectors tree.shape) ⊎ (hash_dev.size < tree_sectors tree.shape)
IsBlockCause tree root index data_dev hash_dev data_dev' hash_dev' Mismatch = IsMismatch tree root index data_dev hash_dev data_dev' hash_dev'
IsBlockCause tree root index data_dev hash_dev data_dev' hash_dev' DeviceFailed = HasFailed data_dev data_dev' ⊎ HasFailed hash_dev hash_dev'
IsBlockCause tree root index data_dev hash_dev data_dev' hash_dev' NoMemory = (data_dev' ≡ data_dev) × (hash_dev' ≡ hash_dev) × IsOutOfMemory largest_allocation

abbrev pub FailsToReadBlock : {D H : Type 0} → (D → Device) → (H → Device) → VerityImage D H → VerityImage D H → ℕ → BlockFault → Type 0
FailsToReadBlock data_state hash_state old new index fault =
    IsBlockCause old.tree old.root index (data_state old.data_dev) (hash_state old.hash_dev) (data_state new.data_dev) (hash_state new.hash_dev) fault
