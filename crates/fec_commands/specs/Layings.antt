-- The layout of the parity of a verity image, by its tree.
use Rattle.std.specs.Prelude.{◌≡◌, ◌≢◌, ◌⊎◌, ℕ, ◌<◌, ◌≤◌, ◌&&◌, nat_le, Bool}
use Rattle.block_device.specs.Device.{Device}
use Rattle.fec_area.specs.Layouts.{IsLaidOn, IsLayoutOf}
use Rattle.image_commands.specs.declared.fault.ImageFault.TheVariants.{Verify}
use Rattle.image_commands.specs.declared.tree_source.TreeSource.{TreeSource}
use Rattle.image_commands.specs.TreeSources.{IsNoTreeOf, IsSourceRefused, IsTreeOf}
use Rattle.verity_commands.specs.declared.verity_fault.VerityFault.TheVariants.{Image}
use Rattle.verity_format.specs.declared.tree.VerityTree.{VerityTree}
use Rattle.verity_format.specs.declared.verifying.VerifyFault.TheVariants.{TooSmall}
use Rattle.verity_format.specs.Image.{data_sectors}
use Rattle.fec_commands.specs.declared.fault.FecFault.{FecFault}
use Rattle.fec_commands.specs.declared.fault.FecFault.TheVariants.{BlockSizes, Verity}
use Rattle.fec_commands.specs.declared.image.LaidTree.{LaidTree}
use Rattle.fec_commands.specs.FecFaults.{no_source_fault}

-- a codeword of dm-verity-fec has 2 to 24 bytes of parity
abbrev pub IsRoots : ℕ → Type 0
IsRoots roots = (2 ≤ roots) × (roots ≤ 24)

abbrev pub is_roots : ℕ → Bool
is_roots roots = nat_le 2 roots && nat_le roots 24

-- The tree is that of its source: a superblock was read once, or nothing. The layout is that of this tree, and the covered blocks are
-- within the two devices.
pub record LaysOut (data_dev hash_dev : Device) (first : ℕ) (source : TreeSource) (roots : ℕ) (hash_dev' : Device) (laid : LaidTree) : Type 0 where
  pub tree_of : IsTreeOf source data_dev.size hash_dev first hash_dev' laid.tree
  pub is : IsLayoutOf laid.tree.shape hash_dev.size roots laid.layout
  pub laid_on : IsLaidOn laid.layout data_dev hash_dev'

-- the tree covers more data than there are
pub record AreDataShort (data_dev hash_dev : Device) (first : ℕ) (source : TreeSource) (hash_dev' : Device) (fault : FecFault) : Type 0 where
  pub tree : VerityTree
  pub tree_of : IsTreeOf source data_dev.size hash_dev first hash_dev' tree
  pub short : data_dev.size < data_sectors tree.shape
  pub is : fault ≡ Verity (Image (Verify TooSmall))

-- the tree's data blocks and hash blocks have different sizes
pub record HasOtherSizes (data_size : ℕ) (hash_dev : Device) (first : ℕ) (source : TreeSource) (hash_dev' : Device) (fault : FecFault) : Type 0 where
  pub tree : VerityTree
  pub tree_of : IsTreeOf source data_size hash_dev first hash_dev' tree
  pub differ : tree.shape.data_block ≢ tree.shape.hash_block
  pub is : fault ≡ BlockSizes

-- why there is no layout
abbrev pub IsLayoutEnd : Device → Device → ℕ → TreeSource → Device → FecFault → Type 0
IsLayoutEnd data_dev hash_dev first source hash_dev' fault =
    IsSourceRefused no_source_fault (IsNoTreeOf source data_dev.size hash_dev first hash_dev') fault
    ⊎ (AreDataShort data_dev hash_dev first source hash_dev' fault ⊎ HasOtherSizes data_dev.size hash_dev first source hash_dev' fault)

-- ---- in terms of devices of any type

abbrev pub IsLaidOut : {D H : Type 0} → (D → Device) → (H → Device) → D → H → ℕ → TreeSource → ℕ → H → LaidTree → Type 0
IsLaidOut data_state hash_state data_dev hash_dev first source roots hash_dev' laid = LaysOut (data_state data_dev) (hash_state hash_dev) first source roots (hash_state hash_dev') laid

abbrev pub IsNotLaidOut : {D H : Type 0} → (D → Device) → (H → Device) → D → H → ℕ → TreeSource → H → FecFault → Type 0
IsNotLaidOut data_state hash_state data_dev hash_dev first source hash_dev' fault = IsLayoutEnd (data_state data_dev) (hash_state hash_dev) first source (hash_state hash_dev') fault
