-- The result of comparing a data device with a hash device, and when they can't be compared.
use Rattle.std.specs.Prelude.{◌≡◌, ◌≢◌, ◌⊎◌, ℕ, ◌+◌, ◌<◌, ◌==◌, ◌||◌, nat_lt, Bool, true, false, Option, Some, None, if◌then◌else◌, IsTrue, List}
use Rattle.allocation.specs.Refusal.{IsOutOfMemory}
use Rattle.block_device.specs.Device.{Device, HasFailed}
use Rattle.tree_shape.specs.Shape.{ShapeRecord, area_blocks}
use Rattle.hash_tree.specs.Difference.{FirstDiffer}
use Rattle.verity_format.specs.declared.access.TreeFault.{TreeFault}
use Rattle.verity_format.specs.declared.access.TreeFault.TheVariants as tree
use Rattle.verity_format.specs.declared.decoding.SuperFault.{SuperFault}
use Rattle.verity_format.specs.declared.tree.VerityTree.{VerityTree}
use Rattle.verity_format.specs.declared.verifying.Verdict.{Verdict}
use Rattle.verity_format.specs.declared.verifying.Verdict.TheVariants.{Matches, RootDiffers, AreaDiffers}
use Rattle.verity_format.specs.declared.verifying.VerifyFault.{VerifyFault}
use Rattle.verity_format.specs.declared.verifying.VerifyFault.TheVariants.{Super, TooSmall, Device as DeviceFailed, NoMemory}
use Rattle.verity_format.specs.Superblock.{SuperRecord, shape_of, Carries, super_fault, read_of}
use Rattle.verity_format.specs.Access.{largest_allocation}
use Rattle.verity_format.specs.Blocks.{IsFullRead, block_at, blocks_at}
use Rattle.verity_format.specs.Image.{area_sectors, data_sectors, tree_sectors, area_over, root_over}

-- the hash blocks of a tree as the hash device stores them
abbrev pub stored_area : ShapeRecord → List (List ℕ) → List (List ℕ)
stored_area shape image = blocks_at image shape.hash_block shape.start (area_blocks shape)

-- the hash device stores the hash blocks of the tree over the data image
abbrev pub IsTreeStored : ShapeRecord → List ℕ → List (List ℕ) → List (List ℕ) → Type 0
IsTreeStored shape salt data_image hash_image = stored_area shape hash_image ≡ area_over shape salt data_image

-- the result: hash blocks are compared first, the root hash last; hash blocks are numbered from the beginning of the
-- hash device, so the first block of the tree has number `start`
abbrev pub IsVerdict : ShapeRecord → List ℕ → List (List ℕ) → List (List ℕ) → List ℕ → Verdict → Type 0
IsVerdict shape salt data_image hash_image root Matches = IsTreeStored shape salt data_image hash_image × (root_over shape salt data_image ≡ root)
IsVerdict shape salt data_image hash_image root RootDiffers = IsTreeStored shape salt data_image hash_image × (root_over shape salt data_image ≢ root)
IsVerdict shape salt data_image hash_image root (AreaDiffers block) =
    (k : ℕ) × ((block ≡ shape.start + k) × FirstDiffer (stored_area shape hash_image) (area_over shape salt data_image) k)

-- the data or the tree ends after its device
abbrev pub is_too_small : ShapeRecord → Device → Device → Bool
is_too_small shape data_dev hash_dev = nat_lt data_dev.size (data_sectors shape) || nat_lt hash_dev.size (tree_sectors shape)

-- a wrong field of the superblock, otherwise a device that is too small
abbrev pub refusal_of : Option SuperFault → Bool → Option VerifyFault
refusal_of (Some f) small = Some (Super f)
refusal_of None small = if small then Some TooSmall else None

-- why the devices can't be compared, given their sizes and the first sector of the hash device
unfoldable pub verify_refusal : Device → Device → List ℕ → Option VerifyFault
verify_refusal data_dev hash_dev sector =
    if hash_dev.size == 0 then Some TooSmall else refusal_of (super_fault sector) (is_too_small (shape_of (read_of sector)) data_dev hash_dev)

-- bytes that may have been read as the first sector: if the device is steady, the sector stored there
abbrev pub IsFirstSector : Device → List ℕ → Type 0
IsFirstSector device sector = IsTrue device.steady → sector ≡ block_at device.image 512 0

-- the device has a first sector, and the sector that was read stores the superblock
pub record IsReadFrom (hash_dev : Device) (sector : List ℕ) (s : SuperRecord) : Type 0 where
  pub some : 0 < hash_dev.size
  pub first : IsFirstSector hash_dev sector
  pub carried : Carries s sector

-- why no superblock was read: the device failed in the call, it has no sector, or a field of the sector that was read
-- is wrong
abbrev pub IsReadCause : Device → Device → VerifyFault → Type 0
IsReadCause hash_dev hash_dev' DeviceFailed = HasFailed hash_dev hash_dev'
IsReadCause hash_dev hash_dev' NoMemory = ⊥
IsReadCause hash_dev hash_dev' TooSmall = hash_dev.size ≡ 0
IsReadCause hash_dev hash_dev' (Super f) = (0 < hash_dev.size) × ((sector : List ℕ) × (IsFirstSector hash_dev sector × (super_fault sector ≡ Some f)))

-- the refusal that applies to the sector that was read
abbrev pub IsRefusedSuper : Device → Device → VerifyFault → Type 0
IsRefusedSuper data_dev hash_dev fault = (sector : List ℕ) × (IsFirstSector hash_dev sector × (verify_refusal data_dev hash_dev sector ≡ Some fault))

-- the cause of a fault: one of the two devices failed in the call, an allocation failed and neither device did, or a
-- refusal applies
abbrev pub IsVerifyCause : Device → Device → Device → Device → VerifyFault → Type 0
IsVerifyCause data_dev hash_dev data_dev' hash_dev' DeviceFailed = HasFailed data_dev data_dev' ⊎ HasFailed hash_dev hash_dev'
IsVerifyCause data_dev hash_dev data_dev' hash_dev' NoMemory = (data_dev'.failures ≡ data_dev.failures) × (hash_dev'.failures ≡ hash_dev.failures) × IsOutOfMemory largest_allocation
IsVerifyCause data_dev hash_dev data_dev' hash_dev' (Super f) = IsRefusedSuper data_dev hash_dev (Super f)
IsVerifyCause data_dev hash_dev data_dev' hash_dev' TooSmall = IsRefusedSuper data_dev hash_dev TooSmall

-- the data and the tree are within their devices, no call failed, and each sector of the data blocks and of the
-- tree's hash blocks was read once; if both devices are steady, the verdict is true of their contents
pub record IsTreeFound (shape : ShapeRecord) (salt : List ℕ) (data_dev hash_dev data_dev' hash_dev' : Device) (root : List ℕ) (verdict : Verdict) : Type 0 where
  pub fit : is_too_small shape data_dev hash_dev ≡ false
  pub data_read : IsFullRead data_dev (data_sectors shape) data_dev'
  pub hash_read : IsFullRead hash_dev (area_sectors shape) hash_dev'
  pub found : IsTrue data_dev.steady → IsTrue hash_dev.steady → IsVerdict shape salt data_dev.image hash_dev.image root verdict

-- why a tree wasn't compared: one of the two devices failed in the call, an allocation failed and neither device did,
-- or the data or the tree ends after its device and neither device was read
abbrev pub IsTreeVerifyCause : ShapeRecord → Device → Device → Device → Device → VerifyFault → Type 0
IsTreeVerifyCause shape data_dev hash_dev data_dev' hash_dev' DeviceFailed = HasFailed data_dev data_dev' ⊎ HasFailed hash_dev hash_dev'
IsTreeVerifyCause shape data_dev hash_dev data_dev' hash_dev' NoMemory = (data_dev'.failures ≡ data_dev.failures) × (hash_dev'.failures ≡ hash_dev.failures) × IsOutOfMemory largest_allocation
IsTreeVerifyCause shape data_dev hash_dev data_dev' hash_dev' (Super f) = ⊥
IsTreeVerifyCause shape data_dev hash_dev data_dev' hash_dev' TooSmall = (is_too_small shape data_dev hash_dev ≡ true) × (data_dev' ≡ data_dev) × (hash_dev' ≡ hash_dev)

-- the number of sectors read from the hash device: those of the superblock and of the tree's hash blocks
abbrev pub hash_sectors_read : SuperRecord → ℕ
hash_sectors_read s = 1 + area_sectors (shape_of s)

-- no refusal applies to the first sector that was read, no call failed, and each sector of the data blocks, the
-- superblock and the tree's hash blocks was read once; if both devices are steady, the verdict is true of their
-- contents
pub record IsFound (data_dev hash_dev data_dev' hash_dev' : Device) (root : List ℕ) (verdict : Verdict) : Type 0 where
  pub sector : List ℕ
  pub first : IsFirstSector hash_dev sector
  pub fit : verify_refusal data_dev hash_dev sector ≡ None
  pub data_read : IsFullRead data_dev (data_sectors (shape_of (read_of sector))) data_dev'
  pub hash_read : IsFullRead hash_dev (hash_sectors_read (read_of sector)) hash_dev'
  pub found : IsTrue data_dev.steady → IsTrue hash_dev.steady → IsVerdict (shape_of (read_of sector)) (read_of sector).salt data_dev.image hash_dev.image root verdict

-- the fault of verifying for a fault of a tree
abbrev pub verify_fault_of : TreeFault → VerifyFault
verify_fault_of tree.Device = DeviceFailed
verify_fault_of tree.NoMemory = NoMemory

-- ---- calls, from the device states that a proof sees: first those before, then those after

-- the devices were compared, with this verdict
abbrev pub FindsBoth : {D H : Type 0} → (D → Device) → (H → Device) → D → H → D → H → List ℕ → Verdict → Type 0
FindsBoth data_state hash_state d h d' h' root verdict = IsFound (data_state d) (hash_state h) (data_state d') (hash_state h') root verdict

-- a tree was compared with the one on the hash device, with this verdict
abbrev pub FindsTree : {D H : Type 0} → (D → Device) → (H → Device) → VerityTree → D → H → D → H → List ℕ → Verdict → Type 0
FindsTree data_state hash_state tree d h d' h' root verdict = IsTreeFound tree.shape tree.salt (data_state d) (hash_state h) (data_state d') (hash_state h') root verdict

-- why the tree wasn't compared
abbrev pub FailsToFindTree : {D H : Type 0} → (D → Device) → (H → Device) → VerityTree → D → H → D → H → VerifyFault → Type 0
FailsToFindTree data_state hash_state tree d h d' h' fault = IsTreeVerifyCause tree.shape (data_state d) (hash_state h) (data_state d') (hash_state h') fault

-- why the devices weren't compared
abbrev pub FailsToVerify : {D H : Type 0} → (D → Device) → (H → Device) → D → H → D → H → VerifyFault → Type 0
FailsToVerify data_state hash_state d h d' h' fault = IsVerifyCause (data_state d) (hash_state h) (data_state d') (hash_state h') fault
