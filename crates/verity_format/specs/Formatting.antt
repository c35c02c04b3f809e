-- When formatting is refused, and the cause and effect of each fault.
use Rattle.std.specs.Prelude.{◌≡◌, ◌⊎◌, ℕ, ◌/◌, true, false, not, nat_lt, Option, Some, None, is_some, if◌then◌else◌, IsTrue, List, drop, Result, Err, IfOk, IfErr}
use Rattle.allocation.specs.Refusal.{IsOutOfMemory}
use Rattle.block_device.specs.Device.{Device, HasFailed, IsWritten}
use Rattle.tree_shape.specs.Shape.{ShapeRecord, first_fault}
use Rattle.verity_format.specs.declared.access.TreeFault.{TreeFault}
use Rattle.verity_format.specs.declared.access.TreeFault.TheVariants as tree
use Rattle.verity_format.specs.declared.formatting.FormatFault.{FormatFault}
use Rattle.verity_format.specs.declared.formatting.FormatFault.TheVariants.{Shape, DataTooSmall, HashTooSmall, HashReadOnly, Device as DeviceFailed, NoMemory}
use Rattle.verity_format.specs.Superblock.{SuperRecord, shape_of}
use Rattle.verity_format.specs.Access.{largest_allocation}
use Rattle.verity_format.specs.Blocks.{IsOnlyRead, IsFullRead, IsOnlyWritten}
use Rattle.verity_format.specs.Image.{data_sectors, first_sectors, image_sectors, formatted, root_over}
use Rattle.verity_format.specs.Writing.{IsPartOfTree}

-- the number of whole blocks of that size in `sectors` sectors; 0 for sizes below a sector
abbrev pub whole_blocks : ℕ → ℕ → ℕ
whole_blocks sectors size = if nat_lt size 512 then 0 else sectors / (size / 512)

-- the number of blocks given, or of all whole blocks
abbrev pub given_blocks : Option ℕ → ℕ → ℕ → ℕ
given_blocks (Some count) size sectors = count
given_blocks None size sectors = whole_blocks sectors size

-- the fault of formatting for a fault of a tree
abbrev pub format_fault_of : TreeFault → FormatFault
format_fault_of tree.Device = DeviceFailed
format_fault_of tree.NoMemory = NoMemory

-- why a tree that needs `needed` sectors of the hash device isn't written: the first of these that applies
abbrev pub room_refusal : ShapeRecord → ℕ → Device → Device → Option FormatFault
room_refusal shape needed data_dev hash =
    if nat_lt data_dev.size (data_sectors shape) then Some DataTooSmall
    else if nat_lt hash.size needed then Some (HashTooSmall needed)
    else if not hash.may_write then Some HashReadOnly
    else None

-- why formatting is refused: the first of these that applies
unfoldable pub format_refusal : SuperRecord → Device → Device → Option FormatFault
format_refusal s data_dev hash =
    if is_some (first_fault (shape_of s)) then Some Shape
    else room_refusal (shape_of s) (image_sectors (shape_of s)) data_dev hash

-- the data device failed; on the hash device, at most blocks of the tree were written
pub record FailsAtData (s : SuperRecord) (data_dev hash data_dev' hash' : Device) : Type 0 where
  pub failed : HasFailed data_dev data_dev'
  pub failures : hash'.failures ≡ hash.failures
  pub part : IsPartOfTree (shape_of s) hash hash'

-- a write of the tree failed; hash block 0 is unchanged
pub record FailsAtTreeWrite (s : SuperRecord) (hash hash' : Device) : Type 0 where
  pub failed : HasFailed hash hash'
  pub part : IsPartOfTree (shape_of s) hash hash'

-- the last write failed, that of hash block 0; the whole tree is stored after it
pub record FailsAtFirstBlock (s : SuperRecord) (data_dev hash hash' : Device) : Type 0 where
  pub failed : HasFailed hash hash'
  pub written : IsWritten hash 0 (image_sectors (shape_of s)) false hash'
  pub tree : IsTrue data_dev.steady → IsTrue hash.steady → drop (first_sectors s) hash'.image ≡ drop (first_sectors s) (formatted s data_dev.image hash.image)

-- an allocation failed; neither device failed, and at most blocks of the tree were written
pub record LacksMemory (s : SuperRecord) (data_dev hash data_dev' hash' : Device) : Type 0 where
  pub failures : data_dev'.failures ≡ data_dev.failures
  pub hash_failures : hash'.failures ≡ hash.failures
  pub refused : IsOutOfMemory largest_allocation
  pub part : IsPartOfTree (shape_of s) hash hash'

-- the cause and effect of each fault: no superblock is written before the whole tree is stored
abbrev pub IsFormatCause : SuperRecord → Device → Device → Device → Device → FormatFault → Type 0
IsFormatCause s data_dev hash data_dev' hash' DeviceFailed = FailsAtData s data_dev hash data_dev' hash' ⊎ (FailsAtTreeWrite s hash hash' ⊎ FailsAtFirstBlock s data_dev hash hash')
IsFormatCause s data_dev hash data_dev' hash' NoMemory = LacksMemory s data_dev hash data_dev' hash'
IsFormatCause s data_dev hash data_dev' hash' Shape = format_refusal s data_dev hash ≡ Some Shape
IsFormatCause s data_dev hash data_dev' hash' DataTooSmall = format_refusal s data_dev hash ≡ Some DataTooSmall
IsFormatCause s data_dev hash data_dev' hash' (HashTooSmall n) = format_refusal s data_dev hash ≡ Some (HashTooSmall n)
IsFormatCause s data_dev hash data_dev' hash' HashReadOnly = format_refusal s data_dev hash ≡ Some HashReadOnly

-- no call failed, each sector of the data blocks was read once, and each sector of the image was written once; if
-- both devices are steady, the hash device stores the tree over the data image, and `root` is its root hash
pub record IsFormatted (s : SuperRecord) (data_dev hash data_dev' hash' : Device) (root : List ℕ) : Type 0 where
  pub read : IsFullRead data_dev (data_sectors (shape_of s)) data_dev'
  pub written : IsWritten hash 0 (image_sectors (shape_of s)) true hash'
  pub image : IsTrue data_dev.steady → IsTrue hash.steady → hash'.image ≡ formatted s data_dev.image hash.image
  pub digest : IsTrue data_dev.steady → root ≡ root_over (shape_of s) s.salt data_dev.image

-- the effect of formatting: the data device is only read, the hash device only written
pub record IsFormatting (s : SuperRecord) (data_dev hash_dev data_dev' hash_dev' : Device) (result : Result (List ℕ) FormatFault) : Type 0 where
  pub read : IsOnlyRead data_dev data_dev'
  pub written : IsOnlyWritten hash_dev (image_sectors (shape_of s)) hash_dev'
  pub ok : IfOk result (IsFormatted s data_dev hash_dev data_dev' hash_dev')
  pub err : IfErr result (IsFormatCause s data_dev hash_dev data_dev' hash_dev')
  pub refused : (f : FormatFault) → format_refusal s data_dev hash_dev ≡ Some f → (result ≡ Err f) × (data_dev' ≡ data_dev) × (hash_dev' ≡ hash_dev)

-- ---- calls, from the device states that a proof sees: first those before, then those after

-- the data device was only read, and on the hash device at most the sectors of the image were written
abbrev pub OnlyImageIsWritten : {D H : Type 0} → (D → Device) → (H → Device) → SuperRecord → D → H → D → H → Type 0
OnlyImageIsWritten data_state hash_state s d h d' h' = IsOnlyRead (data_state d) (data_state d') × IsOnlyWritten (hash_state h) (image_sectors (shape_of s)) (hash_state h')

-- the image was written, and `root` is the root hash
abbrev pub Formats : {D H : Type 0} → (D → Device) → (H → Device) → SuperRecord → D → H → D → H → List ℕ → Type 0
Formats data_state hash_state s d h d' h' root = IsFormatted s (data_state d) (hash_state h) (data_state d') (hash_state h') root

-- why the image wasn't written, and the effect
abbrev pub FormatEnds : {D H : Type 0} → (D → Device) → (H → Device) → SuperRecord → D → H → D → H → FormatFault → Type 0
FormatEnds data_state hash_state s d h d' h' fault = IsFormatCause s (data_state d) (hash_state h) (data_state d') (hash_state h') fault

-- a refusal that applies is returned, and neither device was accessed
abbrev pub RefusesFormat : {D H : Type 0} → (D → Device) → (H → Device) → SuperRecord → D → H → D → H → Result (List ℕ) FormatFault → Type 0
RefusesFormat data_state hash_state s d h d' h' result =
    (f : FormatFault) → format_refusal s (data_state d) (hash_state h) ≡ Some f → (result ≡ Err f) × (data_state d' ≡ data_state d) × (hash_state h' ≡ hash_state h)
