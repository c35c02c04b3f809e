-- The end of an update: the superblock is written.
use Rattle.std.specs.Prelude.{◌≡◌, ◌⊎◌, ◌<◌, ◌/◌, IsTrue, false, true}
use Rattle.block_device.specs.Device.{Device, HasFailed, IsWritten, sectors_of, spliced, synced}
use Rattle.verity_format.specs.Image.{first_block}
use Rattle.verity_format.specs.Superblock.{SuperRecord}

-- Hash block 0 was written, the superblock and zeros after it, and synced. On a steady device no other sector changed.
pub record IsSealed (s : SuperRecord) (old new : Device) : Type 0 where
  pub written_dev : Device
  pub written : IsWritten old 0 (s.hash_block / 512) true written_dev
  pub image : IsTrue old.steady → written_dev.image ≡ spliced old.image 0 (sectors_of (s.hash_block / 512) (first_block s))
  pub kept : new ≡ synced written_dev

-- the device has no hash block 0, or may not be written, and wasn't accessed
pub record IsUnsealable (s : SuperRecord) (old new : Device) : Type 0 where
  pub why : (old.size < s.hash_block / 512) ⊎ (old.may_write ≡ false)
  pub same : new ≡ old

-- that, or the device failed: in the write, or in the sync
abbrev pub IsUnsealed : SuperRecord → Device → Device → Type 0
IsUnsealed s old new = IsUnsealable s old new ⊎ HasFailed old new
