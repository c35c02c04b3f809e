-- Devices that are only read after their writes were synced.
use Rattle.std.specs.Prelude.{◌≡◌, false}
use Rattle.block_device.specs.Device.{Device}
use Rattle.verity_format.specs.Blocks.{IsOnlyRead}

-- the device as a scan has it: it may not be written
abbrev pub read_only : Device → Device
read_only device = record device { may_write = false }

-- may still be written, or not, and is dirty, or not, as before
pub record KeepsFlags (old new : Device) : Type 0 where
  pub may_write : new.may_write ≡ old.may_write
  pub dirty : new.dirty ≡ old.dirty

-- the device was only read, so that what was synced stays so
pub record IsReadAlone (old new : Device) : Type 0 where
  pub read : IsOnlyRead old new
  pub dirty : new.dirty ≡ old.dirty
