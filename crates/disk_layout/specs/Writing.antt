-- Both ends of a disk, as they are written.
use Rattle.std.specs.Prelude.{◌≡◌, ℕ, ◌/◌, IsTrue, List, length, true}
use Rattle.block_device.specs.Device.{Device, IsWritten, sectors_of, spliced, synced}

-- bytes were written from a sector on, and synced; on a steady device no other sector changed
pub record PutsSynced (old : Device) (first : ℕ) (bytes : List ℕ) (new : Device) : Type 0 where
  pub written_dev : Device
  pub written : IsWritten old first (length bytes / 512) true written_dev
  pub image : IsTrue old.steady → written_dev.image ≡ spliced old.image first (sectors_of (length bytes / 512) bytes)
  pub kept : new ≡ synced written_dev

-- the end, and then the beginning
pub record PutsEnds (old : Device) (front : List ℕ) (last : ℕ) (back : List ℕ) (new : Device) : Type 0 where
  pub between : Device
  pub back_put : PutsSynced old last back between
  pub front_put : PutsSynced between 0 front new
