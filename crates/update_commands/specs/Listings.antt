-- The lists of where blocks are, which are made before an update: which devices are read for them.
use Rattle.std.specs.Prelude.{◌≡◌, ℕ, ◌<◌, Bool, IsTrue, List, length}
use Rattle.std.specs.List.{slice_index_or}
use Rattle.block_device.specs.Device.{Device}
use Rattle.verity_format.specs.Blocks.{IsOnlyRead}

-- each of some devices was only read
pub record AreEachOnlyRead (old new : List Device) : Type 0 where
  pub count : length new ≡ length old
  pub each : (j : ℕ) → j < length old → (d : Device) → IsOnlyRead (slice_index_or old j d) (slice_index_or new j d)

-- The hash device and those of the copies were only read. Without an index none was accessed.
pub record ListsBlocks (no_index : Bool) (hash_dev hash_dev' : Device) (copies copies' : List Device) : Type 0 where
  pub hash_read : IsOnlyRead hash_dev hash_dev'
  pub copies_read : AreEachOnlyRead copies copies'
  pub unread : IsTrue no_index → (hash_dev' ≡ hash_dev) × (copies' ≡ copies)
