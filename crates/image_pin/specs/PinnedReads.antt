-- Superblocks that are read and compared with a pin.
use Rattle.std.specs.Prelude.{◌≡◌, List, ℕ, Option, Some, None, Result, Ok, Err}
use Rattle.block_device.specs.Call.{Call}
use Rattle.block_device.specs.Device.{Device}
use Rattle.verity_format.specs.Blocks.{IsFullRead}
use Rattle.verity_format.specs.Superblock.{SuperRecord}
use Rattle.verity_format.specs.Verifying.{IsReadCause, IsReadFrom}
use Rattle.verity_format.specs.VerifyCalls.{GivesNoSuper, GivesSuper}
use Rattle.image_pin.specs.declared.mismatch.Mismatch.{Mismatch}
use Rattle.image_pin.specs.declared.pin.Pin.{Pin}
use Rattle.image_pin.specs.declared.pinned.PinnedFault.{PinnedFault}
use Rattle.image_pin.specs.declared.pinned.PinnedFault.TheVariants.{Unread, Unpinned}
use Rattle.image_pin.specs.Mismatches.{pin_mismatch}

-- the first value of the superblock that differs from the pin's, if there is a pin
abbrev pub mismatch_of : Option Pin → SuperRecord → Option Mismatch
mismatch_of None s = None
mismatch_of (Some pin) s = pin_mismatch pin s

-- the superblock was read, by one read of one sector, and it has the values of the pin, if there is one
pub record ReadsPinned (device : Device) (pin : Option Pin) (device' : Device) (super : SuperRecord) : Type 0 where
  pub sector : List ℕ
  pub read : IsReadFrom device sector super
  pub pinned : mismatch_of pin super ≡ None
  pub one : IsFullRead device 1 device'

-- it was read, by one read, and differs from the pin in that value
pub record ReadsUnpinned (device : Device) (pin : Option Pin) (device' : Device) (mismatch : Mismatch) : Type 0 where
  pub super : SuperRecord
  pub sector : List ℕ
  pub read : IsReadFrom device sector super
  pub other : mismatch_of pin super ≡ Some mismatch
  pub one : IsFullRead device 1 device'

-- why there is no superblock of the pin
abbrev pub IsPinnedCause : Device → Option Pin → Device → PinnedFault → Type 0
IsPinnedCause device pin device' (Unread fault) = IsReadCause device device' fault
IsPinnedCause device pin device' (Unpinned mismatch) = ReadsUnpinned device pin device' mismatch

-- ---- calls

-- the first sector was read, by one call, and it stores this superblock, which has the values of the pin, if there is one
abbrev pub GivesPinned : {H : Type 0} → (H → Call → H → Type 0) → H → Option Pin → SuperRecord → H → Type 0
GivesPinned does old pin super new = GivesSuper does old super new × (mismatch_of pin super ≡ None)

-- that call, or at most one, if there is no superblock of the pin
abbrev pub GivesNoPinned : {H : Type 0} → (H → Call → H → Type 0) → H → Option Pin → H → PinnedFault → Type 0
GivesNoPinned does old pin new (Unread fault) = GivesNoSuper does old new fault
GivesNoPinned does old pin new (Unpinned mismatch) = (super : SuperRecord) × GivesSuper does old super new × (mismatch_of pin super ≡ Some mismatch)

-- all calls of reading a superblock of a pin
abbrev pub CallsPinned : {H : Type 0} → (H → Call → H → Type 0) → H → Option Pin → H → Result SuperRecord PinnedFault → Type 0
CallsPinned does old pin new (Ok super) = GivesPinned does old pin super new
CallsPinned does old pin new (Err fault) = GivesNoPinned does old pin new fault
