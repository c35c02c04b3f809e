-- A superblock that was stored on the hash device is cleared before anything of the tree is written.
use Rattle.std.specs.Prelude.{◌≡◌, ◌⊎◌, ℕ, Bool, true, false, IsTrue, List, [], ◌∷◌, take, drop}
use Rattle.std.specs.Str.{bytes_eq}
use Rattle.block_device.specs.Call.{Call, Calls, Read, Sync, Write}
use Rattle.block_device.specs.Device.{Device, HasFailed, IsRead, IsSameDevice, IsWritten, filled_sector, spliced, synced, zeros_image}
use Rattle.verity_format.specs.Superblock.{signature}
use Rattle.verity_format.specs.Verifying.{IsFirstSector}

-- the sector begins as a superblock does
abbrev pub begins_super : List ℕ → Bool
begins_super sector = bytes_eq (take 8 sector) signature

-- The first sector doesn't begin as a superblock does, and nothing was written. The device was synced, since zeros of an earlier run
-- may not be on the medium yet.
pub record HasNone (old new : Device) : Type 0 where
  pub sector : List ℕ
  pub read_dev : Device
  pub first : IsFirstSector old sector
  pub other : begins_super sector ≡ false
  pub read : IsRead old 1 true read_dev
  pub kept : new ≡ synced read_dev

-- it does: zeros were written in its place and put on the medium, before anything else
pub record IsZeroed (old new : Device) : Type 0 where
  pub sector : List ℕ
  pub read_dev : Device
  pub written_dev : Device
  pub first : IsFirstSector old sector
  pub begins : begins_super sector ≡ true
  pub read : IsRead old 1 true read_dev
  pub written : IsWritten read_dev 0 1 true written_dev
  pub zeros : IsTrue read_dev.steady → written_dev.image ≡ spliced read_dev.image 0 (zeros_image 1)
  pub kept : new ≡ synced written_dev

abbrev pub IsCleared : Device → Device → Type 0
IsCleared old new = HasNone old new ⊎ IsZeroed old new

-- the device failed in the call, and no sector but the first changed
pub record IsUncleared (old new : Device) : Type 0 where
  pub failed : HasFailed old new
  pub same : IsSameDevice old new
  pub after : IsTrue old.steady → drop 1 new.image ≡ drop 1 old.image

-- ---- all calls of a clearing, whatever the device does

-- the first sector was read; it begins as a superblock does, and zeros were written in its place and synced. `ok` is whether the
-- sync ended well.
pub record HandsZeros {H : Type 0} (does : H → Call → H → Type 0) (old new : H) (ok : Bool) : Type 0 where
  pub sector : List ℕ
  pub begins : begins_super sector ≡ true
  pub made : Calls does old (Read 0 sector true ∷ Write 0 (filled_sector 0) true ∷ Sync ok ∷ []) new

-- the first sector was read and doesn't begin so, and the device was synced. `ok` is whether the sync ended well.
pub record HandsNone {H : Type 0} (does : H → Call → H → Type 0) (old new : H) (ok : Bool) : Type 0 where
  pub sector : List ℕ
  pub other : begins_super sector ≡ false
  pub made : Calls does old (Read 0 sector true ∷ Sync ok ∷ []) new

-- the write of the zeros failed, and nothing was synced
pub record HandsFailedWrite {H : Type 0} (does : H → Call → H → Type 0) (old new : H) : Type 0 where
  pub sector : List ℕ
  pub begins : begins_super sector ≡ true
  pub made : Calls does old (Read 0 sector true ∷ Write 0 (filled_sector 0) false ∷ []) new

-- the read or the write failed, and nothing was synced
abbrev pub HandsFewer : {H : Type 0} → (H → Call → H → Type 0) → H → H → Type 0
HandsFewer does old new = ((sector : List ℕ) × Calls does old (Read 0 sector false ∷ []) new) ⊎ HandsFailedWrite does old new

-- `ok` is whether the clearing ended well
abbrev pub HandsClearing : {H : Type 0} → (H → Call → H → Type 0) → H → H → Bool → Type 0
HandsClearing does old new ok = HandsZeros does old new ok ⊎ (HandsNone does old new ok ⊎ ((ok ≡ false) × HandsFewer does old new))
