-- The result of a check of a block: it is valid; or it is corrupt and was found elsewhere; or it is lost. Reads of its device
-- never decrease its failure counter, so each counted failure stays.
use Rattle.std.specs.Prelude.{◌≡◌, ◌≤◌, ℕ, ◌*◌, ◌/◌, Bool, true, false, IsTrue, List, [], ◌∷◌, length}
use Rattle.block_device.specs.Call.{Call, Write}
use Rattle.block_device.specs.Device.{Device, IsWritten, sectors_of, spliced}
use Rattle.tree_shape.specs.Digests.{digest}
use Rattle.verity_format.specs.Blocks.{IsOnlyRead}
use Rattle.tree_repair.specs.declared.mending.Mended.{Mended}
use Rattle.tree_repair.specs.declared.mending.Mended.TheVariants as mended
use Rattle.tree_repair.specs.Sources.{AreEachRead, AreIn, AreNotIn, IsBad, IsThere, Wanted}

-- A device and the copies before and after, the block's first sector on each, the expected bytes, and whether the repair may
-- write.
pub record BlockCheck : Type 0 where
  pub old : Device
  pub new : Device
  pub copies : List Device
  pub copies' : List Device
  pub first : ℕ
  pub copy_first : ℕ
  pub w : Wanted
  pub write : Bool

-- a block of these bytes, which fill its sectors, was written, or the write failed; a device that never fails has no failed
-- write
pub record IsBlockPut (old : Device) (first sectors : ℕ) (bytes : List ℕ) (done : Bool) (new : Device) : Type 0 where
  pub whole : length bytes ≡ 512 * sectors
  pub moved : IsWritten old first sectors done new
  pub image : IsTrue done → IsTrue old.steady → new.image ≡ spliced old.image first (sectors_of sectors bytes)
  pub sure : IsTrue old.never_fails → IsTrue done

-- a write of a block if the repair may write; otherwise nothing is done
abbrev pub IsAllowedPut : Bool → Device → ℕ → ℕ → List ℕ → Bool → Device → Type 0
IsAllowedPut true old first sectors bytes done new = IsBlockPut old first sectors bytes done new
IsAllowedPut false old first sectors bytes done new = (new ≡ old) × (done ≡ true)

-- such a write of all bytes in a buffer
abbrev pub IsPutAt : Bool → Device → ℕ → List ℕ → Bool → Device → Type 0
IsPutAt write old first bytes done new = IsAllowedPut write old first (length bytes / 512) bytes done new

-- The calls of the device: one write of exactly these bytes at that sector, or none if the repair may not write.
abbrev pub put_calls : Bool → ℕ → List ℕ → Bool → List Call
put_calls true first bytes done = Write first bytes done ∷ []
put_calls false first bytes done = []

-- the block is valid: nothing is written
pub record IsFoundGood (l : BlockCheck) (bytes : List ℕ) : Type 0 where
  pub read : IsOnlyRead l.old l.new
  pub more : l.old.failures ≤ l.new.failures
  pub copies_read : AreEachRead l.copies l.copies'
  pub there : IsThere l.old l.first l.w bytes

-- the block is corrupt, and copy k has it: its bytes were written, or the write failed
pub record IsFoundInCopy (l : BlockCheck) (k : ℕ) (bytes : List ℕ) (done : Bool) : Type 0 where
  pub between : Device
  pub read : IsOnlyRead l.old between
  pub more : l.old.failures ≤ between.failures
  pub bad : IsBad l.old l.first l.w between
  pub copies_read : AreEachRead l.copies l.copies'
  pub copy : AreIn l.copies l.copy_first l.w k bytes
  pub good : digest l.w.salt bytes ≡ l.w.digest_is
  pub put : IsAllowedPut l.write between l.first l.w.sectors bytes done l.new

-- The block is corrupt, and no copy has it. It was reconstructed from blocks that were read after it; its bytes were written,
-- or the write failed.
pub record IsFoundBeneath (l : BlockCheck) (bytes : List ℕ) (done : Bool) : Type 0 where
  pub seen : Device
  pub read : IsOnlyRead l.old seen
  pub more : l.old.failures ≤ seen.failures
  pub bad : IsBad l.old l.first l.w seen
  pub copies_read : AreEachRead l.copies l.copies'
  pub none : AreNotIn l.copies l.copies' l.copy_first l.w (length l.copies)
  pub between : Device
  pub beneath_read : IsOnlyRead seen between
  pub beneath_more : seen.failures ≤ between.failures
  pub good : digest l.w.salt bytes ≡ l.w.digest_is
  pub put : IsAllowedPut l.write between l.first l.w.sectors bytes done l.new

-- the block is corrupt, and its bytes are known: they were written, or the write failed
pub record IsBlockReplaced (old : Device) (first : ℕ) (w : Wanted) (write : Bool) (bytes : List ℕ) (done : Bool) (new : Device) : Type 0 where
  pub between : Device
  pub read : IsOnlyRead old between
  pub more : old.failures ≤ between.failures
  pub bad : IsBad old first w between
  pub good : digest w.salt bytes ≡ w.digest_is
  pub put : IsAllowedPut write between first w.sectors bytes done new

-- the block is corrupt, and parity restored its bytes, which were written, or the write failed; how parity restores bytes is
-- stated elsewhere
pub record IsFoundByParity (l : BlockCheck) (bytes : List ℕ) (done : Bool) : Type 0 where
  pub replaced : IsBlockReplaced l.old l.first l.w l.write bytes done l.new
  pub copies_read : AreEachRead l.copies l.copies'

-- the block is corrupt, no copy has it, and it wasn't reconstructed: nothing is written
pub record IsFoundNowhere (l : BlockCheck) : Type 0 where
  pub seen : Device
  pub read : IsOnlyRead l.old seen
  pub more : l.old.failures ≤ seen.failures
  pub bad : IsBad l.old l.first l.w seen
  pub copies_read : AreEachRead l.copies l.copies'
  pub none : AreNotIn l.copies l.copies' l.copy_first l.w (length l.copies)
  pub beneath_read : IsOnlyRead seen l.new
  pub beneath_more : seen.failures ≤ l.new.failures

abbrev pub IsMended : BlockCheck → List ℕ → Bool → Mended → Type 0
IsMended l bytes done mended.Good = IsFoundGood l bytes
IsMended l bytes done (mended.Copy k) = IsFoundInCopy l k bytes done
IsMended l bytes done mended.Remade = IsFoundBeneath l bytes done
IsMended l bytes done mended.Parity = IsFoundByParity l bytes done
IsMended l bytes done mended.Lost = IsFoundNowhere l

-- the block was corrupt, and its bytes were found or made
abbrev pub IsBlockFound : Mended → Type 0
IsBlockFound mended.Good = ⊥
IsBlockFound (mended.Copy k) = Unit {0}
IsBlockFound mended.Remade = Unit {0}
IsBlockFound mended.Parity = Unit {0}
IsBlockFound mended.Lost = ⊥

-- the block was neither reconstructed nor restored by parity
abbrev pub IsNotRemade : Mended → Type 0
IsNotRemade mended.Good = Unit {0}
IsNotRemade (mended.Copy k) = Unit {0}
IsNotRemade mended.Remade = ⊥
IsNotRemade mended.Parity = ⊥
IsNotRemade mended.Lost = Unit {0}

-- the block wasn't reconstructed, and was restored by parity only if there is parity
abbrev pub IsBareOf : Bool → Mended → Type 0
IsBareOf parity mended.Good = Unit {0}
IsBareOf parity (mended.Copy k) = Unit {0}
IsBareOf parity mended.Remade = ⊥
IsBareOf parity mended.Parity = IsTrue parity
IsBareOf parity mended.Lost = Unit {0}

-- the block was found in a copy, but its write failed
abbrev pub IsUnmended : BlockCheck → Type 0
IsUnmended l = (k : ℕ) × ((bytes : List ℕ) × IsFoundInCopy l k bytes false)
