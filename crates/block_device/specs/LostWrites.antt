-- Files whose sync failed: what was written may be lost, and the system reports it once. Files for whose writes no space was left.
use Rattle.std.specs.Prelude.{◌≡◌, ◌⊎◌, ◌&&◌, Bool, true, false, IsTrue, IsErr, Result}
use Rattle.std.specs.declared.io.ErrorKind.{ErrorKind}
use Rattle.block_device.specs.declared.device.DeviceFault.{DeviceFault}
use Rattle.block_device.specs.declared.file.FileDev.{FileDev}
use Rattle.block_device.specs.Call.{Call, Read, Sync, Write}
use Rattle.block_device.specs.FileCalls.{Called, IsWriteRefused}
use Rattle.block_device.specs.Space.{is_lack_of_space}

-- whether a sync failed since the file was opened
abbrev pub has_lost_writes : FileDev → Bool
has_lost_writes f = f.has_lost_writes

-- a sync fails if an earlier one failed, and from one that fails on all do
pub record FailsForGood (old new : FileDev) (result : Result (Unit {0}) DeviceFault) : Type 0 where
  pub later : IsTrue (has_lost_writes old) → IsErr result
  pub kept : IsErr result → IsTrue (has_lost_writes new)
  pub good : has_lost_writes new ≡ false → has_lost_writes old ≡ false

-- the system was called so, or not at all: a sync of a file that has lost writes fails without a call
abbrev pub CallsFile : FileDev → Call → FileDev → Type 0
CallsFile old (Sync false) new = (IsTrue (has_lost_writes old) × (new.file ≡ old.file)) ⊎ Called old.file (Sync false) new.file
CallsFile old (Sync true) new = Called old.file (Sync true) new.file
CallsFile old (Read first bytes ok) new = Called old.file (Read first bytes ok) new.file
CallsFile old (Write first bytes ok) new = Called old.file (Write first bytes ok) new.file

-- a write that fails lacks space if that is the system's reason, a read that fails doesn't, and no other call changes that
abbrev pub RecordsSpace : FileDev → Call → FileDev → Type 0
RecordsSpace old (Read first bytes ok) new = new.lacked_space ≡ (ok && old.lacked_space)
RecordsSpace old (Write first bytes true) new = new.lacked_space ≡ old.lacked_space
RecordsSpace old (Write first bytes false) new = (kind : ErrorKind) × IsWriteRefused old.file first bytes kind × (new.lacked_space ≡ is_lack_of_space kind)
RecordsSpace old (Sync ok) new = new.lacked_space ≡ old.lacked_space
