-- What a list of calls adds up to.
use Rattle.std.specs.Prelude.{ℕ, ◌+◌, ◌/◌, Bool, true, false, IsTrue, List, [], ◌∷◌, length}
use Rattle.block_device.specs.Call.{Call, Calls, Read, Sync, Write}

abbrev pub has_succeeded : Call → Bool
has_succeeded (Read first bytes ok) = ok
has_succeeded (Write first bytes ok) = ok
has_succeeded (Sync ok) = ok

-- a read, whether it succeeded or not
abbrev pub is_read : Call → Bool
is_read (Read first bytes ok) = true
is_read (Write first bytes ok) = false
is_read (Sync ok) = false

-- how many sectors a call reads, and how many it writes, whether it succeeds or not
abbrev pub sectors_read : Call → ℕ
sectors_read (Read first bytes ok) = length bytes / 512
sectors_read (Write first bytes ok) = 0
sectors_read (Sync ok) = 0

abbrev pub sectors_written : Call → ℕ
sectors_written (Read first bytes ok) = 0
sectors_written (Write first bytes ok) = length bytes / 512
sectors_written (Sync ok) = 0

abbrev pub AllReads : List Call → Type 0
AllReads [] = Unit {0}
AllReads (call ∷ more) = IsTrue (is_read call) × AllReads more

abbrev pub all_read : List Call → ℕ
all_read [] = 0
all_read (call ∷ more) = sectors_read call + all_read more

abbrev pub all_written : List Call → ℕ
all_written [] = 0
all_written (call ∷ more) = sectors_written call + all_written more

-- calls on a device that are such lead from one state of it to another
pub record DeviceCalls {D : Type 0} (does : D → Call → D → Type 0) (Are : List Call → Type 0) (old new : D) : Type 0 where
  pub calls : List Call
  pub are : Are calls
  pub made : Calls does old calls new
