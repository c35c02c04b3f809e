-- Reads from devices that may fail at some sectors.
use Rattle.std.specs.Prelude.{◌≡◌, ◌⊎◌, ℕ, ◌+◌, ◌-◌, ◌/◌, ◌^◌, ◌≤◌, Bool, true, false, IsTrue, List, length}
use Rattle.std.specs.List.{concat}
use Rattle.block_device.specs.Device.{Device, HasFailed, run_of}
use Rattle.verity_format.specs.Blocks.{IsBlockRead, IsFullRead, IsOnlyRead}

-- a call failed, so the device isn't one that never fails
abbrev pub HasFailedRead : Device → Device → Type 0
HasFailedRead old new = HasFailed old new × (IsTrue old.never_fails → ⊥)

-- at least n calls failed, or the counter of failures reached its maximum
abbrev pub HasFailedTimes : Device → ℕ → Device → Type 0
HasFailedTimes old n new = (old.failures + n ≤ new.failures) ⊎ (2 ^ 64 - 1 ≤ new.failures)

-- only reads, some of which may have failed; on a device that never fails none did
pub record IsReadOver (old new : Device) : Type 0 where
  pub read : IsOnlyRead old new
  pub more : old.failures ≤ new.failures
  pub sure : IsTrue old.never_fails → new.failures ≡ old.failures

-- n sectors were read, each once, or a call failed
pub record IsReadThrough (old : Device) (n : ℕ) (new : Device) : Type 0 where
  pub over : IsReadOver old new
  pub full : IsFullRead old n new ⊎ HasFailedRead old new

-- the sectors from the first on were read; on a steady device these are the stored ones
pub record IsSectorsRead (old : Device) (first : ℕ) (bytes : List ℕ) (new : Device) : Type 0 where
  pub full : IsFullRead old (length bytes / 512) new
  pub bytes_are : IsTrue old.steady → bytes ≡ concat (run_of old.image first (length bytes / 512))

-- the sectors were read, or the call failed
abbrev pub IsAttempt : Device → ℕ → List ℕ → Bool → Device → Type 0
IsAttempt old first bytes true new = IsSectorsRead old first bytes new
IsAttempt old first bytes false new = HasFailedRead old new

-- a block of that size was read, or the call failed
abbrev pub IsBlockTried : Device → ℕ → ℕ → List ℕ → Bool → Device → Type 0
IsBlockTried old size i block true new = IsBlockRead old size i block new
IsBlockTried old size i block false new = HasFailedRead old new
