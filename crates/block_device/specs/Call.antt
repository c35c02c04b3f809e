-- Calls on a device: which they were, and what each does to the device.
use Rattle.std.specs.Prelude.{◌≡◌, ℕ, ◌+◌, ◌/◌, Bool, List, [], ◌∷◌, length}
use Rattle.block_device.specs.Device.{Device}
use Rattle.block_device.specs.Failing.{IsInnerRead, IsInnerSync, IsInnerWrite}

-- A call: its first sector, the bytes read or written, and whether it succeeded. The bytes of a failed read are what
-- its buffer holds afterwards.
pub data Call : Type 0 where
  Read : ℕ → List ℕ → Bool → Call
  Write : ℕ → List ℕ → Bool → Call
  Sync : Bool → Call

-- what a call does to the record of a device
abbrev pub IsCall : Device → Call → Device → Type 0
IsCall old (Read first bytes ok) new = IsInnerRead old first (length bytes / 512) ok new bytes
IsCall old (Write first bytes ok) new = IsInnerWrite old first (length bytes / 512) ok new bytes
IsCall old (Sync ok) new = IsInnerSync old ok new

-- A call on a device: what it does to the record, and what the device itself promises of it.
abbrev pub DeviceDoes : {D : Type 0} → (D → Device) → (D → Call → D → Type 0) → D → Call → D → Type 0
DeviceDoes state does old call new = IsCall (state old) call (state new) × does old call new

-- these calls, in this order and no others, lead from one state of a device to another
abbrev pub Calls : {D : Type 0} → (D → Call → D → Type 0) → D → List Call → D → Type 0
Calls does old [] new = new ≡ old
Calls {D = D} does old (call ∷ more) new = (next : D) × does old call next × Calls does next more new

-- a call that is moved that many sectors further
abbrev pub moved_by : ℕ → Call → Call
moved_by n (Read first bytes ok) = Read (n + first) bytes ok
moved_by n (Write first bytes ok) = Write (n + first) bytes ok
moved_by n (Sync ok) = Sync ok
