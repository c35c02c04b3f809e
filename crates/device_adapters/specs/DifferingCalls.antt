-- Writes of a device that compares first: from the device states that a proof sees, first those before, then those after; and the
-- calls on the inner device.
use Rattle.std.specs.Prelude.{◌≡◌, ℕ, ◌+◌, ◌-◌, ◌*◌, ◌/◌, ◌<◌, min, Bool, true, false, IsTrue, List, [], ◌∷◌, ◌++◌, length, take, drop}
use Rattle.block_device.specs.Call.{Call, Read, Sync, Write}
use Rattle.block_device.specs.CallList.{DeviceCalls}
use Rattle.block_device.specs.Device.{Device, sectors_of}
use Rattle.device_adapters.specs.Differing.{AreSectorsPut, stands}

-- if the device is steady, the sectors from `first` on were replaced, and nothing else changed
abbrev pub PutsOn : {D : Type 0} → (D → Device) → D → D → ℕ → List ℕ → Type 0
PutsOn state d d' first bytes = AreSectorsPut (state d) first (sectors_of (length bytes / 512) bytes) (state d')

-- if the device is steady and already holds the bytes, nothing is written
abbrev pub LeavesStanding : {D : Type 0} → (D → Device) → D → D → ℕ → List ℕ → Type 0
LeavesStanding state d d' first bytes =
    IsTrue (state d).steady → stands (state d).image first (sectors_of (length bytes / 512) bytes) → (state d').writes ≡ (state d).writes

-- how many sectors the block at sector k of these bytes has, and its bytes: 8 sectors, or those that are left
abbrev pub compared_sectors : List ℕ → ℕ → ℕ
compared_sectors bytes k = min (length bytes / 512 - k) 8

abbrev pub compared_bytes : List ℕ → ℕ → List ℕ
compared_bytes bytes k = take (512 * compared_sectors bytes k) (drop (512 * k) bytes)

-- The calls of one block, and whether all succeeded: the block is read, and then written if the bytes read differ from the new
-- ones. A call that failed is the last.
pub data BlockCalls (first : ℕ) (bytes : List ℕ) : Bool → List Call → Type 0 where
  is_unread : (read : List ℕ) → length read ≡ length bytes → BlockCalls first bytes false (Read first read false ∷ [])
  is_stored : BlockCalls first bytes true (Read first bytes true ∷ [])
  is_replaced : (read : List ℕ) (ok : Bool) → length read ≡ length bytes → (read ≡ bytes → ⊥) → BlockCalls first bytes ok (Read first read true ∷ Write first bytes ok ∷ [])

-- the calls of the blocks before sector k of these bytes, in order; all but those of the last block succeeded
pub data DifferingBlocks (first : ℕ) (bytes : List ℕ) : ℕ → Bool → List Call → Type 0 where
  begins : DifferingBlocks first bytes 0 true []
  goes_on : {k : ℕ} {ok : Bool} {calls block : List Call} → k < length bytes / 512 → DifferingBlocks first bytes k true calls → BlockCalls (first + k) (compared_bytes bytes k) ok block → DifferingBlocks first bytes (k + compared_sectors bytes k) ok (calls ++ block)

-- the calls of a write: of all blocks, or of the first ones up to a call that failed, which is the last
pub record DifferingWrite (first : ℕ) (bytes : List ℕ) (ok : Bool) (calls : List Call) : Type 0 where
  pub sectors : ℕ
  pub blocks : DifferingBlocks first bytes sectors ok calls
  pub all : IsTrue ok → sectors ≡ length bytes / 512

-- the calls on the inner device: a read or a sync is one call of it, and a write is compared block by block
abbrev pub DifferingDoes : {D : Type 0} → (D → Call → D → Type 0) → D → Call → D → Type 0
DifferingDoes does old (Read first bytes ok) new = does old (Read first bytes ok) new
DifferingDoes does old (Write first bytes ok) new = DeviceCalls does (DifferingWrite first bytes ok) old new
DifferingDoes does old (Sync ok) new = does old (Sync ok) new
