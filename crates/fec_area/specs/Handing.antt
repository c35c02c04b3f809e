-- The calls that write parity to a device, whatever the devices return.
use Rattle.std.specs.Prelude.{◌≡◌, ◌⊎◌, ◌+◌, ◌*◌, ◌/◌, ◌<◌, ◌≤◌, ℕ, Bool, true, false, IsTrue, List, [], ◌∷◌, ◌++◌, length}
use Rattle.block_device.specs.Call.{Call, Calls, DeviceDoes, Read, Sync, Write}
use Rattle.block_device.specs.Device.{Device}
use Rattle.fec_area.specs.declared.layout.Layout.{Layout}
use Rattle.fec_area.specs.Given.{GivesAll, GivesFirst, first_rounds, round_indices}
use Rattle.fec_area.specs.Layouts.{IsParityOf, code_rounds, round_bytes}

-- the number of sectors of the parity of a round
abbrev pub round_sectors : Layout → ℕ
round_sectors l = round_bytes l / 512

-- successful writes of the parity of consecutive rounds, from round r on
unfoldable pub round_writes : ℕ → ℕ → List (List ℕ) → List Call
round_writes sectors r [] = []
round_writes sectors r (parity ∷ more) = Write (r * sectors) parity true ∷ round_writes sectors (r + 1) more

-- each is the parity of its round, from round r on
abbrev pub AreParities : Layout → List (List ℕ) → List (List ℕ) → ℕ → List (List ℕ) → Type 0
AreParities l data_image hash_image r [] = Unit {0}
AreParities l data_image hash_image r (parity ∷ more) = IsParityOf l data_image hash_image r parity × AreParities l data_image hash_image (r + 1) more

-- the calls after the writes of n rounds: none, and all rounds are written if the result is a success; or the write
-- of the next round, which failed
abbrev pub EndsHanding : Layout → ℕ → List Call → Bool → Type 0
EndsHanding l n [] true = n ≡ code_rounds l
EndsHanding l n [] false = n ≤ code_rounds l
EndsHanding l n (Write first bytes false ∷ []) false = (n < code_rounds l) × (first ≡ n * round_sectors l)
EndsHanding l n calls ok = ⊥

-- the parities that were handed over: those of the writes that succeeded, and that of a write that failed after them
abbrev pub handed_over : List (List ℕ) → List Call → List (List ℕ)
handed_over rounds [] = rounds
handed_over rounds (Read first bytes ok ∷ more) = rounds
handed_over rounds (Write first bytes ok ∷ more) = rounds ++ bytes ∷ []
handed_over rounds (Sync ok ∷ more) = rounds

-- what was read after the blocks of n rounds, by the last calls and the result: nothing; or blocks of the next round,
-- up to a read that failed
abbrev pub EndsSums : {D H : Type 0} → (D → Call → D → Type 0) → (H → Call → H → Type 0) → Layout → ℕ → D → H → D → H → List Call → Bool → Type 0
EndsSums asks does l n d h d' h' [] true = (d' ≡ d) × (h' ≡ h)
EndsSums asks does l n d h d' h' [] false = ((n ≡ 0) × (d' ≡ d) × (h' ≡ h)) ⊎ GivesFirst asks does l (round_indices l n) d h d' h'
EndsSums asks does l n d h d' h' (call ∷ more) ok = (d' ≡ d) × (h' ≡ h)

-- the covered blocks of the rounds were read in order, each once, and each parity is that of the bytes returned for
-- its round; the state of the two devices after these reads
pub record AreSummed {D H : Type 0} (asks : D → Call → D → Type 0) (does : H → Call → H → Type 0) (l : Layout) (parities : List (List ℕ)) (last : List Call) (ok : Bool) (d : D) (h : H) (d' : D) (h' : H) : Type 0 where
  pub data_then : D
  pub hash_then : H
  pub blocks : GivesAll asks does l (first_rounds l (length parities)) (λ data_image hash_image. AreParities l data_image hash_image 0 parities) d h data_then hash_then
  pub ends : EndsSums asks does l (length parities) data_then hash_then d' h' last ok

-- the parity of the first rounds was written in order, whatever the devices return; if the data and hash devices are
-- steady, it is the parity of these rounds
pub record AreRoundsHanded {D H P : Type 0} (asks : D → Call → D → Type 0) (does : H → Call → H → Type 0) (writes : P → Call → P → Type 0) (l : Layout) (data_dev hash_dev : Device) (d : D) (h : H) (old : P) (d' : D) (h' : H) (new : P) (ok : Bool) : Type 0 where
  pub rounds : List (List ℕ)
  pub last : List Call
  pub made : Calls writes old (round_writes (round_sectors l) 0 rounds ++ last) new
  pub ends : EndsHanding l (length rounds) last ok
  pub given : AreSummed asks does l (handed_over rounds last) last ok d h d' h'
  pub sums : IsTrue data_dev.steady → IsTrue hash_dev.steady → AreParities l data_dev.image hash_dev.image 0 rounds

-- ---- the call, from the states of the three devices that a proof sees

-- these are all calls on the three devices; each device is given by its state and by what it promises of a call
abbrev pub HandsParity : {D H P : Type 0} → Layout → (D → Device) → (H → Device) → (P → Device) → (D → Call → D → Type 0) → (H → Call → H → Type 0) → (P → Call → P → Type 0) → D → H → P → D → H → P → Bool → Type 0
HandsParity l data_state hash_state parity_state asks does writes d h p d' h' p' ok =
    AreRoundsHanded (DeviceDoes data_state asks) (DeviceDoes hash_state does) (DeviceDoes parity_state writes) l (data_state d) (hash_state h) d h p d' h' p' ok
