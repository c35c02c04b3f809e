-- A search of a device: its reads, what they show of the sectors, and what is reported of it.
use Rattle.std.specs.Prelude.{◌≡◌, ℕ, ◌+◌, ◌-◌, ◌/◌, ◌≤◌, ◌==◌, true, false, List, [], ◌∷◌, length, map, replicate, flat_map, Option, Some, None, if◌then◌else◌}
use Rattle.block_device.specs.Call.{Call, Calls, Read, Sync, Write}
use Rattle.block_device.specs.Device.{sectors_of}
use Rattle.stack_recovery.specs.declared.recovery.Counts.{Counts}
use Rattle.find_commands.specs.declared.checksum.Checksum.TheVariants.{Unchecked}
use Rattle.find_commands.specs.declared.finding.Finding.{Finding}
use Rattle.find_commands.specs.declared.header.OpenHeader.{OpenHeader}
use Rattle.find_commands.specs.declared.listing.ListFault.{ListFault}
use Rattle.find_commands.specs.Findings.{ReadState, findings_in, open_from, reports_from}
use Rattle.find_commands.specs.Headers.{Header, IsOpen, interrupted}

-- a failed read of n sectors shows that a sector is lost if it was of this sector alone, and nothing of several
abbrev pub lost_by : ℕ → ℕ
lost_by n = if n == 1 then 1 else 0

-- the whole sectors of these bytes, which were read
abbrev pub states_read : List ℕ → List ReadState
states_read bytes = map (λ s. Some s) (sectors_of (length bytes / 512) bytes)

-- what a call shows of the sectors from its first one on
abbrev pub shown_by : Call → List ReadState
shown_by (Read first bytes true) = states_read bytes
shown_by (Read first bytes false) = replicate (lost_by (length bytes / 512)) None
shown_by (Write first bytes ok) = []
shown_by (Sync ok) = []

abbrev pub shown : List Call → List ReadState
shown calls = flat_map shown_by calls

-- Each call is a read from the first sector on of which nothing is shown before it, which is sector `at` for the first call. So each
-- sector is read by one successful read at most.
abbrev pub AreInOrder : ℕ → List Call → Type 0
AreInOrder at [] = Unit {0}
AreInOrder at (Read first bytes ok ∷ more) = (first ≡ at) × AreInOrder (at + length (shown_by (Read first bytes ok))) more
AreInOrder at (Write first bytes ok ∷ more) = ⊥
AreInOrder at (Sync ok ∷ more) = ⊥

-- how many of these sectors are lost
abbrev pub lost_states : List ReadState → ℕ
lost_states [] = 0
lost_states (Some s ∷ more) = lost_states more
lost_states (None ∷ more) = lost_states more + 1

abbrev pub read_counts : List ReadState → Counts
read_counts states = record { read = length states - lost_states states; lost = lost_states states; untried = 0 }

-- these findings were received, in this order and no others
abbrev pub Receives : {L : Type 0} → (L → Finding → L → Type 0) → L → List Finding → L → Type 0
Receives receives old [] new = new ≡ old
Receives {L = L} receives old (f ∷ more) new = (next : L) × receives old f next × Receives receives next more new

-- these findings were received, and the header that is open is this one
abbrev pub Reports : {L : Type 0} → (L → Finding → L → Type 0) → L → List Finding → L → Option OpenHeader → Option Header → Type 0
Reports receives old found new next h = Receives receives old found new × IsOpen next h

-- what is received and open then, by the header that was open before
abbrev pub ReportsAfter : {L : Type 0} → (L → Finding → L → Type 0) → L → L → Option OpenHeader → (Option Header → List Finding) → (Option Header → Option Header) → Option OpenHeader → Type 0
ReportsAfter receives old new before found after next = (h : Option Header) → IsOpen before h → Reports receives old (found h) new next (after h)

-- if a single sector is lost, no header stays open
abbrev pub lost_report : ℕ → Option Header → List Finding
lost_report n h = if n == 1 then interrupted Unchecked h else []

abbrev pub lost_open : ℕ → Option Header → Option Header
lost_open n h = if n == 1 then None else h

-- a device and the receiver of findings
pub record SearchSides (D L : Type 0) : Type 0 where
  pub device : D
  pub list : L

abbrev pub search_sides : {D L : Type 0} → D → L → SearchSides D L
search_sides device list = record { device = device; list = list }

-- the sectors before sector `at` were read or are lost, so many of them, and what they show was received, but for a header that is open
pub record IsSearch {D L : Type 0} (Does : D → Call → D → Type 0) (receives : L → Finding → L → Type 0) (old new : SearchSides D L) (at lost : ℕ) (current : Option OpenHeader) : Type 0 where
  pub calls : List Call
  pub made : Calls Does old.device calls new.device
  pub order : AreInOrder 0 calls
  pub known : length (shown calls) ≡ at
  pub lost_are : lost_states (shown calls) ≡ lost
  pub reported : Reports receives old.list (reports_from None 0 (shown calls)) new.list current (open_from None 0 (shown calls))

-- all sectors of a device of that size, with these counts
pub record Searches {D L : Type 0} (Does : D → Call → D → Type 0) (receives : L → Finding → L → Type 0) (old new : SearchSides D L) (size : ℕ) (counts : Counts) : Type 0 where
  pub calls : List Call
  pub made : Calls Does old.device calls new.device
  pub order : AreInOrder 0 calls
  pub known : length (shown calls) ≡ size
  pub lost_are : lost_states (shown calls) ≡ counts.lost
  pub received : Receives receives old.list (findings_in (shown calls)) new.list
  pub counted : counts.read ≡ size - counts.lost
  pub tried : counts.untried ≡ 0

-- A finding wasn't received. All sectors before some sector were searched; then at most one call was made.
pub record StopsSearch {D L : Type 0} (Does : D → Call → D → Type 0) (receives : L → Finding → L → Type 0) (refuses : L → ListFault → Type 0) (old new : SearchSides D L) (fault : ListFault) : Type 0 where
  pub between : SearchSides D L
  pub at : ℕ
  pub lost : ℕ
  pub current : Option OpenHeader
  pub last : List Call
  pub before : IsSearch Does receives old between at lost current
  pub few : length last ≤ 1
  pub made : Calls Does between.device last new.device
  pub refused : refuses new.list fault
