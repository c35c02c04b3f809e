-- The calls on the output device of a recovery.
use Rattle.std.specs.Prelude.{◌≡◌, ℕ, ◌+◌, Bool, true, false, List, [], ◌∷◌, ◌++◌, length, Option, Some, Ok}
use Rattle.block_device.specs.Call.{Call, Calls, Write}
use Rattle.stack_engine.specs.Bytes.{EachBytes}
use Rattle.stack_engine.specs.Stacks.{StackRecord}
use Rattle.rescue_map.specs.declared.map.Run.{Run}
use Rattle.stack_recovery.specs.declared.deadline.DevicePass.{DevicePass}
use Rattle.stack_recovery.specs.declared.fault.RecoveryFault.{RecoveryFault}
use Rattle.stack_recovery.specs.declared.fault.RecoveryFault.TheVariants.{NoMemory, Output}
use Rattle.stack_recovery.specs.PassPieces.{ArePassPieces, Scanned, pass_over}
use Rattle.stack_recovery.specs.Recoveries.{AreMarksNoted, Parties, counted_sectors, scanned_by}
use Rattle.stack_recovery.specs.declared.recovery.Course.{Course}
use Rattle.stack_recovery.specs.declared.rescued.Rescued.{Rescued}
use Rattle.stack_recovery.specs.Surveys.{AreMarked, Finding, IsSurveyOver, PieceRead, all_states, had, probed, states_of}

-- a piece that was read is written at once, by one call; no other piece is
abbrev pub calls_found : ℕ → Finding → List Call
calls_found first (had bytes) = Write first bytes true ∷ []
calls_found first (probed behind bytes) = Write (first + behind) bytes true ∷ []
calls_found first other = []

-- the calls for a list of pieces, from sector `first` on
abbrev pub copy_calls : ℕ → List PieceRead → List Call
copy_calls first [] = []
copy_calls first (r ∷ more) = calls_found first r.found ++ copy_calls (first + length (states_of r)) more

-- All sectors of the device before `end` were read or are lost, by pieces of the pass, and the calls on the output device are those of the
-- pieces, in order. The map, if one is made, is that of the pieces.
pub record HandsOverTo {O L : Type 0} (Did : O → Call → O → Type 0) (marks : List Bool) (scan : Scanned) (end : ℕ) (old : Parties O L) (after : Option (List Run)) (new : Parties O L) : Type 0 where
  pub reads : List PieceRead
  pub survey : IsSurveyOver marks scan.d 0 old.stack reads new.stack
  pub pieces : ArePassPieces scan (pass_over old.stack.config scan.d marks) reads
  pub whole : length (all_states reads) ≡ end
  pub noted : AreMarksNoted after (all_states reads)
  pub made : Calls Did old.out (copy_calls 0 reads) new.out

-- those of a pass over the sectors that are counted
abbrev pub HandsOverUntil : {O L : Type 0} → (O → Call → O → Type 0) → DevicePass → List Bool → Parties O L → Option (List Run) → Parties O L → Course → Type 0
HandsOverUntil Did pass marks old after new course = HandsOverTo Did marks (scanned_by pass) (counted_sectors course.counts) old after new

-- those of a pass that returns its map
abbrev pub RescueHands : {O L : Type 0} → (O → Call → O → Type 0) → List Bool → DevicePass → Parties O L → Parties O L → Rescued → Type 0
RescueHands Did marks pass old new rescued = HandsOverTo Did marks (scanned_by pass) (counted_sectors rescued.course.counts) old (Some rescued.map) new

-- the calls after those of the pieces: none, or the failed write of the piece that was read last, from sector `at` on
abbrev pub IsLastCall : ℕ → ℕ → StackRecord → StackRecord → RecoveryFault → List Call → Type 0
IsLastCall d at left stack NoMemory calls = calls ≡ []
IsLastCall d at left stack Output calls = (n : ℕ) × (bytes : List ℕ) × EachBytes left d at n (Ok bytes) stack × (calls ≡ Write at bytes false ∷ [])

-- or of sectors further on, which weren't read before
abbrev pub IsLastBehind : List Bool → ℕ → ℕ → StackRecord → StackRecord → RecoveryFault → List Call → Type 0
IsLastBehind marks d at left stack NoMemory calls = calls ≡ []
IsLastBehind marks d at left stack Output calls =
    (behind : ℕ) × (n : ℕ) × (bytes : List ℕ) × AreMarked marks (at + behind) n false × EachBytes left d (at + behind) n (Ok bytes) stack × (calls ≡ Write (at + behind) bytes false ∷ [])

-- The recovery ended early: the calls on the output device are those of the pieces so far. A write that failed is the last one.
pub record HandsOverPart {O L : Type 0} (Did : O → Call → O → Type 0) (marks : List Bool) (scan : Scanned) (old new : Parties O L) (fault : RecoveryFault) : Type 0 where
  pub reads : List PieceRead
  pub left : StackRecord
  pub last : List Call
  pub survey : IsSurveyOver marks scan.d 0 old.stack reads left
  pub pieces : ArePassPieces scan (pass_over old.stack.config scan.d marks) reads
  pub made : Calls Did old.out (copy_calls 0 reads ++ last) new.out
  pub ends : IsLastBehind marks scan.d (length (all_states reads)) left new.stack fault last
