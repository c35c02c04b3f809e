-- Why a pass in turns ends early.
use Rattle.std.specs.Prelude.{◌≡◌, ◌⊎◌, ℕ, Bool, true, IsTrue, List, Option, Some, None, is_some, Err}
use Rattle.allocation.specs.Refusal.{IsOutOfMemory}
use Rattle.block_device.specs.Device.{Device, HasFailed, IsUnsynced}
use Rattle.image_files.specs.declared.texts.ReplaceFault.{ReplaceFault}
use Rattle.rescue_map.specs.declared.map.Run.{Run}
use Rattle.rescue_map.specs.MapText.{map_text}
use Rattle.rescue_map.specs.declared.splicing.Span.{Span}
use Rattle.stack_recovery.specs.declared.fault.RecoveryFault.{RecoveryFault}
use Rattle.stack_recovery.specs.FirstPasses.{EndsSkim, FailsSkimOutput, SkimsShort, Skipping, skipping, transfer_of}
use Rattle.stack_rules.specs.Names.{mapped, size}
use Rattle.stack_meaning.specs.Memory.{largest_allocation}
use Rattle.stack_recovery.specs.PassPieces.{Scanned}
use Rattle.stack_recovery.specs.Recoveries.{FailsOutput, IsRescueEnd, RunsShort, Sides, sides}
use Rattle.scan_commands.specs.MapFiles.{MapPathRecord}
use Rattle.scan_commands.specs.declared.phase.Phase.{Phase}
use Rattle.scan_commands.specs.declared.phase.Phase.TheVariants.{Skim, Sweep}
use Rattle.scan_commands.specs.declared.turn_reads.ReadMap.{ReadMap}
use Rattle.scan_commands.specs.declared.rescue_fault.PassFault.{PassFault}
use Rattle.scan_commands.specs.declared.rescue_fault.PassFault.TheVariants.{NoMemory, Output, Unwritten}
use Rattle.scan_commands.specs.Turns.{IsSpan, Kept, Progressed, ReadsSectors, Replaces, Turns, asked_marks, most_skipped, scan_from, scan_in, synced_by}

-- the most elements that one allocation requests when a map is printed
abbrev pub largest_print_allocation : ℕ
largest_print_allocation = 40

-- why a map file isn't replaced: by that fault, or an allocation for its text was refused before the opener was called
abbrev pub IsMapUnwritten : {S : Type 0} → Replaces S → List ℕ → S → List ℕ → S → PassFault → Type 0
IsMapUnwritten replaces path old text new NoMemory = (new ≡ old) × IsOutOfMemory largest_print_allocation
IsMapUnwritten replaces path old text new (Unwritten fault) = replaces old path text (Err fault) new
IsMapUnwritten replaces path old text new other = ⊥

-- the map file, if there is one, isn't replaced by a map
abbrev pub LeavesMap : {S : Type 0} → Replaces S → Option MapPathRecord → Bool → List Run → S → S → PassFault → Type 0
LeavesMap replaces None no_scrape runs old new fault = ⊥
LeavesMap replaces (Some file) no_scrape runs old new fault = IsMapUnwritten replaces file.path old (map_text file.kind no_scrape runs file.tail) new fault

-- replacing the map file by some text failed
abbrev pub IsFileUnreplaced : {S : Type 0} → Replaces S → Option MapPathRecord → S → ReplaceFault → S → Type 0
IsFileUnreplaced replaces None old fault new = ⊥
IsFileUnreplaced replaces (Some file) old fault new = (text : List ℕ) × replaces old file.path text (Err fault) new

-- the sync after a turn failed; without a map file there is none
pub record FailsToSyncBy (file : Option MapPathRecord) (old new : Device) : Type 0 where
  pub kept : is_some file ≡ true
  pub unsynced : IsUnsynced old new
  pub sure : IsTrue old.never_fails → ⊥

-- the output device counts no further failure
abbrev pub IsUnfailed : Sides → Sides → Type 0
IsUnfailed old new = new.out.failures ≡ old.out.failures

-- The output device was not synced after the sectors of a turn were done, as it is if there is a map file.
pub record FailsToSyncTurn {S : Type 0} (k : Kept S) (phase : Phase) (span : Span) (now : Progressed S) (new : Sides) : Type 0 where
  pub left : Sides
  pub made : ReadMap
  pub reads : ReadsSectors phase now.skip (asked_marks phase span k.sectors now.runs) (scan_from k now) now.sides made left
  pub kept : is_some k.file ≡ true
  pub unsynced : IsUnsynced left.out new.out
  pub stack : new.stack ≡ left.stack
  pub printed : new.printed ≡ left.printed

-- how many sectors a pass skips
abbrev pub skipping_in : Phase → ℕ → Scanned → Sides → Skipping
skipping_in phase wanted scan old = skipping (most_skipped phase (size old.stack.config (mapped scan.d))) wanted

-- a write of the pass failed; a pass in large pieces reports nothing
abbrev pub FailsToWrite : Phase → ℕ → List Bool → Scanned → Sides → Sides → Type 0
FailsToWrite Skim wanted before scan old new = FailsSkimOutput (skipping_in Skim wanted scan old) before scan.d (transfer_of old) (transfer_of new) × (new.printed ≡ old.printed)
FailsToWrite Sweep wanted before scan old new = FailsSkimOutput (skipping_in Sweep wanted scan old) before scan.d (transfer_of old) (transfer_of new) × (new.printed ≡ old.printed)
FailsToWrite later wanted before scan old new = FailsOutput before (scan_in later scan) old new

-- The output device failed in the next turn: a write of the turn failed, or the sync after it.
pub record FailsInTurn {S : Type 0} (k : Kept S) (phase : Phase) (now : Progressed S) (new : Sides) : Type 0 where
  pub span : Span
  pub end : ℕ
  pub next : IsSpan k.file k.sectors now.at span end
  pub fails : FailsToWrite phase now.skip (asked_marks phase span k.sectors now.runs) (scan_from k now) now.sides new ⊎ FailsToSyncTurn k phase span now new

-- memory ran out for a read of the pass or for its map; the lines printed are the first of those of the pass
abbrev pub RunsOut : Phase → ℕ → List Bool → Scanned → Sides → Sides → Type 0
RunsOut Skim wanted before scan old new = SkimsShort (skipping_in Skim wanted scan old) before scan.d (transfer_of old) (transfer_of new) × (new.printed ≡ old.printed)
RunsOut Sweep wanted before scan old new = SkimsShort (skipping_in Sweep wanted scan old) before scan.d (transfer_of old) (transfer_of new) × (new.printed ≡ old.printed)
RunsOut later wanted before scan old new = RunsShort true before (scan_in later scan) old new

-- why a read of the sectors of a turn ended early
abbrev pub EndsSectors : Phase → ℕ → List Bool → Scanned → Sides → Sides → RecoveryFault → Type 0
EndsSectors Skim wanted before scan old new fault = EndsSkim (skipping_in Skim wanted scan old) before scan.d (transfer_of old) (transfer_of new) fault × (new.printed ≡ old.printed)
EndsSectors Sweep wanted before scan old new fault = EndsSkim (skipping_in Sweep wanted scan old) before scan.d (transfer_of old) (transfer_of new) fault × (new.printed ≡ old.printed)
EndsSectors later wanted before scan old new fault = IsRescueEnd before (scan_in later scan) old new fault

-- memory ran out in the next turn, for a read or its map
pub record RunsOutInTurn {S : Type 0} (k : Kept S) (phase : Phase) (now : Progressed S) (new : Sides) : Type 0 where
  pub span : Span
  pub end : ℕ
  pub next : IsSpan k.file k.sectors now.at span end
  pub short : RunsOut phase now.skip (asked_marks phase span k.sectors now.runs) (scan_from k now) now.sides new

-- The sectors of the next turn were done. If there is a map file, the output device was synced.
pub record EndsUnmapped {S : Type 0} (k : Kept S) (phase : Phase) (now : Progressed S) (new : Sides) : Type 0 where
  pub span : Span
  pub end : ℕ
  pub next : IsSpan k.file k.sectors now.at span end
  pub left : Sides
  pub made : ReadMap
  pub reads : ReadsSectors phase now.skip (asked_marks phase span k.sectors now.runs) (scan_from k now) now.sides made left
  pub on_medium : new ≡ sides left.stack (synced_by k.file left.out) left.printed

-- the next turn wasn't begun, was ended by a read, or lacks its map alone
abbrev pub IsTurnShort : {S : Type 0} → Kept S → Phase → Progressed S → Sides → Type 0
IsTurnShort k phase now new = (new ≡ now.sides) ⊎ (RunsOutInTurn k phase now new ⊎ EndsUnmapped k phase now new)

-- Why a turn ended early. The map file, if there is one, is that of the completed turns. If memory ran out, an allocation of at most so many
-- elements was refused: for a read, for a map or for its text.
abbrev pub StopsIn : {S : Type 0} → Kept S → Phase → Progressed S → S → Sides → PassFault → Type 0
StopsIn k phase now images new NoMemory = (images ≡ now.images) × IsUnfailed now.sides new × IsOutOfMemory largest_allocation × IsTurnShort k phase now new
StopsIn k phase now images new Output = (images ≡ now.images) × HasFailed now.sides.out new.out × (IsTrue now.sides.out.never_fails → ⊥) × FailsInTurn k phase now new
StopsIn k phase now images new (Unwritten fault) = IsFileUnreplaced k.replaces k.file now.images fault images × IsUnfailed now.sides new × EndsUnmapped k phase now new
StopsIn k phase now images new other = ⊥

-- some turns of a pass were completed, and the next one wasn't
pub record IsPassTurnsEnd {S : Type 0} (k : Kept S) (phase : Phase) (first : Progressed S) (images : S) (new : Sides) (fault : PassFault) : Type 0 where
  pub now : Progressed S
  pub turns : Turns k phase first now
  pub stops : StopsIn k phase now images new fault
