-- Turns and passes in turns, in terms of the arguments of a call.
use Rattle.std.specs.Prelude.{◌≡◌, ℕ, Bool, IsTrue, List, length, Option, option_map}
use Rattle.block_device.specs.Device.{Device}
use Rattle.rescue_map.specs.declared.map.Run.{Run}
use Rattle.rescue_map.specs.Maps.{marks}
use Rattle.stack_recovery.specs.declared.deadline.Deadline.{Deadline}
use Rattle.stack_recovery.specs.declared.deadline.DevicePass.{DevicePass}
use Rattle.stack_recovery.specs.declared.deadline.FirstPass.{FirstPass}
use Rattle.stack_recovery.specs.declared.fault.RecoveryFault.{RecoveryFault}
use Rattle.stack_recovery.specs.Deadlines.{EndsAt}
use Rattle.stack_recovery.specs.FirstPasses.{SkimsBy, Transfer, skimmed}
use Rattle.stack_rules.specs.Names.{mapped, size}
use Rattle.stack_recovery.specs.Listings.{Listed}
use Rattle.stack_recovery.specs.PassPieces.{Scanned, scanned}
use Rattle.stack_recovery.specs.declared.way.Way.TheVariants.{Forward}
use Rattle.stack_recovery.specs.Recoveries.{Parties, Sides, scanned_by, seen_sides}
use Rattle.scan_commands.specs.MapFiles.{map_path_of}
use Rattle.scan_commands.specs.declared.map_file.MapFile.{MapFile}
use Rattle.scan_commands.specs.declared.phase.Phase.{Phase}
use Rattle.scan_commands.specs.declared.turn_reads.NextTurn.{NextTurn}
use Rattle.scan_commands.specs.declared.turn_reads.ReadMap.{ReadMap}
use Rattle.scan_commands.specs.declared.turns.TurnEnd.{TurnEnd}
use Rattle.scan_commands.specs.declared.rescue_fault.PassFault.{PassFault}
use Rattle.scan_commands.specs.Turns.{IsTurn, ReadsInTurns, ReadsLeft, ReadsSectors, Replaces, begun_with, kept, progressed}
use Rattle.scan_commands.specs.TurnEnds.{EndsSectors, IsPassTurnsEnd, StopsIn}

-- sectors were read, up to the last one or to one where the pass may end
pub record ReadsUntil (phase : Phase) (wanted : ℕ) (before : List Bool) (scan : Scanned) (deadline : Option Deadline) (old : Sides) (made : ReadMap) (new : Sides) : Type 0 where
  pub reads : ReadsSectors phase wanted before scan old made new
  pub ends : EndsAt deadline made.way (length (marks made.map)) (size old.stack.config (mapped scan.d))

-- the device of a turn, and how it is scanned
abbrev pub turn_scan : ℕ → NextTurn → Scanned
turn_scan d turn = record { d = d; no_scrape = turn.no_scrape; turned = turn.turned }

-- the sectors of a turn were read, or the first of them; or the pass ended early
abbrev pub ReadsTurnBy : {O L : Type 0} → (O → Device) → (L → Listed) → ℕ → NextTurn → Parties O L → Parties O L → ReadMap → Type 0
ReadsTurnBy state told d turn old new made = ReadsUntil turn.phase turn.skip (marks turn.wanted.now) (turn_scan d turn) turn.deadline (seen_sides state told old) made (seen_sides state told new)

abbrev pub EndsTurnRead : {O L : Type 0} → (O → Device) → (L → Listed) → ℕ → NextTurn → Parties O L → Parties O L → RecoveryFault → Type 0
EndsTurnRead state told d turn old new fault = EndsSectors turn.phase turn.skip (marks turn.wanted.now) (turn_scan d turn) (seen_sides state told old) (seen_sides state told new) fault

-- a turn, which results in this map and ends before that sector
abbrev pub TakesTurn : {S O L : Type 0} → Replaces S → (O → Device) → (L → Listed) → ℕ → NextTurn → S → Parties O L → S → Parties O L → TurnEnd → Type 0
TakesTurn replaces state told d turn images old images' new ended =
    IsTurn (kept replaces (option_map map_path_of turn.file) (scanned d turn.no_scrape) turn.sectors) turn.phase (progressed images (seen_sides state told old) turn.map.now turn.span.first turn.skip turn.turned) (progressed images' (seen_sides state told new) ended.map ended.at ended.skip ended.turned)

abbrev pub StopsTurn : {S O L : Type 0} → Replaces S → (O → Device) → (L → Listed) → ℕ → NextTurn → S → Parties O L → S → Parties O L → PassFault → Type 0
StopsTurn replaces state told d turn images old images' new fault =
    StopsIn (kept replaces (option_map map_path_of turn.file) (scanned d turn.no_scrape) turn.sectors) turn.phase (progressed images (seen_sides state told old) turn.map.now turn.span.first turn.skip turn.turned) images' (seen_sides state told new) fault

-- all turns of a pass over a device with a map
abbrev pub ReadsByFile : {S O L : Type 0} → Replaces S → (O → Device) → (L → Listed) → ℕ → MapFile → S → Parties O L → S → Parties O L → List Run → Type 0
ReadsByFile replaces state told d kept_map images old images' new made =
    ReadsInTurns (kept replaces (option_map map_path_of kept_map.file) (scanned d kept_map.no_scrape) (size old.stack.config (mapped d))) kept_map.phase (begun_with kept_map.phase (size old.stack.config (mapped d)) images (seen_sides state told old) kept_map.map) images' (seen_sides state told new) made

abbrev pub StopsByFile : {S O L : Type 0} → Replaces S → (O → Device) → (L → Listed) → ℕ → MapFile → S → Parties O L → S → Parties O L → PassFault → Type 0
StopsByFile replaces state told d kept_map images old images' new fault =
    IsPassTurnsEnd (kept replaces (option_map map_path_of kept_map.file) (scanned d kept_map.no_scrape) (size old.stack.config (mapped d))) kept_map.phase (begun_with kept_map.phase (size old.stack.config (mapped d)) images (seen_sides state told old) kept_map.map) images' (seen_sides state told new) fault

-- what the next pass needs: the map is of all sectors, the configuration stays, and so does the output device
pub record GoesOn {O L : Type 0} (state : O → Device) (d : ℕ) (old new : Parties O L) (made : List Run) : Type 0 where
  pub map : length (marks made) ≡ size old.stack.config (mapped d)
  pub config : new.stack.config ≡ old.stack.config
  pub same_size : (state new.out).size ≡ (state old.out).size
  pub allowed : IsTrue (state new.out).may_write

-- sectors were read in a pass in large pieces, which ended after the last sector or early
abbrev pub SkimsLeftBy : {O : Type 0} → (O → Device) → FirstPass → List Bool → Transfer O → Transfer O → ReadMap → Type 0
SkimsLeftBy state pass before old new made = SkimsBy state pass before old new (skimmed made.map made.skip) × (made.way ≡ Forward)

-- sectors were read in a pass after the first one, which ended after the last sector or early
abbrev pub ReadsLeftUntil : Option Deadline → List Bool → Scanned → Sides → ReadMap → Sides → Type 0
ReadsLeftUntil deadline before scan old made new = ReadsLeft before scan old made new × EndsAt deadline made.way (length (marks made.map)) (size old.stack.config (mapped scan.d))

abbrev pub ReadsLeftBy : {O L : Type 0} → (O → Device) → (L → Listed) → DevicePass → List Bool → Parties O L → Parties O L → ReadMap → Type 0
ReadsLeftBy state told pass before old new made = ReadsLeftUntil pass.deadline before (scanned_by pass) (seen_sides state told old) made (seen_sides state told new)
