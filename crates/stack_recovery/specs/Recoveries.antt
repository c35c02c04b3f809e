-- The effects of a recovery.
use Rattle.std.specs.Prelude.{◌≡◌, ◌⊎◌, ℕ, ◌+◌, ◌-◌, Bool, true, false, IsTrue, List, ◌++◌, length, map, Option, Some, None, Ok, Err}
use Rattle.allocation.specs.Refusal.{IsOutOfMemory}
use Rattle.block_device.specs.Device.{Device, HasFailed, IsWritten}
use Rattle.stack_rules.specs.Names.{mapped, size}
use Rattle.stack_meaning.specs.declared.fault.IoFault.TheVariants as io
use Rattle.stack_meaning.specs.Meaning.{said_at}
use Rattle.stack_meaning.specs.Reading.{MeetVerity}
use Rattle.stack_engine.specs.Bytes.{EachBytes}
use Rattle.stack_engine.specs.Stacks.{StackRecord}
use Rattle.rescue_map.specs.declared.map.Run.{Run}
use Rattle.rescue_map.specs.Maps.{losts, marks}
use Rattle.stack_recovery.specs.declared.deadline.Deadline.{Deadline}
use Rattle.stack_recovery.specs.declared.deadline.DevicePass.{DevicePass}
use Rattle.stack_recovery.specs.declared.fault.RecoveryFault.{RecoveryFault}
use Rattle.stack_recovery.specs.declared.fault.RecoveryFault.TheVariants.{NoMemory, Output}
use Rattle.runs.specs.Runs.{runs_of}
use Rattle.stack_recovery.specs.declared.lost_run.Loss.TheVariants.{Lost, Unscraped}
use Rattle.stack_recovery.specs.LostRuns.{LostRun, is_same_loss, lost_in, untried_in}
use Rattle.stack_recovery.specs.declared.recovery.Counts.{Counts}
use Rattle.stack_recovery.specs.declared.recovery.Course.{Course}
use Rattle.stack_recovery.specs.declared.rescued.Rescued.{Rescued}
use Rattle.stack_recovery.specs.declared.way.Way.{Way}
use Rattle.stack_recovery.specs.declared.way.Way.TheVariants.{Forward}
use Rattle.stack_recovery.specs.Copies.{IsCopied}
use Rattle.stack_recovery.specs.Deadlines.{EndsAt}
use Rattle.stack_recovery.specs.Listings.{Listed, Tells}
use Rattle.stack_recovery.specs.PassPieces.{ArePassPieces, IsWayInside, Scanned, pass_over, way_from}
use Rattle.stack_recovery.specs.Surveys.{AreMarked, IsSurveyOver, PieceRead, SectorState, all_states}

-- the device of a pass, whether it doesn't scrape, and where an earlier pass had turned
abbrev pub scanned_by : DevicePass → Scanned
scanned_by pass = record { d = pass.device.0; no_scrape = pass.no_scrape; turned = pass.turned }

-- the stack, the output device, and what was printed
pub record Sides : Type 0 where
  pub stack : StackRecord
  pub out : Device
  pub printed : Listed

abbrev pub sides : StackRecord → Device → Listed → Sides
sides stack out printed = record { stack = stack; out = out; printed = printed }

-- the first pieces of the device were read, and the first of their lost runs printed
pub record IsBegunOver (marks : List Bool) (scan : Scanned) (old new : Sides) : Type 0 where
  pub reads : List PieceRead
  pub left : StackRecord
  pub runs : List LostRun
  pub more : List LostRun
  pub survey : IsSurveyOver marks scan.d 0 old.stack reads left
  pub pieces : ArePassPieces scan (pass_over old.stack.config scan.d marks) reads
  pub first : runs_of is_same_loss 0 (all_states reads) ≡ runs ++ more
  pub printed : Tells old.printed new.printed runs

-- a read of some sectors not before that one ran out of memory; a `verity` line is below them, as only its reads allocate
pub record FindsNoMemory (d at : ℕ) (w w' : StackRecord) : Type 0 where
  pub behind : ℕ
  pub count : ℕ
  pub answered : EachBytes w d (at + behind) count (Err io.NoMemory) w'
  pub met : MeetVerity (said_at w.config (mapped d)) (at + behind) count

-- a map is made, and memory for one of its runs was refused
abbrev pub IsMapRefused : Bool → Type 0
IsMapRefused makes_map = (makes_map ≡ true) × IsOutOfMemory 1

-- Memory ran out for a read or for the map. The sectors read so far are copied, and the output device didn't fail.
pub record RunsShort (makes_map : Bool) (marks : List Bool) (scan : Scanned) (old new : Sides) : Type 0 where
  pub begun : IsBegunOver marks scan old new
  pub copied : IsCopied begun.reads old.out new.out
  pub unfailed : new.out.failures ≡ old.out.failures
  pub refused : FindsNoMemory scan.d (length (all_states begun.reads)) begun.left new.stack ⊎ IsMapRefused makes_map

-- A write of the output device failed. The sectors read before are copied. Of a steady device no sector differs from that but
-- those of the piece that was being written, which was read from where the last one ends, or further on. They weren't read before.
pub record FailsOutput (marks : List Bool) (scan : Scanned) (old new : Sides) : Type 0 where
  pub begun : IsBegunOver marks scan old new
  pub out : Device
  pub behind : ℕ
  pub n : ℕ
  pub bytes : List ℕ
  pub unread : AreMarked marks (length (all_states begun.reads) + behind) n false
  pub read : EachBytes begun.left scan.d (length (all_states begun.reads) + behind) n (Ok bytes) new.stack
  pub copied : IsCopied begun.reads old.out out
  pub writing : IsWritten out (length (all_states begun.reads) + behind) n false new.out
  pub failed : HasFailed old.out new.out
  pub sure : IsTrue old.out.never_fails → ⊥

-- why the recovery ended early; a line that can't be written is no cause
abbrev pub EndsEarly : Bool → List Bool → Scanned → Sides → Sides → RecoveryFault → Type 0
EndsEarly makes_map marks scan old new NoMemory = RunsShort makes_map marks scan old new
EndsEarly makes_map marks scan old new Output = FailsOutput marks scan old new

abbrev pub IsRescueEnd : List Bool → Scanned → Sides → Sides → RecoveryFault → Type 0
IsRescueEnd marks scan old new fault = EndsEarly true marks scan old new fault

-- ---- in terms of the arguments of a call

-- a stack, the output device, and the receiver of lost runs
pub record Parties (O L : Type 0) : Type 0 where
  pub stack : StackRecord
  pub out : O
  pub listing : L

abbrev pub parties : {O L : Type 0} → StackRecord → O → L → Parties O L
parties stack out listing = record { stack = stack; out = out; listing = listing }

-- their states, as a proof sees them
abbrev pub seen_sides : {O L : Type 0} → (O → Device) → (L → Listed) → Parties O L → Sides
seen_sides state told p = sides p.stack (state p.out) (told p.listing)

-- ---- if some sectors were read before

-- whether a sector was read
abbrev pub is_had : SectorState → Bool
is_had None = true
is_had (Some fault) = false

-- whether it is lost, and not only unscraped
abbrev pub is_lost : SectorState → Bool
is_lost None = false
is_lost (Some (Lost fault)) = true
is_lost (Some (Unscraped fault)) = false

-- if a map is made, it has for each sector what holds of its state
abbrev pub AreNoted : (List Run → List Bool) → (SectorState → Bool) → Option (List Run) → List SectorState → Type 0
AreNoted flags holds None states = Unit {0}
AreNoted flags holds (Some runs) states = flags runs ≡ map holds states

-- its marks are those of the states, and its bad sectors those that are lost
abbrev pub AreMarksNoted : Option (List Run) → List SectorState → Type 0
AreMarksNoted made states = AreNoted marks is_had made states

abbrev pub AreLossesNoted : Option (List Run) → List SectorState → Type 0
AreLossesNoted made states = AreNoted losts is_lost made states

-- how many of the sectors were read, how many are lost, and how many are unscraped
abbrev pub counts_in : List SectorState → Counts
counts_in states = record { read = length states - (lost_in states + untried_in states); lost = lost_in states; untried = untried_in states }

-- Each sector of device d before `end` was read, now or before, or is lost. The sectors that were read now were copied, a line was
-- printed for each longest lost run, the counts are right, and a map is made of these sectors. The pass would go on this way: if it has begun
-- to read a run backwards, the sectors of the run that were read are copied too.
pub record GoesOverTo (before : List Bool) (scan : Scanned) (end : ℕ) (way : Way) (old : Sides) (counts : Counts) (made : Option (List Run)) (new : Sides) : Type 0 where
  pub reads : List PieceRead
  pub survey : IsSurveyOver before scan.d 0 old.stack reads new.stack
  pub whole : length (all_states reads) ≡ end
  pub pieces : ArePassPieces scan (pass_over old.stack.config scan.d before) reads
  pub goes_on : way ≡ way_from scan Forward 0 reads
  pub inside : IsWayInside end way (size old.stack.config (mapped scan.d))
  pub copied : IsCopied reads old.out new.out
  pub unfailed : new.out.failures ≡ old.out.failures
  pub printed : Tells old.printed new.printed (runs_of is_same_loss 0 (all_states reads))
  pub counted : counts ≡ counts_in (all_states reads)
  pub noted : AreMarksNoted made (all_states reads)
  pub bad : AreLossesNoted made (all_states reads)

-- how many sectors are counted
abbrev pub counted_sectors : Counts → ℕ
counted_sectors counts = counts.read + (counts.lost + counts.untried)

-- such a pass over the sectors that are counted, which ended there
pub record GoesOverUntil (deadline : Option Deadline) (before : List Bool) (scan : Scanned) (old : Sides) (course : Course) (made : Option (List Run)) (new : Sides) : Type 0 where
  pub goes : GoesOverTo before scan (counted_sectors course.counts) course.way old course.counts made new
  pub ends : EndsAt deadline course.way (counted_sectors course.counts) (size old.stack.config (mapped scan.d))

-- the result has that map
abbrev pub RescuesUntil : Option Deadline → List Bool → Scanned → Sides → Rescued → Sides → Type 0
RescuesUntil deadline before scan old rescued new = GoesOverUntil deadline before scan old rescued.course (Some rescued.map) new

-- such a recovery, by the arguments before and after the call
abbrev pub GoesOverBy : {O L : Type 0} → (O → Device) → (L → Listed) → DevicePass → List Bool → Parties O L → Option (List Run) → Parties O L → Course → Type 0
GoesOverBy state told pass before old made new course = GoesOverUntil pass.deadline before (scanned_by pass) (seen_sides state told old) course made (seen_sides state told new)

abbrev pub EndsEarlyBy : {O L : Type 0} → (O → Device) → (L → Listed) → Bool → DevicePass → List Bool → Parties O L → Parties O L → RecoveryFault → Type 0
EndsEarlyBy state told makes_map pass before old new fault = EndsEarly makes_map before (scanned_by pass) (seen_sides state told old) (seen_sides state told new) fault

abbrev pub RescuesBy : {O L : Type 0} → (O → Device) → (L → Listed) → DevicePass → List Bool → Parties O L → Parties O L → Rescued → Type 0
RescuesBy state told pass before old new rescued = RescuesUntil pass.deadline before (scanned_by pass) (seen_sides state told old) rescued (seen_sides state told new)

abbrev pub EndsRescue : {O L : Type 0} → (O → Device) → (L → Listed) → DevicePass → List Bool → Parties O L → Parties O L → RecoveryFault → Type 0
EndsRescue state told pass before old new fault = IsRescueEnd before (scanned_by pass) (seen_sides state told old) (seen_sides state told new) fault

-- these sectors were recorded after the earlier ones
abbrev pub NotesMore : (List Run → List Bool) → Option (List Run) → Option (List Run) → List Bool → Type 0
NotesMore flags None None more = Unit {0}
NotesMore flags (Some old) (Some new) more = flags new ≡ flags old ++ more
NotesMore flags old new more = ⊥
