-- A device that is read by a pass in turns. If it has a map file, this is replaced after each turn; else one turn covers the device.
use Rattle.std.specs.Prelude.{◌≡◌, ◌⊎◌, ℕ, ◌+◌, ◌-◌, ◌*◌, ◌/◌, ◌<◌, ◌≤◌, max, min, Bool, true, false, List, length, replicate, Option, Some, None, Result, Ok}
use Rattle.std.specs.List.{list_all}
use Rattle.block_device.specs.Device.{Device, synced}
use Rattle.rescue_map.specs.declared.map.Run.{Run}
use Rattle.rescue_map.specs.declared.splicing.Span.{Span}
use Rattle.rescue_map.specs.Maps.{marks, spliced_marks}
use Rattle.rescue_map.specs.declared.status.Status.{Status}
use Rattle.rescue_map.specs.declared.status.Status.TheVariants.{Bad, Unscraped, Untried, Untrimmed}
use Rattle.rescue_map.specs.declared.stepping.Step.{Step}
use Rattle.rescue_map.specs.MapText.{map_text}
use Rattle.rescue_map.specs.Stages.{statuses}
use Rattle.rescue_map.specs.Steps.{stepped_statuses, untaken_marks}
use Rattle.stack_recovery.specs.declared.deadline.Deadline.{Deadline}
use Rattle.stack_recovery.specs.declared.recovery.Counts.{Counts}
use Rattle.stack_recovery.specs.FirstPasses.{SkimsTo, skimmed, skipping, transfer_of}
use Rattle.stack_recovery.specs.Skips.{least_skip, most_skip}
use Rattle.stack_rules.specs.Names.{mapped, size}
use Rattle.stack_recovery.specs.PassPieces.{IsWayInside, Scanned}
use Rattle.stack_recovery.specs.Recoveries.{GoesOverTo, Sides, sides}
use Rattle.stack_recovery.specs.Ways.{is_backward}
use Rattle.stack_recovery.specs.declared.way.Way.{Way}
use Rattle.stack_recovery.specs.declared.way.Way.TheVariants.{Backward, Forward}
use Rattle.image_files.specs.declared.texts.ReplaceFault.{ReplaceFault}
use Rattle.scan_commands.specs.MapFiles.{MapPathRecord}
use Rattle.scan_commands.specs.declared.phase.Phase.{Phase}
use Rattle.scan_commands.specs.declared.phase.Phase.TheVariants.{Retry, Scrape, Skim, Sweep, Trim}
use Rattle.scan_commands.specs.declared.turn_reads.ReadMap.{ReadMap}

-- how a file is replaced by bytes
abbrev pub Replaces : Type 0 → Type 1
Replaces S = S → List ℕ → List ℕ → Result (Unit {0}) ReplaceFault → S → Type 0

-- a device of so many sectors and how it is scanned, its map file, if there is one, and how the file is replaced
pub record Kept (S : Type 0) : Type 1 where
  pub replaces : Replaces S
  pub file : Option MapPathRecord
  pub scan : Scanned
  pub sectors : ℕ

abbrev pub kept : {S : Type 0} → Replaces S → Option MapPathRecord → Scanned → ℕ → Kept S
kept replaces file scan sectors = record { replaces = replaces; file = file; scan = scan; sectors = sectors }

-- the opener, the stack with the output device and the reported lines, and the map; the sectors before `at` are done, after the next
-- failed read of a pass in large pieces so many are skipped, and a run that begins at sector `turned` is read backwards, 0 if none is
pub record Progressed (S : Type 0) : Type 0 where
  pub images : S
  pub sides : Sides
  pub runs : List Run
  pub at : ℕ
  pub skip : ℕ
  pub turned : ℕ

abbrev pub progressed : {S : Type 0} → S → Sides → List Run → ℕ → ℕ → ℕ → Progressed S
progressed images sides runs at skip turned = record { images = images; sides = sides; runs = runs; at = at; skip = skip; turned = turned }

-- the most sectors that a pass over so many sectors skips after a failed read
abbrev pub most_skipped : Phase → ℕ → ℕ
most_skipped Skim sectors = most_skip sectors
most_skipped other sectors = 0

-- The status of the sectors that a pass reads, that of those that it finds bad, and that of those that it leaves.
abbrev pub step : Status → Status → Status → Step
step takes failed left = record { takes = takes; failed = failed; left = left }

abbrev pub large_step : Step
large_step = step Untried Untrimmed Untried

abbrev pub step_of : Phase → Step
step_of Skim = large_step
step_of Sweep = large_step
step_of Trim = step Untrimmed Bad Unscraped
step_of Scrape = step Unscraped Bad Unscraped
step_of Retry = step Bad Bad Bad

-- whether a pass reads runs from both edges only
abbrev pub is_trim : Phase → Bool
is_trim Trim = true
is_trim other = false

-- a pass over so many sectors begins
abbrev pub begun_with : {S : Type 0} → Phase → ℕ → S → Sides → List Run → Progressed S
begun_with phase sectors images sides runs = progressed images sides runs 0 (min least_skip (most_skipped phase sectors)) 0

-- how many sectors a turn covers after which a map file is replaced: 64 MiB, or of a device above 4 TiB about a 65,536th, in whole groups of
-- eight sectors
unfoldable pub kept_len : ℕ → ℕ
kept_len sectors = max 131072 ((sectors / 524288 + 1) * 8)

-- how many sectors a turn covers: all if there is no map file
abbrev pub turn_len : Option MapPathRecord → ℕ → ℕ
turn_len None sectors = sectors
turn_len (Some file) sectors = kept_len sectors

-- the marks that a turn reads by: in the span those of the sectors that the pass doesn't read; all other sectors count as read before,
-- so that they aren't read
abbrev pub asked_marks : Phase → Span → ℕ → List Run → List Bool
asked_marks phase span sectors runs = spliced_marks span (replicate sectors true) (untaken_marks (step_of phase).takes runs)

-- the next sectors that a turn covers
pub record IsSpan (file : Option MapPathRecord) (sectors at : ℕ) (span : Span) (at' : ℕ) : Type 0 where
  pub first : span.first ≡ at
  pub some : 1 ≤ span.count
  pub count : span.count ≡ min (turn_len file sectors) (sectors - at)
  pub end : at' ≡ at + span.count
  pub inside : at' ≤ sectors

-- sectors were read in a pass by single sectors, which made a map of these sectors
abbrev pub ReadsLeft : List Bool → Scanned → Sides → ReadMap → Sides → Type 0
ReadsLeft before scan old made new = (counts : Counts) × GoesOverTo before scan (length (marks made.map)) made.way old counts (Some made.map) new × (made.skip ≡ 0)

-- Sectors were read in a pass in large pieces, which made a map of them, in which failed pieces are bad. It skips `wanted` sectors after
-- its first failed read, reads nothing backwards, and reports nothing.
abbrev pub ReadsLarge : Phase → ℕ → List Bool → Scanned → Sides → ReadMap → Sides → Type 0
ReadsLarge phase wanted before scan old made new =
    SkimsTo (skipping (most_skipped phase (size old.stack.config (mapped scan.d))) wanted) before scan.d (length (marks made.map)) (transfer_of old) (skimmed made.map made.skip) (transfer_of new) × (new.printed ≡ old.printed) × (made.way ≡ Forward)

-- such a pass leaves sectors between the edges of a run unread if it trims
abbrev pub scan_in : Phase → Scanned → Scanned
scan_in phase scan = record scan { no_scrape = is_trim phase }

-- sectors were read in a pass by the marks before it
abbrev pub ReadsSectors : Phase → ℕ → List Bool → Scanned → Sides → ReadMap → Sides → Type 0
ReadsSectors Skim wanted before scan old made new = ReadsLarge Skim wanted before scan old made new
ReadsSectors Sweep wanted before scan old made new = ReadsLarge Sweep wanted before scan old made new
ReadsSectors later wanted before scan old made new = ReadsLeft before (scan_in later scan) old made new

-- the sectors from sector `first` on and before `end`
abbrev pub span_between : ℕ → ℕ → Span
span_between first end = record { first = first; count = end - first }

-- a device as the next turn of a pass scans it
abbrev pub scan_from : {S : Type 0} → Kept S → Progressed S → Scanned
scan_from k now = record k.scan { turned = now.turned }

-- the first sector of the run that a pass would go on to read backwards, from sector `at` on; 0 if it wouldn't
abbrev pub turned_by : Way → ℕ → ℕ
turned_by Forward at = 0
turned_by other at = at

-- the map after the sectors that a pass read backwards: of those with the status that its step takes each is recovered
abbrev pub StepsBackwards : Step → ℕ → Way → List Run → List Run → Type 0
StepsBackwards step sectors (Backward low end) old new = (all : List Run) × (marks all ≡ replicate sectors true) × (statuses new ≡ stepped_statuses step (span_between low end) old all)
StepsBackwards step sectors other old new = new ≡ old

-- a turn that begins at sector `first` may end early once a time is up, but not without a map file
abbrev pub IsTurnDeadline : Option MapPathRecord → ℕ → Option Deadline → Type 0
IsTurnDeadline None first deadline = deadline ≡ None
IsTurnDeadline (Some file) first deadline = (seconds : ℕ) × (deadline ≡ Some (record { first = first; seconds = seconds }))

-- the output device after a turn: synced if there is a map file
abbrev pub synced_by : Option MapPathRecord → Device → Device
synced_by None out = out
synced_by (Some file) out = synced out

-- the map file was replaced by a map; without one the opener isn't called
abbrev pub KeepsMap : {S : Type 0} → Replaces S → Option MapPathRecord → Bool → List Run → S → S → Type 0
KeepsMap replaces None no_scrape runs old new = new ≡ old
KeepsMap replaces (Some file) no_scrape runs old new = replaces old file.path (map_text file.kind no_scrape runs file.tail) (Ok tt) new

-- a turn without a map file reads up to the end of the device
abbrev pub IsUpTo : Option MapPathRecord → ℕ → ℕ → Type 0
IsUpTo None sectors at = at ≡ sectors
IsUpTo (Some file) sectors at = at ≤ sectors

-- A turn, of the next sectors or the first of them. Those with the status that the pass takes were read, and the readable ones were copied
-- to the other device. If it ended while it read a run backwards, the sectors of the run that were read are recovered too. If there is a map
-- file, that device was synced, and then the file replaced by the new map.
pub record IsTurn {S : Type 0} (k : Kept S) (phase : Phase) (old new : Progressed S) : Type 0 where
  pub span : Span
  pub end : ℕ
  pub next : IsSpan k.file k.sectors old.at span end
  pub left : Sides
  pub made : ReadMap
  pub reads : ReadsSectors phase old.skip (asked_marks phase span k.sectors old.runs) (scan_from k old) old.sides made left
  pub on_medium : new.sides ≡ sides left.stack (synced_by k.file left.out) left.printed
  pub least : old.at ≤ new.at
  pub some : (old.at < new.at) ⊎ (is_backward made.way ≡ true)
  pub few : IsUpTo k.file k.sectors (length (marks made.map))
  pub here : new.at ≡ min end (length (marks made.map))
  pub behind : IsWayInside (length (marks made.map)) made.way k.sectors
  pub forwards : List Run
  pub same : length (marks forwards) ≡ length (marks old.runs)
  pub stepped : statuses forwards ≡ stepped_statuses (step_of phase) (span_between old.at new.at) old.runs made.map
  pub whole : length (marks new.runs) ≡ length (marks old.runs)
  pub map : StepsBackwards (step_of phase) k.sectors made.way forwards new.runs
  pub skip : new.skip ≡ made.skip
  pub turned : new.turned ≡ turned_by made.way new.at
  pub written : KeepsMap k.replaces k.file k.scan.no_scrape new.runs old.images new.images

-- none of the next sectors has the status that the pass takes, so that nothing is done
pub record IsSkipped {S : Type 0} (k : Kept S) (phase : Phase) (old new : Progressed S) : Type 0 where
  pub span : Span
  pub next : IsSpan k.file k.sectors old.at span new.at
  pub runs : List Run
  pub asked : marks runs ≡ asked_marks phase span k.sectors old.runs
  pub none : list_all (λ run. run.had) runs ≡ true
  pub same : new ≡ record old { at = new.at }

pub data Turns {S : Type 0} (k : Kept S) (phase : Phase) (first : Progressed S) : Progressed S → Type 0 where
  begins : Turns k phase first first
  goes_on : {now next : Progressed S} → Turns k phase first now → IsTurn k phase now next → Turns k phase first next
  passes : {now next : Progressed S} → Turns k phase first now → IsSkipped k phase now next → Turns k phase first next

-- the turns of a whole pass, which result in this map
abbrev pub ReadsInTurns : {S : Type 0} → Kept S → Phase → Progressed S → S → Sides → List Run → Type 0
ReadsInTurns k phase first images sides runs = (skip : ℕ) × (turned : ℕ) × Turns k phase first (progressed images sides runs k.sectors skip turned)
