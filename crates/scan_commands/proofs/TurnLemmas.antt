-- A turn over a device.
use Rattle.std.proofs.Common.{ℕ, ◌≡◌, ◌⊎◌, suc, ◌+◌, ◌-◌, ◌<◌, ◌≤◌, ◌^◌, Bool, List, [], ◌∷◌, length, map, Option, Some, None, Result, Ok, Err, IfErr, IfOk, IsErrAnd, arith, inl, inr, false, true, refl, sym, ap, ◌∙◌, subst}
use Rattle.std.proofs.lemmas.Bool.{false≢true}
use Rattle.allocation.specs.Refusal.{IsOutOfMemory}
use Rattle.block_device.specs.Device.{Device, HasFailed, IsSameDevice}
use Rattle.rescue_map.specs.declared.map.Run.{Run}
use Rattle.rescue_map.specs.Maps.{marks}
use Rattle.rescue_map.specs.MapText.{map_text}
use Rattle.stack_rules.specs.Names.{mapped, size}
use Rattle.stack_rules.proofs.lemmas.PassingLemmas.{out_of_memory-more}
use Rattle.stack_meaning.specs.Memory.{largest_allocation}
use Rattle.stack_engine.specs.Stacks.{StackRecord}
use Rattle.scan_commands.specs.declared.rescue_fault.PassFault.{PassFault}
use Rattle.scan_commands.specs.declared.rescue_fault.PassFault.TheVariants.{NoMap, NoMemory, Output, TooLong, Unread, Unwritten}
use Rattle.scan_commands.specs.declared.turn_reads.ReadMap.{ReadMap}
use Rattle.image_files.specs.declared.texts.ReplaceFault.{ReplaceFault}
use Rattle.scan_commands.specs.MapFiles.{MapPathRecord, recovery_ending}
use Rattle.rescue_map.specs.declared.splicing.Span.{Span}
use Rattle.scan_commands.specs.Turns.{IsSpan, IsUpTo, asked_marks, Kept, Progressed, ReadsLarge, ReadsLeft, ReadsSectors, Replaces, is_trim, kept as kept_by, most_skipped, scan_from, scan_in, synced_by}
use Rattle.scan_commands.specs.TurnEnds.{EndsSectors, EndsUnmapped, FailsToWrite, IsFileUnreplaced, LeavesMap, RunsOut, IsMapUnwritten, IsUnfailed, StopsIn, largest_print_allocation, skipping_in}
use Rattle.scan_commands.specs.TurnCalls.{ReadsLeftUntil, ReadsUntil}
use Rattle.stack_recovery.specs.declared.deadline.Deadline.{Deadline}
use Rattle.stack_recovery.specs.declared.fault.RecoveryFault.{RecoveryFault}
use Rattle.stack_recovery.specs.declared.fault.RecoveryFault.TheVariants as recovery
use Rattle.scan_commands.specs.declared.phase.Phase.{Phase}
use Rattle.scan_commands.specs.declared.phase.Phase.TheVariants.{Retry, Scrape, Skim, Sweep, Trim}
use Rattle.stack_recovery.specs.declared.rescued.Rescued.{Rescued}
use Rattle.stack_recovery.specs.Deadlines.{EndsAt}
use Rattle.stack_recovery.specs.FirstPasses.{EndsSkim, SkimsShort, SkimsTo, SkimsUntil, Skipping, Transfer, skimmed, skipping}
use Rattle.stack_recovery.specs.Skims.{IsSkimOver, Skim as SkimPiece, marks_of, skim_marks}
use Rattle.stack_recovery.specs.FirstPasses.{transfer_of}
use Rattle.stack_recovery.specs.PassPieces.{Scanned}
use Rattle.stack_recovery.specs.Recoveries.{FailsOutput, FindsNoMemory, GoesOverTo, IsMapRefused, IsRescueEnd, RescuesUntil, RunsShort, Sides, counted_sectors, is_had}
use Rattle.stack_recovery.specs.declared.way.Way.{Way}
use Rattle.stack_recovery.specs.declared.way.Way.TheVariants.{Forward}
use Rattle.stack_recovery.specs.Surveys.{AnswersFinding, Finding, IsSurveyOver, PieceRead, SectorState, again, all_states, copied, had, kept, lost, probed, states_of, trimmed}

-- whether a pass reads in large pieces
abbrev pub is_large : Phase → Bool
is_large Skim = true
is_large Sweep = true
is_large other = false

answers-config : (w : StackRecord) (d first n : ℕ) (found : Finding) (w' : StackRecord) → AnswersFinding w d first n found w' → w'.config ≡ w.config
answers-config w d first n (had bytes) w' a = a.any.config
answers-config w d first n (lost fault) w' a = a.any.config
answers-config w d first n (again fault) w' a = a.any.config
answers-config w d first n (probed behind bytes) w' a = a.any.config
answers-config w d first n (trimmed behind fault) w' a = a.any.config
answers-config w d first n copied w' a = ap (λ (s : StackRecord). s.config) a
answers-config w d first n kept w' a = ap (λ (s : StackRecord). s.config) a

survey-config : (before : List Bool) (d first : ℕ) (w : StackRecord) (reads : List PieceRead) (w' : StackRecord) → IsSurveyOver before d first w reads w' → w'.config ≡ w.config
survey-config before d first w [] w' s = ap (λ (t : StackRecord). t.config) s
survey-config before d first w (r ∷ more) w' s =
    survey-config before d (first + length (states_of r)) r.after more w' s.1 ∙ answers-config w d first r.count r.found r.after s.0.answered

skim-config : (before : List Bool) (d first : ℕ) (w : StackRecord) (skims : List SkimPiece) (w' : StackRecord) → IsSkimOver before d first w skims w' → w'.config ≡ w.config
skim-config before d first w [] w' s = ap (λ (t : StackRecord). t.config) s
skim-config before d first w (x ∷ more) w' s =
    skim-config before d (first + length (marks_of x)) x.piece.after more w' s.1 ∙ answers-config w d first x.piece.count x.piece.found x.piece.after s.0.answered

-- the configuration stays
pub reads-config : (phase : Phase) (wanted : ℕ) (before : List Bool) (scan : Scanned) (old : Sides) (made : ReadMap) (new : Sides) → ReadsSectors phase wanted before scan old made new → new.stack.config ≡ old.stack.config
reads-config Skim wanted before scan old made new r = skim-config before scan.d 0 old.stack r.0.skims new.stack r.0.survey
reads-config Sweep wanted before scan old made new r = skim-config before scan.d 0 old.stack r.0.skims new.stack r.0.survey
reads-config Trim wanted before scan old made new r = survey-config before scan.d 0 old.stack r.1.reads new.stack r.1.survey
reads-config Scrape wanted before scan old made new r = survey-config before scan.d 0 old.stack r.1.reads new.stack r.1.survey
reads-config Retry wanted before scan old made new r = survey-config before scan.d 0 old.stack r.1.reads new.stack r.1.survey

-- the device stays one, of that size, which may be written
pub reads-out : (phase : Phase) (wanted : ℕ) (before : List Bool) (scan : Scanned) (old : Sides) (made : ReadMap) (new : Sides) → ReadsSectors phase wanted before scan old made new → IsSameDevice old.out new.out
reads-out Skim wanted before scan old made new r = r.0.copied.same
reads-out Sweep wanted before scan old made new r = r.0.copied.same
reads-out Trim wanted before scan old made new r = r.1.copied.same
reads-out Scrape wanted before scan old made new r = r.1.copied.same
reads-out Retry wanted before scan old made new r = r.1.copied.same

pub reads-unfailed : (phase : Phase) (wanted : ℕ) (before : List Bool) (scan : Scanned) (old : Sides) (made : ReadMap) (new : Sides) → ReadsSectors phase wanted before scan old made new → new.out.failures ≡ old.out.failures
reads-unfailed Skim wanted before scan old made new r = r.0.unfailed
reads-unfailed Sweep wanted before scan old made new r = r.0.unfailed
reads-unfailed Trim wanted before scan old made new r = r.1.unfailed
reads-unfailed Scrape wanted before scan old made new r = r.1.unfailed
reads-unfailed Retry wanted before scan old made new r = r.1.unfailed

-- ---- one pass over the sectors of a turn

pub up-to-few : (file : Option MapPathRecord) (sectors at : ℕ) → IsUpTo file sectors at → at ≤ sectors
up-to-few None sectors at e = omega (arith, e)
up-to-few (Some file) sectors at few = few

-- the output device after it
pub synced-size : (file : Option MapPathRecord) (out : Device) → (synced_by file out).size ≡ out.size
synced-size None out = refl
synced-size (Some file) out = refl

pub synced-writes : (file : Option MapPathRecord) (out : Device) → (synced_by file out).may_write ≡ out.may_write
synced-writes None out = refl
synced-writes (Some file) out = refl

pub synced-failures : (file : Option MapPathRecord) (out : Device) → (synced_by file out).failures ≡ out.failures
synced-failures None out = refl
synced-failures (Some file) out = refl

-- a pass in large pieces
as-sectors : (phase : Phase) (wanted : ℕ) (before : List Bool) (scan : Scanned) (old : Sides) (made : ReadMap) (new : Sides) → is_large phase ≡ true → ReadsLarge phase wanted before scan old made new → ReadsSectors phase wanted before scan old made new
as-sectors Skim wanted before scan old made new large r = r
as-sectors Sweep wanted before scan old made new large r = r
as-sectors Trim wanted before scan old made new large r = absurd (false≢true large)
as-sectors Scrape wanted before scan old made new large r = absurd (false≢true large)
as-sectors Retry wanted before scan old made new large r = absurd (false≢true large)

-- by the most sectors that it skips
abbrev pub ReadsLargeUntil : Option Deadline → Skipping → List Bool → Scanned → Sides → ReadMap → Sides → Type 0
ReadsLargeUntil deadline skips before scan old made new = SkimsUntil deadline skips before scan.d (transfer_of old) (skimmed made.map made.skip) (transfer_of new) × (made.way ≡ Forward)

pub large-reads : (phase : Phase) (r : Result ReadMap RecoveryFault) (deadline : Option Deadline) (most wanted : ℕ) (before : List Bool) (scan : Scanned) (old new : Sides) → is_large phase ≡ true → most ≡ most_skipped phase (size old.stack.config (mapped scan.d))
    → new.printed ≡ old.printed → IfOk r (λ made. ReadsLargeUntil deadline (skipping most wanted) before scan old made new) → IfOk r (λ made. ReadsUntil phase wanted before scan deadline old made new)
large-reads phase (Ok made) deadline most wanted before scan old new large is told p =
    let reads : ReadsLarge phase wanted before scan old made new =
    (subst (λ (m : ℕ). SkimsTo (skipping m wanted) before scan.d (length (marks made.map)) (transfer_of old) (skimmed made.map made.skip) (transfer_of new)) is p.0.reads, told, p.1) in
    record { reads = as-sectors phase wanted before scan old made new large reads; ends = subst (λ (x : Way). EndsAt deadline x (length (marks made.map)) (size old.stack.config (mapped scan.d))) (sym p.1) p.0.ends }
large-reads phase (Err fault) deadline most wanted before scan old new large is told p = tt

-- a pass by single sectors
as-single : (phase : Phase) (wanted : ℕ) (before : List Bool) (scan : Scanned) (old : Sides) (made : ReadMap) (new : Sides) → is_large phase ≡ false → ReadsLeft before (scan_in phase scan) old made new → ReadsSectors phase wanted before scan old made new
as-single Skim wanted before scan old made new single r = absurd (false≢true (sym single))
as-single Sweep wanted before scan old made new single r = absurd (false≢true (sym single))
as-single Trim wanted before scan old made new single r = r
as-single Scrape wanted before scan old made new single r = r
as-single Retry wanted before scan old made new single r = r

pub single-reads : (phase : Phase) (r : Result ReadMap RecoveryFault) (deadline : Option Deadline) (wanted : ℕ) (before : List Bool) (scan : Scanned) (trims : Bool) (old new : Sides) → is_large phase ≡ false → trims ≡ is_trim phase
    → IfOk r (λ made. ReadsLeftUntil deadline before (record scan { no_scrape = trims }) old made new) → IfOk r (λ made. ReadsUntil phase wanted before scan deadline old made new)
single-reads phase (Ok made) deadline wanted before scan trims old new single is p = record {
  reads = as-single phase wanted before scan old made new single (subst (λ (b : Bool). ReadsLeft before (record scan { no_scrape = b }) old made new) is p.0);
  ends = p.1;
}
single-reads phase (Err fault) deadline wanted before scan trims old new single is p = tt

length-states : (states : List SectorState) → length (map is_had states) ≡ length states
length-states [] = refl
length-states (x ∷ states) = ap suc (length-states states)

-- the sectors that are counted are those of the map
pub left-until : (deadline : Option Deadline) (before : List Bool) (scan : Scanned) (old : Sides) (rescued : Rescued) (new : Sides) → RescuesUntil deadline before scan old rescued new
    → ReadsLeftUntil deadline before scan old (record { map = rescued.map; skip = 0; way = rescued.course.way }) new
left-until deadline before scan old rescued new p =
    let end : counted_sectors rescued.course.counts ≡ length (marks rescued.map) = sym (ap length p.goes.noted ∙ length-states (all_states p.goes.reads) ∙ p.goes.whole) in (
      (rescued.course.counts, subst (λ (n : ℕ). GoesOverTo before scan n rescued.course.way old rescued.course.counts (Some rescued.map) new) end p.goes, refl),
      subst (λ (n : ℕ). EndsAt deadline rescued.course.way n (size old.stack.config (mapped scan.d))) end p.ends,
    )

large-end : (phase : Phase) (wanted : ℕ) (before : List Bool) (scan : Scanned) (old new : Sides) (fault : RecoveryFault) → is_large phase ≡ true → new.printed ≡ old.printed
    → EndsSkim (skipping_in phase wanted scan old) before scan.d (transfer_of old) (transfer_of new) fault → EndsSectors phase wanted before scan old new fault
large-end Skim wanted before scan old new fault large told e = (e, told)
large-end Sweep wanted before scan old new fault large told e = (e, told)
large-end Trim wanted before scan old new fault large told e = absurd (false≢true large)
large-end Scrape wanted before scan old new fault large told e = absurd (false≢true large)
large-end Retry wanted before scan old new fault large told e = absurd (false≢true large)

pub large-ends : (phase : Phase) (r : Result ReadMap RecoveryFault) (most wanted : ℕ) (before : List Bool) (scan : Scanned) (old new : Sides) → is_large phase ≡ true → most ≡ most_skipped phase (size old.stack.config (mapped scan.d)) → new.printed ≡ old.printed
    → IfErr r (λ fault. EndsSkim (skipping most wanted) before scan.d (transfer_of old) (transfer_of new) fault) → IfErr r (λ fault. EndsSectors phase wanted before scan old new fault)
large-ends phase (Ok made) most wanted before scan old new large is told e = tt
large-ends phase (Err fault) most wanted before scan old new large is told e =
    large-end phase wanted before scan old new fault large told (subst (λ (m : ℕ). EndsSkim (skipping m wanted) before scan.d (transfer_of old) (transfer_of new) fault) is e)

single-end : (phase : Phase) (wanted : ℕ) (before : List Bool) (scan : Scanned) (old new : Sides) (fault : RecoveryFault) → is_large phase ≡ false → IsRescueEnd before (scan_in phase scan) old new fault → EndsSectors phase wanted before scan old new fault
single-end Skim wanted before scan old new fault single e = absurd (false≢true (sym single))
single-end Sweep wanted before scan old new fault single e = absurd (false≢true (sym single))
single-end Trim wanted before scan old new fault single e = e
single-end Scrape wanted before scan old new fault single e = e
single-end Retry wanted before scan old new fault single e = e

pub single-ends : (phase : Phase) (r : Result ReadMap RecoveryFault) (wanted : ℕ) (before : List Bool) (scan : Scanned) (trims : Bool) (old new : Sides) → is_large phase ≡ false → trims ≡ is_trim phase
    → IfErr r (λ fault. IsRescueEnd before (record scan { no_scrape = trims }) old new fault) → IfErr r (λ fault. EndsSectors phase wanted before scan old new fault)
single-ends phase (Ok made) wanted before scan trims old new single is e = tt
single-ends phase (Err fault) wanted before scan trims old new single is e =
    single-end phase wanted before scan old new fault single (subst (λ (b : Bool). IsRescueEnd before (record scan { no_scrape = b }) old new fault) is e)

-- a failure after a copy that had none
pub failed-behind : (old left new : Device) → left.failures ≡ old.failures → HasFailed left new → HasFailed old new
failed-behind old left new same failed = subst (λ (n : ℕ). (n < new.failures) ⊎ (n ≡ 2 ^ 64 - 1)) same failed

-- what holds of a fault holds of the result that hands it on
pub err-from : {T E : Type 0} (r : Result T E) (P : E → Type 0) (fault : E) → IsErrAnd r (λ e. e ≡ fault) → P fault → IfErr r P
err-from (Ok done) P fault is holds = tt
err-from (Err e) P fault is holds = subst P (sym is) holds

-- ---- a turn that ends early

-- by a read, or by room for the map that is made
refused-short : (makes_map : Bool) (before : List Bool) (scan : Scanned) (old new : Sides) → RunsShort makes_map before scan old new → IsOutOfMemory largest_allocation
refused-short makes_map before scan old new short = refused short.refused
  where
    refused : FindsNoMemory scan.d (length (all_states short.begun.reads)) short.begun.left new.stack ⊎ IsMapRefused makes_map → IsOutOfMemory largest_allocation
    refused (inl read) = read.answered.any.may
    refused (inr map) = out_of_memory-more 1 largest_allocation (omega arith) map.1

refused-skim : (skips : Skipping) (before : List Bool) (d : ℕ) (old new : Transfer Device) → SkimsShort skips before d old new → IsOutOfMemory largest_allocation
refused-skim skips before d old new short = refused short.refused
  where
    refused : FindsNoMemory d (length (skim_marks short.begun.skims)) short.begun.left new.stack ⊎ IsOutOfMemory 1 → IsOutOfMemory largest_allocation
    refused (inl read) = read.answered.any.may
    refused (inr map) = out_of_memory-more 1 largest_allocation (omega arith) map

pub stops-reading : {S : Type 0} (k : Kept S) (phase : Phase) (now : Progressed S) (span : Span) (end : ℕ) (before : List Bool) (new : Sides) (fault : RecoveryFault)
    → IsSpan k.file k.sectors now.at span end → before ≡ asked_marks phase span k.sectors now.runs → EndsSectors phase now.skip before (scan_from k now) now.sides new fault → StopsIn k phase now now.images new (recovery_ending fault)
stops-reading k Skim now span end before new recovery.NoMemory next wanted e = (
  refl,
  e.0.unfailed,
  refused-skim (skipping_in Skim now.skip (scan_from k now) now.sides) before k.scan.d (transfer_of now.sides) (transfer_of new) e.0,
  inr (inl (record { span = span; end = end; next = next; short = subst (λ (l : List Bool). RunsOut Skim now.skip l (scan_from k now) now.sides new) wanted e })),
)
stops-reading k Sweep now span end before new recovery.NoMemory next wanted e = (
  refl,
  e.0.unfailed,
  refused-skim (skipping_in Sweep now.skip (scan_from k now) now.sides) before k.scan.d (transfer_of now.sides) (transfer_of new) e.0,
  inr (inl (record { span = span; end = end; next = next; short = subst (λ (l : List Bool). RunsOut Sweep now.skip l (scan_from k now) now.sides new) wanted e })),
)
stops-reading k Trim now span end before new recovery.NoMemory next wanted e = (
  refl,
  e.unfailed,
  refused-short true before (scan_in Trim (scan_from k now)) now.sides new e,
  inr (inl (record { span = span; end = end; next = next; short = subst (λ (l : List Bool). RunsOut Trim now.skip l (scan_from k now) now.sides new) wanted e })),
)
stops-reading k Scrape now span end before new recovery.NoMemory next wanted e = (
  refl,
  e.unfailed,
  refused-short true before (scan_in Scrape (scan_from k now)) now.sides new e,
  inr (inl (record { span = span; end = end; next = next; short = subst (λ (l : List Bool). RunsOut Scrape now.skip l (scan_from k now) now.sides new) wanted e })),
)
stops-reading k Retry now span end before new recovery.NoMemory next wanted e = (
  refl,
  e.unfailed,
  refused-short true before (scan_in Retry (scan_from k now)) now.sides new e,
  inr (inl (record { span = span; end = end; next = next; short = subst (λ (l : List Bool). RunsOut Retry now.skip l (scan_from k now) now.sides new) wanted e })),
)
stops-reading k Skim now span end before new recovery.Output next wanted e = (
  refl,
  e.0.failed,
  e.0.sure,
  record { span = span; end = end; next = next; fails = inl (subst (λ (l : List Bool). FailsToWrite Skim now.skip l (scan_from k now) now.sides new) wanted e) },
)
stops-reading k Sweep now span end before new recovery.Output next wanted e = (
  refl,
  e.0.failed,
  e.0.sure,
  record { span = span; end = end; next = next; fails = inl (subst (λ (l : List Bool). FailsToWrite Sweep now.skip l (scan_from k now) now.sides new) wanted e) },
)
stops-reading k Trim now span end before new recovery.Output next wanted e = (
  refl,
  e.failed,
  e.sure,
  record { span = span; end = end; next = next; fails = inl (subst (λ (l : List Bool). FailsOutput l (scan_in Trim (scan_from k now)) now.sides new) wanted e) },
)
stops-reading k Scrape now span end before new recovery.Output next wanted e = (
  refl,
  e.failed,
  e.sure,
  record { span = span; end = end; next = next; fails = inl (subst (λ (l : List Bool). FailsOutput l (scan_in Scrape (scan_from k now)) now.sides new) wanted e) },
)
stops-reading k Retry now span end before new recovery.Output next wanted e = (
  refl,
  e.failed,
  e.sure,
  record { span = span; end = end; next = next; fails = inl (subst (λ (l : List Bool). FailsOutput l (scan_in Retry (scan_from k now)) now.sides new) wanted e) },
)

-- the fault is that of the map file
unwritten : {S : Type 0} (k : Kept S) (phase : Phase) (now : Progressed S) (replaces : Replaces S) (path text : List ℕ) (images : S) (new : Sides) (fault : PassFault)
    → ((cause : ReplaceFault) → replaces now.images path text (Err cause) images → IsFileUnreplaced k.replaces k.file now.images cause images)
    → IsUnfailed now.sides new → EndsUnmapped k phase now new → IsMapUnwritten replaces path now.images text images fault → StopsIn k phase now images new fault
unwritten k phase now replaces path text images new NoMemory replaced u r e = (e.0, u, out_of_memory-more largest_print_allocation largest_allocation (omega arith) e.1, inr (inr r))
unwritten k phase now replaces path text images new (Unread cause) replaced u r e = absurd e
unwritten k phase now replaces path text images new TooLong replaced u r e = absurd e
unwritten k phase now replaces path text images new (NoMap cause) replaced u r e = absurd e
unwritten k phase now replaces path text images new Output replaced u r e = absurd e
unwritten k phase now replaces path text images new (Unwritten cause) replaced u r e = (replaced cause e, u, r)

pub stops-unwritten : {S : Type 0} (replaces : Replaces S) (file : Option MapPathRecord) (scan : Scanned) (sectors : ℕ) (phase : Phase) (now : Progressed S) (runs : List Run) (images : S) (new : Sides) (fault : PassFault)
    → IsUnfailed now.sides new → EndsUnmapped (kept_by replaces file scan sectors) phase now new → LeavesMap replaces file scan.no_scrape runs now.images images fault → StopsIn (kept_by replaces file scan sectors) phase now images new fault
stops-unwritten replaces None scan sectors phase now runs images new fault u r e = absurd e
stops-unwritten replaces (Some file) scan sectors phase now runs images new fault u r e =
    let text = map_text file.kind scan.no_scrape runs file.tail in
    unwritten (kept_by replaces (Some file) scan sectors) phase now replaces file.path text images new fault (λ cause written. (text, written)) u r e

-- the sectors were done, and room for a map was refused
pub stops-unmapped : {S : Type 0} (k : Kept S) (phase : Phase) (now : Progressed S) (new : Sides) → IsUnfailed now.sides new → EndsUnmapped k phase now new → IsOutOfMemory 1 → StopsIn k phase now now.images new NoMemory
stops-unmapped k phase now new u r may = (refl, u, out_of_memory-more 1 largest_allocation (omega arith) may, inr (inr r))
