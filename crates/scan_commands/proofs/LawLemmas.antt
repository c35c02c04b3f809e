-- The law of the runs that are reported after the passes.
use Rattle.std.proofs.Common.{◌≡◌, ℕ, zero, suc, eqb, ◌+◌, ◌<◌, ◌||◌, not, Bool, true, false, List, length, get_or, None, Ok, Some, refl, sym, ap, ◌∙◌, subst, inl, inr, arith, Option}
use Rattle.std.specs.Option.{is_some}
use Rattle.std.proofs.lemmas.Bool.{cond-false, false≢true, ne_eqb}
use Rattle.block_device.specs.Device.{Device}
use Rattle.image_files.specs.Opener.{Calls, Opener, calls}
use Rattle.rescue_map.specs.declared.map.Run.{Run}
use Rattle.rescue_map.specs.declared.status.Status.{Status}
use Rattle.rescue_map.specs.declared.status.Status.TheVariants.{Untried}
use Rattle.rescue_map.specs.declared.text.ParsedMap.{ParsedMap}
use Rattle.rescue_map.specs.Kinds.{kind_of}
use Rattle.rescue_map.specs.Maps.{marks}
use Rattle.rescue_map.specs.MapText.{map_of}
use Rattle.rescue_map.specs.Stages.{statuses}
use Rattle.rescue_map.specs.Statuses.{is_recovered}
use Rattle.rescue_map.proofs.lemmas.ParsedLemmas.{map_of-sound}
use Rattle.rescue_map.proofs.lemmas.RunLemmas.{statuses-length}
use Rattle.rescue_map.proofs.lemmas.StatusLemmas.{marks-get}
use Rattle.runs.specs.Runs.{runs_of}
use Rattle.stack_rules.specs.Names.{mapped, size}
use Rattle.stack_recovery.specs.declared.recovery.Counts.{Counts}
use Rattle.stack_recovery.specs.Joins.{joined_state, joined_states}
use Rattle.stack_recovery.specs.Listings.{Listed}
use Rattle.stack_recovery.specs.LostRuns.{LostRun, is_same_loss}
use Rattle.stack_recovery.specs.Recoveries.{Sides}
use Rattle.scan_commands.specs.Retries.{Steps, no_step, one_more, scan_of}
use Rattle.stack_recovery.specs.Surveys.{SectorState}
use Rattle.scan_commands.specs.declared.phase.Phase.{Phase}
use Rattle.scan_commands.specs.declared.phase.Phase.TheVariants.{Retry, Skim, Sweep, Trim}
use Rattle.scan_commands.specs.Laws.{LostRunsAreUnrecovered, is_in, reported}
use Rattle.scan_commands.specs.MapFiles.{BeginsMap, Continues, IsMapRead, MapPathRecord, continues, with_tail}
use Rattle.scan_commands.specs.PassesInTurns.{AfterTurns, IsSilentPass, IsSilentTurns, KeepsTurns, ReportsLast, SweepsInTurns, after_turns, nothing, pass_from, phase_after}
use Rattle.scan_commands.specs.Turns.{Kept, kept}
use Rattle.scan_commands.proofs.LostSectorLemmas.{AreBetween, joined-at, joined-lost, runs-in}
use Rattle.scan_commands.proofs.FoundRunLemmas.{found-turns, size-turns}
use Rattle.scan_commands.proofs.MapFileLemmas.{unread-size}
use Rattle.scan_commands.proofs.TurnLemmas.{is_large}

-- ---- the map that is read

begun-size : (goes : Bool) (sectors : ℕ) (text : List ℕ) (read made : ParsedMap) → map_of sectors text ≡ Ok read → Continues goes sectors read made → length (marks made.map) ≡ sectors
begun-size true sectors text read made is same = ap (λ (m : ParsedMap). length (marks m.map)) same ∙ (map_of-sound sectors text read is).0
begun-size false sectors text read made is unread = unread-size sectors made unread

read-size : {S D : Type 0} (w : Calls S D) (file : MapPathRecord) (sectors : ℕ) (made : ParsedMap) → IsMapRead w file sectors made → length (marks made.map) ≡ sectors
read-size w file sectors made (inl told) = begun-size (continues file.kind (kind_of told.text.bytes.items)) sectors told.text.bytes.items told.says.read made told.says.says told.says.begins
read-size w file sectors made (inr new) = unread-size sectors made new.unread

-- ---- the passes

pub silent-size : {S : Type 0} (k : Kept S) (phase : Phase) (old new : AfterTurns S) → IsSilentPass k phase old new → length (marks old.left.map) ≡ k.sectors → length (marks new.left.map) ≡ k.sectors
silent-size k phase old new p size = size-turns k phase (pass_from phase k.sectors old p.0) p.2.2 size

sweeps-size : {S : Type 0} (k : Kept S) (old new : AfterTurns S) → SweepsInTurns k old new → length (marks old.left.map) ≡ k.sectors → length (marks new.left.map) ≡ k.sectors
sweeps-size k old new p size = silent-size k Sweep p.between new p.sweeps (silent-size k Skim old p.between p.skims size)

pub kept-size : {S : Type 0} (k : Kept S) (phase : Phase) (old new : AfterTurns S) (found : List LostRun) → KeepsTurns k phase old new found → length (marks old.left.map) ≡ k.sectors → length (marks new.left.map) ≡ k.sectors
kept-size k phase old new found t size = ap (λ (l : List Run). length (marks l)) t.map ∙ size-turns k phase (pass_from phase k.sectors old nothing) t.reads.2 size

steps-size : {S : Type 0} (k : Kept S) (old : AfterTurns S) {n : ℕ} {new : AfterTurns S} → Steps (IsSilentTurns k) old n new → length (marks old.left.map) ≡ k.sectors → length (marks new.left.map) ≡ k.sectors
steps-size k old no_step size = size
steps-size k old (one_more {n} {now} {next} steps step) size = silent-size k (phase_after k.scan.no_scrape n) now next step (steps-size k old steps size)

-- a sector that isn't recovered is reported, and no other
either-lost : (recovered found : Bool) → (found ≡ true → recovered ≡ false) → not recovered || found ≡ not recovered
either-lost false found told = refl
either-lost true false told = refl
either-lost true true told = absurd (false≢true (sym (told refl)))

last-unrecovered : {S : Type 0} (k : Kept S) (phase : Phase) (known : List LostRun) (old : AfterTurns S) (printed : Listed) (images : S) (new : Sides) (counts : Counts) (r : ReportsLast k phase known old printed images new counts)
    → is_large phase ≡ false → length (marks old.left.map) ≡ k.sectors → (s : ℕ) → s < k.sectors → is_in (reported r.made known r.found) s ≡ not (get_or (marks r.made) s false)
last-unrecovered k phase known old printed images new counts r later size s low =
    let first = pass_from phase k.sectors old nothing in
    let p = found-turns k phase first r.reads.2 later size refl refl refl in
    let whole : length (marks r.made) ≡ k.sectors = size-turns k phase first r.reads.2 size in
    let same : r.found ≡ p.found = some-same r.found p.found p.kept in
    let status : Status = get_or (statuses r.made) s Untried in
    let states : List SectorState = joined_states 0 (statuses r.made) known r.found in
    let here : 0 + s ≡ s = omega arith in
    let few : s < length (statuses r.made) = omega (arith, low, statuses-length r.made, whole) in
    let mark : get_or (marks r.made) s false ≡ is_recovered status = marks-get r.made s (omega (arith, low, whole)) in
    let told : is_in r.found s ≡ true → is_recovered status ≡ false = λ is. sym mark ∙ p.told.told s low (ap (λ (l : List LostRun). is_in l s) (sym same) ∙ is) in
    sym (ap (is_in (runs_of is_same_loss 0 states)) here) ∙ runs-in 0 states s
    ∙ ap (λ (x : SectorState). is_some x) (joined-at 0 (statuses r.made) known r.found s few ∙ ap (joined_state status known r.found) here)
    ∙ joined-lost status known r.found 0 k.sectors s (subst (λ (l : List LostRun). AreBetween 0 k.sectors l) (sym same) p.told.between)
    ∙ either-lost (is_recovered status) (is_in r.found s) told
    ∙ ap not (sym mark)
  where
    some-same : (x y : List LostRun) → Some x ≡ Some y → x ≡ y
    some-same x y e = cc

-- the passes after those in large pieces
later-small : (no_scrape : Bool) (n : ℕ) → is_large (phase_after no_scrape n) ≡ false
later-small true zero = refl
later-small false zero = refl
later-small no_scrape (suc n) = ap is_large (cond-false (eqb (suc n) 0) _ Retry (ne_eqb (suc n) 0 (λ h. omega (arith, h))))

begins-size : {S D : Type 0} (w : Calls S D) (file : Option MapPathRecord) (sectors : ℕ) (made : ParsedMap) → BeginsMap w file sectors made → length (marks made.map) ≡ sectors
begins-size w None sectors made begins = unread-size sectors made begins.1
begins-size w (Some file) sectors made read = read-size w file sectors made read

pub unrecovered : {S D : Type 0} (relations : Opener S D) (state : D → Device) → LostRunsAreUnrecovered relations state
unrecovered relations state old new file t m counts r s low =
    let sectors : ℕ = size m.old.stack.config (mapped t.d) in
    let k = kept relations.replaces (with_tail file r.found.tail) (scan_of t) sectors in
    let read = begins-size (record (calls relations state old new) { new = r.between }) file sectors r.found r.read in
    let swept = sweeps-size k (after_turns r.between m.old.stack m.old.out r.found.map) r.rescued.swept r.rescued.large read in
    let trimmed = kept-size k Trim r.rescued.swept r.rescued.between r.rescued.known r.rescued.trims swept in
    let left = steps-size k r.rescued.between r.rescued.again.0 trimmed in
    last-unrecovered k (phase_after k.scan.no_scrape r.rescued.passes) r.rescued.known r.rescued.left m.old.printed new m.new counts r.rescued.last (later-small k.scan.no_scrape r.rescued.passes) left s low
