-- The runs that a pass in turns finds, and the sectors that its map doesn't mark as recovered.
use Rattle.std.proofs.Common.{ℕ, ◌≡◌, ◌+◌, ◌-◌, ◌<◌, ◌≤◌, ◌||◌, not, Bool, true, false, List, ◌++◌, length, map, get_or, replicate, None, refl, sym, ap, ◌∙◌, subst, inl, inr, arith}
use Rattle.std.specs.Option.{is_some}
use Rattle.std.proofs.lemmas.Bool.{cases_lt, false≢true}
use Rattle.std.proofs.lemmas.List.{get_or-map, get_or-replicate, length-map, length-replicate}
use Rattle.rescue_map.specs.declared.map.Run.{Run}
use Rattle.rescue_map.specs.declared.splicing.Span.{Span}
use Rattle.rescue_map.specs.declared.status.Status.{Status}
use Rattle.rescue_map.specs.declared.status.Status.TheVariants.{Untried}
use Rattle.rescue_map.specs.declared.stepping.Step.{Step}
use Rattle.rescue_map.specs.Maps.{losts, marks, spliced_marks}
use Rattle.rescue_map.specs.Stages.{statuses}
use Rattle.rescue_map.specs.Statuses.{is_recovered, is_same}
use Rattle.rescue_map.specs.Steps.{is_inside, status_after, untaken_marks}
use Rattle.rescue_map.proofs.lemmas.RunLemmas.{losts-length, statuses-length}
use Rattle.rescue_map.proofs.lemmas.SpanLemmas.{inside-before, inside-within}
use Rattle.rescue_map.proofs.lemmas.StatusLemmas.{marks-get, stepped-get, untaken-get, untaken-length}
use Rattle.runs.specs.Runs.{runs_of}
use Rattle.stack_engine.specs.Stacks.{StackRecord}
use Rattle.stack_recovery.specs.LostRuns.{LostRun, is_same_loss}
use Rattle.stack_recovery.specs.PassPieces.{IsWayInside}
use Rattle.stack_recovery.specs.declared.way.Way.{Way}
use Rattle.stack_recovery.specs.declared.way.Way.TheVariants.{Backward, Forward, Turned}
use Rattle.stack_recovery.specs.Recoveries.{is_had}
use Rattle.stack_recovery.specs.Surveys.{IsSurveyOver, PieceRead, SectorState, all_states}
use Rattle.scan_commands.specs.declared.phase.Phase.{Phase}
use Rattle.scan_commands.specs.declared.phase.Phase.TheVariants.{Retry, Scrape, Skim, Sweep, Trim}
use Rattle.scan_commands.specs.Laws.{is_in}
use Rattle.scan_commands.specs.Turns.{IsTurn, Kept, Progressed, StepsBackwards, asked_marks, span_between, step_of}
use Rattle.scan_commands.proofs.TurnLemmas.{up-to-few}
use Rattle.scan_commands.proofs.LostSectorLemmas.{AreBetween, between-append, in-append, in-before, in-behind, runs-in, runs-span}
use Rattle.scan_commands.proofs.LostMarkLemmas.{had-lost, spliced-before, spliced-behind, spliced-inside, spliced-size, survey-marked}

-- the sectors before one that are in the runs that were found aren't marked by the map
pub record AreTold (at : ℕ) (runs : List Run) (found : List LostRun) : Type 0 where
  pub between : AreBetween 0 at found
  pub told : (s : ℕ) → s < at → is_in found s ≡ true → get_or (marks runs) s false ≡ false

-- a pass marks no sector that it didn't read
after-lost : (phase : Phase) (inside : Bool) (before : Status) (lost : Bool) → is_same before (step_of phase).takes ≡ true → inside ≡ true → is_recovered (status_after (step_of phase) inside before false lost) ≡ false
after-lost Skim true before true taken is = rw taken refl
after-lost Skim true before false taken is = rw taken refl
after-lost Sweep true before true taken is = rw taken refl
after-lost Sweep true before false taken is = rw taken refl
after-lost Trim true before true taken is = rw taken refl
after-lost Trim true before false taken is = rw taken refl
after-lost Scrape true before true taken is = rw taken refl
after-lost Scrape true before false taken is = rw taken refl
after-lost Retry true before true taken is = rw taken refl
after-lost Retry true before false taken is = rw taken refl
after-lost phase false before lost taken is = absurd (false≢true is)

or-false : (x : Bool) → x || false ≡ x
or-false true = refl
or-false false = refl

pub not-false : (x : Bool) → not x ≡ false → x ≡ true
not-false true e = refl
not-false false e = absurd (false≢true (sym e))

-- ---- a turn

module _ {S : Type 0} (k : Kept S) (phase : Phase) (old new : Progressed S) (t : IsTurn k phase old new) (size : length (marks old.runs) ≡ k.sectors) where
  abbrev span : Span
  span = span_between old.at new.at

  abbrev made : List Bool
  made = marks t.made.map

  abbrev step : Step
  step = step_of phase

  upto : old.at + (new.at - old.at) ≡ new.at
  upto = omega (arith, t.least)

  few-inside : new.at ≤ k.sectors
  few-inside = omega (arith, t.here, t.next.inside)

  inside-old : old.at + (new.at - old.at) ≤ length (marks old.runs)
  inside-old = omega (arith, upto, few-inside, size)

  inside-made : old.at + (new.at - old.at) ≤ length made
  inside-made = omega (arith, upto, t.here)

  pub size-turn : length (marks new.runs) ≡ k.sectors
  size-turn = t.whole ∙ size

  abbrev spliced : List Bool
  spliced = spliced_marks span (marks old.runs) made

  abbrev bads : List Bool
  bads = spliced_marks span (losts old.runs) (losts t.made.map)

  spliced-all : length spliced ≡ k.sectors
  spliced-all = spliced-size span (marks old.runs) made inside-old inside-made ∙ size

  bads-all : length bads ≡ k.sectors
  bads-all =
      spliced-size span (losts old.runs) (losts t.made.map) (omega (arith, inside-old, losts-length old.runs)) (omega (arith, inside-made, losts-length t.made.map))
      ∙ losts-length old.runs ∙ size

  -- the status of a sector
  abbrev was : ℕ → Status
  was s = get_or (statuses old.runs) s Untried

  forwards-all : length (marks t.forwards) ≡ k.sectors
  forwards-all = t.same ∙ size

  -- the sectors before those that were read backwards are as the turn found them
  unmoved-by : (way : Way) → IsWayInside (length made) way k.sectors → StepsBackwards step k.sectors way t.forwards new.runs → (s : ℕ) → s < length made → get_or (statuses new.runs) s Untried ≡ get_or (statuses t.forwards) s Untried
  unmoved-by Forward inside same s low = ap (λ (l : List Run). get_or (statuses l) s Untried) same
  unmoved-by Turned inside same s low = ap (λ (l : List Run). get_or (statuses l) s Untried) same
  unmoved-by (Backward from end) inside h s low =
      let here : 0 + s ≡ s = omega arith in
      let behind : Span = span_between from end in
      let bounds : from + (end - from) ≤ k.sectors = omega (arith, inside.1, inside.2) in
      let all : length (marks h.0) ≡ k.sectors = ap length h.1 ∙ length-replicate {A = Bool} k.sectors true in
      let hads = spliced-size behind (marks t.forwards) (marks h.0) (omega (arith, bounds, forwards-all)) (omega (arith, bounds, all)) in
      let lost = spliced-size behind (losts t.forwards) (losts h.0) (omega (arith, bounds, forwards-all, losts-length t.forwards)) (omega (arith, bounds, all, losts-length h.0)) in
      ap (λ (l : List Status). get_or l s Untried) h.2
      ∙ stepped-get step behind 0 (statuses t.forwards) (spliced_marks behind (marks t.forwards) (marks h.0)) (spliced_marks behind (losts t.forwards) (losts h.0)) s (omega (arith, low, inside.0, inside.1, inside.2, forwards-all, statuses-length t.forwards))
      (omega (arith, low, inside.0, inside.1, inside.2, forwards-all, hads)) (omega (arith, low, inside.0, inside.1, inside.2, forwards-all, lost, losts-length t.forwards))
      ∙ ap (λ (n : ℕ). status_after step (is_inside behind n) (get_or (statuses t.forwards) s Untried) (get_or (spliced_marks behind (marks t.forwards) (marks h.0)) s false) (get_or (spliced_marks behind (losts t.forwards) (losts h.0)) s false)) here
      ∙ ap (λ (i : Bool). status_after step i (get_or (statuses t.forwards) s Untried) (get_or (spliced_marks behind (marks t.forwards) (marks h.0)) s false) (get_or (spliced_marks behind (losts t.forwards) (losts h.0)) s false))
      (inside-before behind s (omega (arith, low, inside.0)))

  unmoved : (s : ℕ) → s < new.at → get_or (statuses new.runs) s Untried ≡ get_or (statuses t.forwards) s Untried
  unmoved s low = unmoved-by t.made.way t.behind t.map s (omega (arith, low, t.here))

  mark-new : (s : ℕ) → s < new.at → get_or (marks new.runs) s false ≡ is_recovered (status_after step (is_inside span s) (was s) (get_or spliced s false) (get_or bads s false))
  mark-new s before =
      let here : 0 + s ≡ s = omega arith in
      let low : s < k.sectors = omega (arith, before, few-inside) in
      marks-get new.runs s (omega (arith, low, size-turn))
      ∙ ap is_recovered (unmoved s before)
      ∙ ap (λ (l : List Status). is_recovered (get_or l s Untried)) t.stepped
      ∙ ap is_recovered (stepped-get step span 0 (statuses old.runs) spliced bads s (omega (arith, low, size, statuses-length old.runs)) (omega (arith, low, spliced-all)) (omega (arith, low, bads-all)))
      ∙ ap (λ (n : ℕ). is_recovered (status_after step (is_inside span n) (was s) (get_or spliced s false) (get_or bads s false))) here

  -- the status of a sector that the turn covers
  pub status-new : (s : ℕ) → old.at ≤ s → s < new.at → get_or (statuses new.runs) s Untried ≡ status_after step true (was s) (get_or made s false) (get_or (losts t.made.map) s false)
  status-new s from to =
      let here : 0 + s ≡ s = omega arith in
      let low : s < k.sectors = omega (arith, to, few-inside) in
      let within : s < old.at + (new.at - old.at) = omega (arith, to, upto) in
      unmoved s to
      ∙ ap (λ (l : List Status). get_or l s Untried) t.stepped
      ∙ stepped-get step span 0 (statuses old.runs) spliced bads s (omega (arith, low, size, statuses-length old.runs)) (omega (arith, low, spliced-all)) (omega (arith, low, bads-all))
      ∙ ap (λ (n : ℕ). status_after step (is_inside span n) (was s) (get_or spliced s false) (get_or bads s false)) here
      ∙ ap (λ (i : Bool). status_after step i (was s) (get_or spliced s false) (get_or bads s false)) (inside-within span s from within)
      ∙ ap (λ (h : Bool). status_after step true (was s) h (get_or bads s false)) (spliced-inside span (marks old.runs) made inside-old inside-made s from within)
      ∙ ap (λ (b : Bool). status_after step true (was s) (get_or made s false) b)
      (spliced-inside span (losts old.runs) (losts t.made.map) (omega (arith, inside-old, losts-length old.runs)) (omega (arith, inside-made, losts-length t.made.map)) s from within)

  -- the sectors before the turn are as they were
  mark-before : (s : ℕ) → s < old.at → get_or (marks new.runs) s false ≡ get_or (marks old.runs) s false
  mark-before s low =
      mark-new s (omega (arith, low, t.least))
      ∙ ap (λ (i : Bool). is_recovered (status_after step i (was s) (get_or spliced s false) (get_or bads s false))) (inside-before span s low)
      ∙ sym (marks-get old.runs s (omega (arith, low, t.least, few-inside, size)))

  -- the marks that it reads by
  abbrev asked : List Bool
  asked = asked_marks phase t.span k.sectors old.runs

  read-inside : t.span.first + t.span.count ≤ length (replicate k.sectors true)
  read-inside = omega (arith, t.next.first, t.next.end, t.next.inside, length-replicate {A = Bool} k.sectors true)

  read-untaken : t.span.first + t.span.count ≤ length (untaken_marks step.takes old.runs)
  read-untaken = omega (arith, t.next.first, t.next.end, t.next.inside, untaken-length step.takes old.runs, size)

  asked-before : (s : ℕ) → s < old.at → get_or asked s false ≡ true
  asked-before s low =
      spliced-before t.span (replicate k.sectors true) (untaken_marks step.takes old.runs) read-inside read-untaken s (omega (arith, low, t.next.first))
      ∙ get_or-replicate k.sectors s true false (omega (arith, low, t.least, few-inside))

  asked-behind : (s : ℕ) → t.end ≤ s → s < k.sectors → get_or asked s false ≡ true
  asked-behind s past low =
      spliced-behind t.span (replicate k.sectors true) (untaken_marks step.takes old.runs) read-inside read-untaken s (omega (arith, past, t.next.first, t.next.end))
      ∙ get_or-replicate k.sectors s true false low

  pub asked-within : (s : ℕ) → s < k.sectors → get_or asked s false ≡ false → (old.at ≤ s) × (s < t.end)
  asked-within s low fresh = (
    elim (cases_lt s old.at) [
      | inl before ↦ absurd (false≢true (sym fresh ∙ asked-before s before))
      | inr from ↦ from
    ],
    elim (cases_lt s t.end) [
      | inl before ↦ before
      | inr past ↦ absurd (false≢true (sym fresh ∙ asked-behind s past low))
    ],
  )

  pub asked-inside : (s : ℕ) → old.at ≤ s → s < t.end → get_or asked s false ≡ not (is_same (was s) step.takes)
  asked-inside s from to =
      spliced-inside t.span (replicate k.sectors true) (untaken_marks step.takes old.runs) read-inside read-untaken s (omega (arith, from, t.next.first)) (omega (arith, to, t.next.first, t.next.end))
      ∙ untaken-get step.takes old.runs s (omega (arith, to, t.next.inside, size))

  -- the states that it read
  module _ (w : StackRecord) (reads : List PieceRead) (w' : StackRecord) (survey : IsSurveyOver asked k.scan.d 0 w reads w') (noted : marks t.made.map ≡ map is_had (all_states reads)) where
    abbrev states : List SectorState
    states = all_states reads

    abbrev runs : List LostRun
    runs = runs_of is_same_loss 0 states

    states-length : length states ≡ length (marks t.made.map)
    states-length = sym (ap length noted ∙ length-map states is_had)

    marked-none : (j : ℕ) → get_or asked j false ≡ true → get_or states j None ≡ None
    marked-none j is = let here : j ≡ 0 + j = omega arith in survey-marked asked k.scan.d 0 w reads w' j survey (sym (ap (λ (n : ℕ). get_or asked n false) here) ∙ is)

    none-behind : (j : ℕ) → new.at ≤ j → j < length states → get_or states j None ≡ None
    none-behind j past low = marked-none j (asked-behind j (omega (arith, past, low, states-length, t.here)) (omega (arith, low, states-length, up-to-few k.file k.sectors (length (marks t.made.map)) t.few)))

    runs-between : AreBetween old.at new.at runs
    runs-between =
        let low : 0 + old.at ≡ old.at = omega arith in
        let high : 0 + new.at ≡ new.at = omega arith in
        subst (λ (n : ℕ). AreBetween n new.at runs) low (subst (λ (n : ℕ). AreBetween (0 + old.at) n runs) high
        (runs-span 0 old.at new.at states (omega (arith, t.least)) (λ j before. marked-none j (asked-before j before)) none-behind))

    made-get : (s : ℕ) → s < length (marks t.made.map) → get_or made s false ≡ not (is_in runs s)
    made-get s low =
        let here : 0 + s ≡ s = omega arith in
        ap (λ (l : List Bool). get_or l s false) noted ∙ get_or-map is_had states s None false (omega (arith, low, states-length)) ∙ had-lost (get_or states s None)
        ∙ ap not (sym (runs-in 0 states s) ∙ ap (is_in runs) here)

    -- a sector that was found lost was read
    found-taken : (s : ℕ) → old.at ≤ s → s < new.at → is_in runs s ≡ true → is_same (was s) step.takes ≡ true
    found-taken s from low is = by (get_or asked s false) refl
      where
        by : (b : Bool) → get_or asked s false ≡ b → is_same (was s) step.takes ≡ true
        by false e = not-false (is_same (was s) step.takes) (sym (asked-inside s from (omega (arith, low, t.here))) ∙ e)
        by true e =
            let here : 0 + s ≡ s = omega arith in
            absurd (false≢true (sym (ap (λ (x : SectorState). is_some x) (marked-none s e)) ∙ sym (runs-in 0 states s) ∙ ap (is_in runs) here ∙ is))

    pub told-turn : (found : List LostRun) → AreTold old.at old.runs found → AreTold new.at new.runs (found ++ runs)
    told-turn found p = record {
      between = between-append 0 old.at new.at found runs p.between runs-between;
      told = λ s low is. elim (cases_lt s old.at) [
        | inl before ↦
            mark-before s before
            ∙ p.told s before (sym (or-false (is_in found s)) ∙ sym (in-append found runs s ∙ ap (λ (x : Bool). is_in found s || x) (in-before old.at new.at runs s runs-between before)) ∙ is)
        | inr from ↦
            let lost : is_in runs s ≡ true = sym (in-append found runs s ∙ ap (λ (x : Bool). x || is_in runs s) (in-behind 0 old.at found s p.between from)) ∙ is in
            let had : get_or spliced s false ≡ false = spliced-inside span (marks old.runs) made inside-old inside-made s from (omega (arith, low, upto)) ∙ made-get s (omega (arith, low, t.here)) ∙ ap not lost in
            mark-new s low
            ∙ ap (λ (h : Bool). is_recovered (status_after step (is_inside span s) (was s) h (get_or bads s false))) had
            ∙ after-lost phase (is_inside span s) (was s) (get_or bads s false) (found-taken s from low lost) (inside-within span s from (omega (arith, low, upto)))
      ];
    }
