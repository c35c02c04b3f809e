-- Each turn leaves fewer sectors to be read.
use Rattle.std.proofs.Common.{◌≡◌, ◌⊎◌, ℕ, zero, suc, ◌+◌, ◌-◌, ◌<◌, ◌≤◌, Bool, true, false, List, [], ◌∷◌, length, get_or, refl, sym, ap, ◌∙◌, inl, inr, arith}
use Rattle.std.proofs.lemmas.Bool.{false≢true}
use Rattle.std.proofs.lemmas.List.{get_or-replicate, length-replicate}
use Rattle.rescue_map.specs.declared.map.Run.{Run}
use Rattle.rescue_map.specs.declared.splicing.Span.{Span}
use Rattle.rescue_map.specs.declared.status.Status.{Status}
use Rattle.rescue_map.specs.declared.status.Status.TheVariants.{Bad, Recovered, Unscraped, Untried, Untrimmed}
use Rattle.rescue_map.specs.declared.stepping.Step.{Step}
use Rattle.rescue_map.specs.Maps.{losts, marks, spliced_marks}
use Rattle.rescue_map.specs.Stages.{statuses}
use Rattle.rescue_map.specs.Statuses.{is_recovered, is_same}
use Rattle.rescue_map.specs.Steps.{is_inside, status_after, stepped_statuses}
use Rattle.rescue_map.proofs.lemmas.RunLemmas.{losts-length, statuses-length}
use Rattle.rescue_map.proofs.lemmas.SpanLemmas.{inside-behind, inside-within}
use Rattle.rescue_map.proofs.lemmas.StatusLemmas.{marks-get, stepped-get}
use Rattle.stack_recovery.specs.declared.way.Way.{Way}
use Rattle.stack_recovery.specs.declared.way.Way.TheVariants.{Backward, Forward, Turned}
use Rattle.stack_recovery.specs.PassPieces.{IsWayInside}
use Rattle.stack_recovery.specs.Ways.{is_backward}
use Rattle.scan_commands.specs.declared.phase.Phase.{Phase}
use Rattle.scan_commands.specs.declared.phase.Phase.TheVariants.{Retry, Scrape, Skim, Sweep, Trim}
use Rattle.scan_commands.specs.Turns.{IsTurn, Kept, Progressed, StepsBackwards, asked_marks, scan_from, span_between, step_of}
use Rattle.scan_commands.proofs.BackwardLemmas.{IsRunUnread, reads-unread}
use Rattle.scan_commands.proofs.LostMarkLemmas.{spliced-inside, spliced-size}
use Rattle.scan_commands.proofs.LostTurnLemmas.{asked-inside, asked-within, not-false}

-- ---- sectors that aren't marked

-- how many there are
abbrev pub unmarked : List Bool → ℕ
unmarked [] = 0
unmarked (true ∷ more) = unmarked more
unmarked (false ∷ more) = suc (unmarked more)

-- a list that marks no fewer
abbrev KeepsMarks : List Bool → List Bool → Type 0
KeepsMarks old new = (s : ℕ) → s < length old → get_or old s false ≡ true → get_or new s false ≡ true

unmarked-kept : (old new : List Bool) → length new ≡ length old → KeepsMarks old new → unmarked new ≤ unmarked old
unmarked-kept [] [] len keeps = omega arith
unmarked-kept [] (x ∷ new) len keeps = absurd (omega (arith, len))
unmarked-kept (x ∷ old) [] len keeps = absurd (omega (arith, len))
unmarked-kept (x ∷ old) (y ∷ new) len keeps = first x y (keeps 0 (omega arith)) (unmarked-kept old new (omega (arith, len)) (λ s low. keeps (suc s) (omega (arith, low))))
  where
    first : (x y : Bool) → (x ≡ true → y ≡ true) → unmarked new ≤ unmarked old → unmarked (y ∷ new) ≤ unmarked (x ∷ old)
    first true true same less = less
    first true false same less = absurd (false≢true (same refl))
    first false true same less = omega (arith, less)
    first false false same less = omega (arith, less)

unmarked-less : (old new : List Bool) → length new ≡ length old → KeepsMarks old new → (s : ℕ) → s < length old → get_or old s false ≡ false → get_or new s false ≡ true → unmarked new < unmarked old
unmarked-less [] new len keeps s low was is = absurd (omega (arith, low))
unmarked-less (x ∷ old) [] len keeps s low was is = absurd (omega (arith, len))
unmarked-less (x ∷ old) (y ∷ new) len keeps zero low was is =
    let less : unmarked new ≤ unmarked old = unmarked-kept old new (omega (arith, len)) (λ s below. keeps (suc s) (omega (arith, below))) in
    first x y was is less
  where
    first : (x y : Bool) → x ≡ false → y ≡ true → unmarked new ≤ unmarked old → unmarked (y ∷ new) < unmarked (x ∷ old)
    first false true was is less = omega (arith, less)
    first true y was is less = absurd (false≢true (sym was))
    first false false was is less = absurd (false≢true is)
unmarked-less (x ∷ old) (y ∷ new) len keeps (suc s) low was is =
    first x y (keeps 0 (omega arith)) (unmarked-less old new (omega (arith, len)) (λ j below. keeps (suc j) (omega (arith, below))) s (omega (arith, low)) was is)
  where
    first : (x y : Bool) → (x ≡ true → y ≡ true) → unmarked new < unmarked old → unmarked (y ∷ new) < unmarked (x ∷ old)
    first true true same less = less
    first true false same less = absurd (false≢true (same refl))
    first false true same less = omega (arith, less)
    first false false same less = omega (arith, less)

-- ---- a step

takes-other : (phase : Phase) → is_same Recovered (step_of phase).takes ≡ false
takes-other Skim = refl
takes-other Sweep = refl
takes-other Trim = refl
takes-other Scrape = refl
takes-other Retry = refl

recovered-is : (x : Status) → is_recovered x ≡ true → x ≡ Recovered
recovered-is Recovered is = refl
recovered-is Untried is = absurd (false≢true is)
recovered-is Untrimmed is = absurd (false≢true is)
recovered-is Unscraped is = absurd (false≢true is)
recovered-is Bad is = absurd (false≢true is)

taken-lost : (x takes : Status) → is_same Recovered takes ≡ false → is_same x takes ≡ true → is_recovered x ≡ false
taken-lost Recovered takes other is = absurd (false≢true (sym other ∙ is))
taken-lost Untried takes other is = refl
taken-lost Untrimmed takes other is = refl
taken-lost Unscraped takes other is = refl
taken-lost Bad takes other is = refl

after-other : (step : Step) (inside : Bool) (had lost : Bool) → is_same Recovered step.takes ≡ false → status_after step inside Recovered had lost ≡ Recovered
after-other step true had lost other = rw other refl
after-other step false had lost other = refl

after-had : (step : Step) (before : Status) (lost : Bool) → is_same before step.takes ≡ true → status_after step true before true lost ≡ Recovered
after-had step before lost taken = rw taken refl

-- the status of a sector after a step over the sectors of a span
step-get : (step : Step) (span : Span) (old made new : List Run) → statuses new ≡ stepped_statuses step span old made → span.first + span.count ≤ length (marks old) → span.first + span.count ≤ length (marks made) → (s : ℕ) → s < length (marks old)
    → get_or (statuses new) s Untried ≡ status_after step (is_inside span s) (get_or (statuses old) s Untried) (get_or (spliced_marks span (marks old) (marks made)) s false) (get_or (spliced_marks span (losts old) (losts made)) s false)
step-get step span old made new is inside long s low =
    let here : 0 + s ≡ s = omega arith in
    let hads : List Bool = spliced_marks span (marks old) (marks made) in
    let bads : List Bool = spliced_marks span (losts old) (losts made) in
    let all = spliced-size span (marks old) (marks made) inside long in
    let lost = spliced-size span (losts old) (losts made) (omega (arith, inside, losts-length old)) (omega (arith, long, losts-length made)) in
    ap (λ (l : List Status). get_or l s Untried) is
    ∙ stepped-get step span 0 (statuses old) hads bads s (omega (arith, low, statuses-length old)) (omega (arith, low, all)) (omega (arith, low, lost, losts-length old))
    ∙ ap (λ (n : ℕ). status_after step (is_inside span n) (get_or (statuses old) s Untried) (get_or hads s false) (get_or bads s false)) here

step-keeps : (step : Step) (span : Span) (old made new : List Run) → is_same Recovered step.takes ≡ false → statuses new ≡ stepped_statuses step span old made → span.first + span.count ≤ length (marks old) → span.first + span.count ≤ length (marks made)
    → (s : ℕ) → s < length (marks old) → get_or (statuses old) s Untried ≡ Recovered → get_or (statuses new) s Untried ≡ Recovered
step-keeps step span old made new other is inside long s low had =
    let hads : List Bool = spliced_marks span (marks old) (marks made) in
    let bads : List Bool = spliced_marks span (losts old) (losts made) in
    step-get step span old made new is inside long s low
    ∙ ap (λ (x : Status). status_after step (is_inside span s) x (get_or hads s false) (get_or bads s false)) had
    ∙ after-other step (is_inside span s) (get_or hads s false) (get_or bads s false) other

-- ---- a turn

module _ {S : Type 0} (k : Kept S) (phase : Phase) (old new : Progressed S) (t : IsTurn k phase old new) (size : length (marks old.runs) ≡ k.sectors) where
  abbrev span : Span
  span = span_between old.at new.at

  abbrev step : Step
  step = step_of phase

  upto : old.at + (new.at - old.at) ≡ new.at
  upto = omega (arith, t.least)

  inside-old : old.at + (new.at - old.at) ≤ length (marks old.runs)
  inside-old = omega (arith, upto, t.here, t.next.inside, size)

  inside-made : old.at + (new.at - old.at) ≤ length (marks t.made.map)
  inside-made = omega (arith, upto, t.here)

  forwards-all : length (marks t.forwards) ≡ k.sectors
  forwards-all = t.same ∙ size

  new-all : length (marks new.runs) ≡ k.sectors
  new-all = t.whole ∙ size

  -- what was read backwards
  backwards-keep : (way : Way) → IsWayInside (length (marks t.made.map)) way k.sectors → StepsBackwards step k.sectors way t.forwards new.runs → (s : ℕ) → s < k.sectors → get_or (statuses t.forwards) s Untried ≡ Recovered
      → get_or (statuses new.runs) s Untried ≡ Recovered
  backwards-keep Forward inside same s low had = ap (λ (l : List Run). get_or (statuses l) s Untried) same ∙ had
  backwards-keep Turned inside same s low had = ap (λ (l : List Run). get_or (statuses l) s Untried) same ∙ had
  backwards-keep (Backward from end) inside h s low had =
      let all : length (marks h.0) ≡ k.sectors = ap length h.1 ∙ length-replicate {A = Bool} k.sectors true in
      step-keeps step (span_between from end) t.forwards h.0 new.runs (takes-other phase) h.2 (omega (arith, inside.1, inside.2, forwards-all)) (omega (arith, inside.1, inside.2, all)) s (omega (arith, low, forwards-all)) had

  keeps : KeepsMarks (marks old.runs) (marks new.runs)
  keeps s low is =
      let had : get_or (statuses old.runs) s Untried ≡ Recovered = recovered-is (get_or (statuses old.runs) s Untried) (sym (marks-get old.runs s low) ∙ is) in
      let forwards : get_or (statuses t.forwards) s Untried ≡ Recovered = step-keeps step span old.runs t.made.map t.forwards (takes-other phase) t.stepped inside-old inside-made s low had in
      marks-get new.runs s (omega (arith, low, t.whole)) ∙ ap is_recovered (backwards-keep t.made.way t.behind t.map s (omega (arith, low, size)) forwards)

  -- the sector that was read last has the status that the pass takes
  abbrev asked : List Bool
  asked = asked_marks phase t.span k.sectors old.runs

  less-by : (way : Way) → is_backward way ≡ true → IsWayInside (length (marks t.made.map)) way k.sectors → StepsBackwards step k.sectors way t.forwards new.runs → IsRunUnread asked (length (marks t.made.map)) way
      → unmarked (marks new.runs) < unmarked (marks old.runs)
  less-by Forward is inside same unread = absurd (false≢true is)
  less-by Turned is inside same unread = absurd (false≢true is)
  less-by (Backward from end) is inside h unread =
      let low : from < k.sectors = omega (arith, inside.1, inside.2) in
      let at : ℕ = length (marks t.made.map) in
      let there : at + (from - at) ≡ from = omega (arith, inside.0) in
      let fresh : get_or asked from false ≡ false = ap (λ (n : ℕ). get_or asked n false) (sym there) ∙ unread (from - at) (omega (arith, inside.0, inside.1)) in
      let within = asked-within k phase old new t size from low fresh in
      let was : Status = get_or (statuses old.runs) from Untried in
      let taken : is_same was step.takes ≡ true = not-false (is_same was step.takes) (sym (asked-inside k phase old new t size from within.0 within.1) ∙ fresh) in
      let all : length (marks h.0) ≡ k.sectors = ap length h.1 ∙ length-replicate {A = Bool} k.sectors true in
      let behind : Span = span_between from end in
      let bounds : from + (end - from) ≡ end = omega (arith, inside.1) in
      let in_forwards : from + (end - from) ≤ length (marks t.forwards) = omega (arith, bounds, inside.2, forwards-all) in
      let in_all : from + (end - from) ≤ length (marks h.0) = omega (arith, bounds, inside.2, all) in
      let bad : Bool = get_or (spliced_marks behind (losts t.forwards) (losts h.0)) from false in
      -- the first step doesn't reach it
      let same : get_or (statuses t.forwards) from Untried ≡ was =
      step-get step span old.runs t.made.map t.forwards t.stepped inside-old inside-made from (omega (arith, low, size))
      ∙ ap (λ (i : Bool). status_after step i was (get_or (spliced_marks span (marks old.runs) (marks t.made.map)) from false) (get_or (spliced_marks span (losts old.runs) (losts t.made.map)) from false))
      (inside-behind span from (omega (arith, upto, t.here, inside.0))) in
      let had : get_or (spliced_marks behind (marks t.forwards) (marks h.0)) from false ≡ true =
      spliced-inside behind (marks t.forwards) (marks h.0) in_forwards in_all from (omega arith) (omega (arith, bounds, inside.1))
      ∙ ap (λ (l : List Bool). get_or l from false) h.1 ∙ get_or-replicate k.sectors from true false low in
      let now : get_or (statuses new.runs) from Untried ≡ Recovered =
      step-get step behind t.forwards h.0 new.runs h.2 in_forwards in_all from (omega (arith, low, forwards-all))
      ∙ ap (λ (i : Bool). status_after step i (get_or (statuses t.forwards) from Untried) (get_or (spliced_marks behind (marks t.forwards) (marks h.0)) from false) bad) (inside-within behind from (omega arith) (omega (arith, bounds, inside.1)))
      ∙ ap (λ (x : Status). status_after step true x (get_or (spliced_marks behind (marks t.forwards) (marks h.0)) from false) bad) same
      ∙ ap (λ (x : Bool). status_after step true was x bad) had
      ∙ after-had step was bad taken in
      unmarked-less (marks old.runs) (marks new.runs) t.whole keeps from (omega (arith, low, size))
      (marks-get old.runs from (omega (arith, low, size)) ∙ taken-lost was step.takes (takes-other phase) taken)
      (marks-get new.runs from (omega (arith, low, new-all)) ∙ ap is_recovered now)

  -- the turn goes on, or recovers a sector
  pub turn-less : unmarked (marks new.runs) + (k.sectors - new.at) < unmarked (marks old.runs) + (k.sectors - old.at)
  turn-less = by t.some
    where
      few : unmarked (marks new.runs) ≤ unmarked (marks old.runs)
      few = unmarked-kept (marks old.runs) (marks new.runs) t.whole keeps

      by : (old.at < new.at) ⊎ (is_backward t.made.way ≡ true) → unmarked (marks new.runs) + (k.sectors - new.at) < unmarked (marks old.runs) + (k.sectors - old.at)
      by (inl on) = omega (arith, few, on, t.here, t.next.inside)
      by (inr is) =
          let less = less-by t.made.way is t.behind t.map (reads-unread phase old.skip asked (scan_from k old) old.sides t.made t.left t.reads) in
          omega (arith, less, t.least)
