-- What a pass without a map file makes of each sector, over leaves that are steady and never fail.
use Rattle.std.proofs.Common.{◌≡◌, ℕ, zero, suc, ◌-◌, ◌<◌, min, not, Bool, true, false, List, [], ◌∷◌, length, get_or, replicate, Option, Some, None, append-nil, refl, sym, ap, ◌∙◌, subst, inl, inr, arith}
use Rattle.std.specs.List.{list_all}
use Rattle.std.proofs.lemmas.Bool.{and_parts, cases_lt, false≢true}
use Rattle.std.proofs.lemmas.List.{get_or-append_right, get_or-replicate, get_or_append_left, length-append, length-replicate}
use Rattle.rescue_map.specs.declared.map.Run.{Run}
use Rattle.rescue_map.specs.declared.status.Status.TheVariants.{Untried}
use Rattle.rescue_map.specs.Maps.{marks}
use Rattle.rescue_map.specs.Stages.{statuses}
use Rattle.rescue_map.specs.Statuses.{is_same}
use Rattle.rescue_map.specs.Steps.{untaken_marks}
use Rattle.rescue_map.proofs.lemmas.StatusLemmas.{untaken-get, untaken-length}
use Rattle.runs.specs.Runs.{runs_of}
use Rattle.stack_engine.specs.Stacks.{StackRecord}
use Rattle.stack_recovery.specs.Listings.{KeepsMore, Listed}
use Rattle.stack_recovery.specs.LostRuns.{LostRun, is_same_loss}
use Rattle.stack_recovery.specs.Recoveries.{Sides}
use Rattle.stack_recovery.specs.Surveys.{SectorState, all_states}
use Rattle.stack_recovery.proofs.lemmas.CopiedMeantLemmas.{meant_at}
use Rattle.stack_recovery.proofs.lemmas.MeantLemmas.{IsLeft, same-left}
use Rattle.scan_commands.specs.MapFiles.{MapPathRecord}
use Rattle.scan_commands.specs.declared.phase.Phase.{Phase}
use Rattle.scan_commands.specs.declared.phase.Phase.TheVariants.{Sweep}
use Rattle.scan_commands.specs.Turns.{IsSkipped, IsTurn, Kept, Progressed, Turns, asked_marks, begins, goes_on, passes, scan_from, step_of, turn_len}
use Rattle.scan_commands.proofs.FoundRunLemmas.{reads-later}
use Rattle.scan_commands.proofs.LostMarkLemmas.{spliced-inside, spliced-size}
use Rattle.scan_commands.proofs.TurnLemmas.{is_large}
use Rattle.scan_commands.proofs.MeantTurnLemmas.{IsSure, LargeStep, SingleStep, large-takes, large-turn, large_other, single-turn, single_other, turn-end, turn-left}

-- ---- a turn that is passed over

all-had : (runs : List Run) → list_all (λ run. run.had) runs ≡ true → (s : ℕ) → s < length (marks runs) → get_or (marks runs) s false ≡ true
all-had [] all s low = absurd (omega (arith, low))
all-had (r ∷ more) all s low = elim (cases_lt s r.count) [
  | inl here ↦
      get_or_append_left (replicate r.count r.had) (marks more) false s (omega (arith, here, length-replicate {A = Bool} r.count r.had)) ∙ get_or-replicate r.count s r.had false here
      ∙ (and_parts r.had (list_all (λ run. run.had) more) all).0
  | inr past ↦
      get_or-append_right (replicate r.count r.had) (marks more) r.count s false (length-replicate {A = Bool} r.count r.had) past
      ∙ all-had more (and_parts r.had (list_all (λ run. run.had) more) all).1 (s - r.count) (omega (arith, past, low, length-append (replicate r.count r.had) (marks more), length-replicate {A = Bool} r.count r.had))
]

not-true : (x : Bool) → not x ≡ true → x ≡ false
not-true false e = refl
not-true true e = absurd (false≢true e)

module _ {S : Type 0} (k : Kept S) (phase : Phase) (old new : Progressed S) (t : IsSkipped k phase old new) (none : k.file ≡ None) (start : old.at ≡ 0) (size : length (marks old.runs) ≡ k.sectors) where
  skipped : t.span.count ≡ min k.sectors (k.sectors - old.at)
  skipped = t.next.count ∙ ap (λ (f : Option MapPathRecord). min (turn_len f k.sectors) (k.sectors - old.at)) none

  skip-end : new.at ≡ k.sectors
  skip-end = omega (arith, skipped, t.next.end, start)

  skip-runs : new.runs ≡ old.runs
  skip-runs = ap (λ (x : Progressed S). x.runs) t.same

  skip-sides : new.sides ≡ old.sides
  skip-sides = ap (λ (x : Progressed S). x.sides) t.same

  -- no sector has the status that the pass takes
  skip-other : (s : ℕ) → s < k.sectors → is_same (get_or (statuses old.runs) s Untried) (step_of phase).takes ≡ false
  skip-other s low =
      let takes = (step_of phase).takes in
      let all : length (untaken_marks takes old.runs) ≡ k.sectors = untaken-length takes old.runs ∙ size in
      let asked-all : length (marks t.runs) ≡ k.sectors = ap length t.asked ∙ asked-length all in
      not-true (is_same (get_or (statuses old.runs) s Untried) takes)
      (sym (untaken-get takes old.runs s (omega (arith, low, size)))
      ∙ sym (spliced-inside t.span (replicate k.sectors true) (untaken_marks takes old.runs) (omega (arith, skipped, t.next.first, start, length-replicate {A = Bool} k.sectors true)) (omega (arith, skipped, t.next.first, start, all)) s (omega (arith, t.next.first, start)) (omega (arith, low, skipped, t.next.first, start)))
      ∙ sym (ap (λ (l : List Bool). get_or l s false) t.asked)
      ∙ all-had t.runs t.none s (omega (arith, low, asked-all)))
    where
      asked-length : length (untaken_marks (step_of phase).takes old.runs) ≡ k.sectors → length (asked_marks phase t.span k.sectors old.runs) ≡ k.sectors
      asked-length all =
          spliced-size t.span (replicate k.sectors true) (untaken_marks (step_of phase).takes old.runs) (omega (arith, skipped, t.next.first, start, length-replicate {A = Bool} k.sectors true)) (omega (arith, skipped, t.next.first, start, all))
          ∙ length-replicate {A = Bool} k.sectors true

-- ---- a whole pass

-- without a map file a pass has one turn, or passes over it; none is needed for a device without sectors
data OneTurn {S : Type 0} (k : Kept S) (phase : Phase) (first now : Progressed S) : Type 0 where
  no_turn : now ≡ first → OneTurn k phase first now
  one_turn : IsTurn k phase first now → OneTurn k phase first now
  one_skip : IsSkipped k phase first now → OneTurn k phase first now

one-turn : {S : Type 0} (k : Kept S) (phase : Phase) (first : Progressed S) {now : Progressed S} → k.file ≡ None → first.at ≡ 0 → length (marks first.runs) ≡ k.sectors → Turns k phase first now → OneTurn k phase first now
one-turn k phase first none start size begins = no_turn refl
one-turn {S} k phase first none start size (goes_on {now = now} {next = next} turns t) = more (one-turn k phase first none start size turns)
  where
    more : OneTurn k phase first now → OneTurn k phase first next
    more (no_turn e) = one_turn (subst (λ (p : Progressed S). IsTurn k phase p next) e t)
    more (one_turn before) = absurd (omega (arith, turn-end k phase first now before none start size, t.next.some, t.next.end, t.next.inside))
    more (one_skip before) = absurd (omega (arith, skip-end k phase first now before none start size, t.next.some, t.next.end, t.next.inside))
one-turn {S} k phase first none start size (passes {now = now} {next = next} turns t) = more (one-turn k phase first none start size turns)
  where
    more : OneTurn k phase first now → OneTurn k phase first next
    more (no_turn e) = one_skip (subst (λ (p : Progressed S). IsSkipped k phase p next) e t)
    more (one_turn before) = absurd (omega (arith, turn-end k phase first now before none start size, t.next.some, t.next.end, t.next.inside))
    more (one_skip before) = absurd (omega (arith, skip-end k phase first now before none start size, t.next.some, t.next.end, t.next.inside))

module _ {S : Type 0} (k : Kept S) (phase : Phase) (first now : Progressed S) (none : k.file ≡ None) (start : first.at ≡ 0) (end : now.at ≡ k.sectors) (size : length (marks first.runs) ≡ k.sectors) (sure : IsSure k.scan.d first.sides.stack) where
  left-same : first.sides ≡ now.sides → IsLeft k.scan.d first.sides.stack now.sides.stack
  left-same e = subst (λ (w : StackRecord). IsLeft k.scan.d first.sides.stack w) (ap (λ (x : Sides). x.stack) e) (same-left k.scan.d first.sides.stack first.sides.stack refl sure)

  left-by : OneTurn k phase first now → IsLeft k.scan.d first.sides.stack now.sides.stack
  left-by (no_turn e) = left-same (sym (ap (λ (p : Progressed S). p.sides) e))
  left-by (one_turn t) = turn-left k phase first now t none start size sure
  left-by (one_skip t) = left-same (sym (skip-sides k phase first now t none start size))

  pub pass-left : Turns k phase first now → IsLeft k.scan.d first.sides.stack now.sides.stack
  pass-left turns = left-by (one-turn k phase first none start size turns)

  large-by : is_large phase ≡ true → (phase ≡ Sweep → first.skip ≡ 0) → OneTurn k phase first now → (s : ℕ) → s < k.sectors
      → LargeStep phase (get_or (statuses first.runs) s Untried) (get_or (statuses now.runs) s Untried) (meant_at k.scan.d first.sides.stack s)
  large-by large sweeps (no_turn e) s low = absurd (omega (arith, low, end, start, ap (λ (p : Progressed S). p.at) e))
  large-by large sweeps (one_turn t) s low = large-turn k phase first now t none start size sure s low large sweeps
  large-by large sweeps (one_skip t) s low =
      large_other (ap (is_same (get_or (statuses first.runs) s Untried)) (sym (large-takes phase large)) ∙ skip-other k phase first now t none start size s low)
      (ap (λ (r : List Run). get_or (statuses r) s Untried) (skip-runs k phase first now t none start size))

  pub large-pass : is_large phase ≡ true → (phase ≡ Sweep → first.skip ≡ 0) → Turns k phase first now → (s : ℕ) → s < k.sectors
      → LargeStep phase (get_or (statuses first.runs) s Untried) (get_or (statuses now.runs) s Untried) (meant_at k.scan.d first.sides.stack s)
  large-pass large sweeps turns = large-by large sweeps (one-turn k phase first none start size turns)

  -- the states that a pass by single sectors found, and the runs of them that it reported
  pub record FindsEach : Type 0 where
    pub states : List SectorState
    pub each : (s : ℕ) → s < k.sectors → SingleStep phase (get_or (statuses first.runs) s Untried) (get_or (statuses now.runs) s Untried) (meant_at k.scan.d first.sides.stack s) (get_or states s None)
    pub told : now.sides.printed.failed ≡ false → KeepsMore first.sides.printed.runs now.sides.printed.runs (runs_of is_same_loss 0 states)

  finds-none : (e : first.sides ≡ now.sides) → ((s : ℕ) → s < k.sectors → SingleStep phase (get_or (statuses first.runs) s Untried) (get_or (statuses now.runs) s Untried) (meant_at k.scan.d first.sides.stack s) None) → FindsEach
  finds-none e each = record {
    states = [];
    each = λ s low. subst (λ (x : SectorState). SingleStep phase (get_or (statuses first.runs) s Untried) (get_or (statuses now.runs) s Untried) (meant_at k.scan.d first.sides.stack s) x) (sym (none-at s)) (each s low);
    told = λ ok. subst (λ (x : Sides). KeepsMore first.sides.printed.runs x.printed.runs []) e (keeps-none first.sides.printed.runs);
  }
    where
      none-at : (s : ℕ) → get_or {A = SectorState} [] s None ≡ None
      none-at zero = refl
      none-at (suc s) = refl

      keeps-none : (old : Option (List LostRun)) → KeepsMore old old []
      keeps-none None = tt
      keeps-none (Some runs) = sym (append-nil runs)

  single-by : is_large phase ≡ false → OneTurn k phase first now → FindsEach
  single-by single (no_turn e) =
      finds-none (sym (ap (λ (p : Progressed S). p.sides) e)) (λ s low. absurd (omega (arith, low, end, start, ap (λ (p : Progressed S). p.at) e)))
  single-by single (one_turn t) =
      let left = reads-later phase first.skip (asked_marks phase t.span k.sectors first.runs) (scan_from k first) first.sides t.made t.left single t.reads in
      let printed : now.sides.printed ≡ t.left.printed = ap (λ (x : Sides). x.printed) t.on_medium in
      record {
        states = all_states left.1.reads;
        each = λ s low. single-turn k phase first now t none start size sure single left.0 left.1 s low;
        told = λ ok. subst (λ (l : Listed). KeepsMore first.sides.printed.runs l.runs (runs_of is_same_loss 0 (all_states left.1.reads))) (sym printed) (left.1.printed.listed (sym (ap (λ (l : Listed). l.failed) printed) ∙ ok));
      }
  single-by single (one_skip t) =
      finds-none (sym (skip-sides k phase first now t none start size))
      (λ s low. single_other (skip-other k phase first now t none start size s low) (ap (λ (r : List Run). get_or (statuses r) s Untried) (skip-runs k phase first now t none start size)) refl)

  pub single-pass : is_large phase ≡ false → Turns k phase first now → FindsEach
  single-pass single turns = single-by single (one-turn k phase first none start size turns)
