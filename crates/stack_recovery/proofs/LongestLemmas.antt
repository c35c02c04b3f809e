-- The lost runs of some states are the longest.
use Rattle.std.proofs.Common.{◌≡◌, ◌≢◌, ℕ, zero, suc, ◌+◌, ◌-◌, ◌≤◌, ◌<◌, ◌==◌, Bool, true, false, cond, List, [], ◌∷◌, get_or, Some, None, refl, sym, ap, ◌∙◌, subst, arith, inl, inr}
use Rattle.std.specs.Prelude.{All}
use Rattle.std.proofs.lemmas.Bool.{eqb-true, eq-eqb, and_from, and_parts, cases_lt, false≢true}
use Rattle.std.proofs.lemmas.List.Elements.{All-nil, All-cons}
use Rattle.stack_recovery.specs.declared.lost_run.Loss.{Loss}
use Rattle.runs.specs.Runs.{follows, run, run_before, runs_of}
use Rattle.stack_recovery.specs.LostRuns.{LostRun, is_same_loss}
use Rattle.stack_recovery.specs.Laws.{IsLongestRun, RunsAreLongest}
use Rattle.stack_recovery.specs.Surveys.{SectorState}
use Rattle.stack_recovery.proofs.LostRunLemmas.{same_loss-refl, same_loss-true}

is_empty : List LostRun → Bool
is_empty [] = true
is_empty (r ∷ rs) = false

empty-none : (r : LostRun) (rs : List LostRun) → [] ≡ r ∷ rs → ⊥
unfolding is_empty
empty-none r rs e = false≢true (sym (ap is_empty e))

is_lost : SectorState → Bool
is_lost None = false
is_lost (Some f) = true

had-none : (f : Loss) → None ≡ Some f → ⊥
unfolding is_lost
had-none f e = false≢true (ap is_lost e)

-- the state of sector t, where the first is that of sector s
state_at : ℕ → List SectorState → ℕ → SectorState
state_at s states t = get_or states (t - s) None

state_at-more : (s t : ℕ) (x : SectorState) (more : List SectorState) → s < t → state_at s (x ∷ more) t ≡ state_at (suc s) more t
unfolding state_at
state_at-more s t x more low = let step : t - s ≡ suc (t - suc s) = omega (arith, low) in ap (λ (k : ℕ). get_or (x ∷ more) k None) step

state_at-first : (s : ℕ) (x : SectorState) (more : List SectorState) → state_at s (x ∷ more) s ≡ x
unfolding state_at
state_at-first s x more = let none : s - s ≡ 0 = omega arith in ap (λ (k : ℕ). get_or (x ∷ more) k None) none

-- a longest run of the sectors from s on
record IsRunFrom (s : ℕ) (states : List SectorState) (r : LostRun) : Type 0 where
  some : 1 ≤ r.count
  from : s ≤ r.first
  lost : (j : ℕ) → j < r.count → state_at s states (r.first + j) ≡ Some r.kind
  before : (t : ℕ) → s ≤ t → suc t ≡ r.first → state_at s states t ≢ Some r.kind
  behind : state_at s states (r.first + r.count) ≢ Some r.kind

-- runs from s on, each after the one before
abbrev AreRunsFrom : ℕ → ℕ → List SectorState → List LostRun → Type 0
AreRunsFrom low s states [] = Unit {0}
AreRunsFrom low s states (r ∷ more) = (low ≤ r.first) × IsRunFrom s states r × AreRunsFrom (r.first + r.count) s states more

-- a sector before those from s on, of another fault than the run's, where that begins at s
lift : (s : ℕ) (x : SectorState) (more : List SectorState) (r : LostRun) → (r.first ≡ suc s → x ≢ Some r.kind) → IsRunFrom (suc s) more r → IsRunFrom s (x ∷ more) r
lift s x more r apart p = record {
  some = p.some;
  from = omega (arith, p.from);
  lost = λ j low. state_at-more s (r.first + j) x more (omega (arith, p.from)) ∙ p.lost j low;
  before = λ t low next e. elim (cases_lt s t) [
    | inl above ↦ p.before t (omega (arith, above)) next (sym (state_at-more s t x more above) ∙ e)
    | inr below ↦ let here : t ≡ s = omega (arith, low, below) in
        apart (sym next ∙ ap suc here) (sym (state_at-first s x more) ∙ ap (state_at s (x ∷ more)) (sym here) ∙ e)
  ];
  behind = λ e. p.behind (sym (state_at-more s (r.first + r.count) x more (omega (arith, p.from))) ∙ e);
}

lift-behind : (low s : ℕ) (x : SectorState) (more : List SectorState) (rs : List LostRun) → suc s < low → AreRunsFrom low (suc s) more rs → AreRunsFrom low s (x ∷ more) rs
lift-behind low s x more [] above p = tt
lift-behind low s x more (r ∷ rs) above p =
    (p.0, lift s x more r (λ e. absurd (omega (arith, e, above, p.0))) p.1, lift-behind (r.first + r.count) s x more rs (omega (arith, above, p.0, p.1.some)) p.2)

-- the first run begins where the first sector is lost
first-run : (s : ℕ) (states : List SectorState) (f : Loss) (rs : List LostRun) → runs_of is_same_loss s states ≡ rs → get_or states 0 None ≡ Some f → (b : LostRun) × (more : List LostRun) × (rs ≡ b ∷ more) × (b.first ≡ s) × (b.kind ≡ f)
first-run s [] f rs is e = let clash : None ≡ Some f = e in cc
first-run s (None ∷ states) f rs is e = let clash : None ≡ Some f = e in cc
first-run s (Some g ∷ states) f rs is e = go (runs_of is_same_loss (suc s) states) is
  where
    same : g ≡ f
    same = let both : Some g ≡ Some f = e in cc

    go : (below : List LostRun) → run_before is_same_loss (run s 1 g) below ≡ rs → (b : LostRun) × (more : List LostRun) × (rs ≡ b ∷ more) × (b.first ≡ s) × (b.kind ≡ f)
    go [] at = (run s 1 g, [], sym at, refl, same)
    go (x ∷ more) at = split (follows is_same_loss (run s 1 g) x) at
      where
        split : (b : Bool) → cond b (run s (1 + x.count) g ∷ more) (run s 1 g ∷ x ∷ more) ≡ rs → (b : LostRun) × (more : List LostRun) × (rs ≡ b ∷ more) × (b.first ≡ s) × (b.kind ≡ f)
        split true by = (run s (1 + x.count) g, more, sym by, refl, same)
        split false by = (run s 1 g, x ∷ more, sym by, refl, same)

-- one sector, after which none is lost by its fault
alone : (s : ℕ) (f : Loss) (more : List SectorState) → state_at (suc s) more (suc s) ≢ Some f → IsRunFrom s (Some f ∷ more) (run s 1 f)
alone s f more none = record {
  some = omega arith;
  from = omega arith;
  lost = λ j low. let here : s + j ≡ s = omega (arith, low) in ap (state_at s (Some f ∷ more)) here ∙ state_at-first s (Some f) more;
  before = λ t low next e. absurd (omega (arith, low, next));
  behind = λ e. let next : s + 1 ≡ suc s = omega arith in none (sym (state_at-more s (suc s) (Some f) more (omega arith)) ∙ ap (state_at s (Some f ∷ more)) (sym next) ∙ e);
}

-- one sector and a run of its fault after it
grown : (s : ℕ) (f : Loss) (more : List SectorState) (b : LostRun) → b.first ≡ s + 1 → f ≡ b.kind → IsRunFrom (suc s) more b → IsRunFrom s (Some f ∷ more) (run s (1 + b.count) f)
grown s f more b at same p = record {
  some = omega arith;
  from = omega arith;
  lost = λ j low. each j low;
  before = λ t low next e. absurd (omega (arith, low, next));
  behind = λ e.
      let end : s + (1 + b.count) ≡ b.first + b.count = omega (arith, at) in
      p.behind (sym (state_at-more s (b.first + b.count) (Some f) more (omega (arith, at))) ∙ ap (state_at s (Some f ∷ more)) (sym end) ∙ e ∙ ap (λ (g : Loss). Some g) same);
}
  where
    each : (j : ℕ) → j < 1 + b.count → state_at s (Some f ∷ more) (s + j) ≡ Some f
    each zero low = let here : s + 0 ≡ s = omega arith in ap (state_at s (Some f ∷ more)) here ∙ state_at-first s (Some f) more
    each (suc j) low =
        let next : s + suc j ≡ b.first + j = omega (arith, at) in
        ap (state_at s (Some f ∷ more)) next ∙ state_at-more s (b.first + j) (Some f) more (omega (arith, at)) ∙ p.lost j (omega (arith, low)) ∙ ap (λ (g : Loss). Some g) (sym same)

state_at-here : (s : ℕ) (states : List SectorState) → state_at s states s ≡ get_or states 0 None
unfolding state_at
state_at-here s states = let none : s - s ≡ 0 = omega arith in ap (λ (k : ℕ). get_or states k None) none

runs-from : (s : ℕ) (states : List SectorState) → AreRunsFrom s s states (runs_of is_same_loss s states)
runs-from s [] = tt
runs-from s (None ∷ more) = go (runs_of is_same_loss (suc s) more) (runs-from (suc s) more)
  where
    go : (rs : List LostRun) → AreRunsFrom (suc s) (suc s) more rs → AreRunsFrom s s (None ∷ more) rs
    go [] p = tt
    go (r ∷ rs) p =
        (omega (arith, p.0), lift s None more r (λ e clash. had-none r.kind clash) p.1, lift-behind (r.first + r.count) s None more rs (omega (arith, p.0, p.1.some)) p.2)
runs-from s (Some f ∷ more) = go (runs_of is_same_loss (suc s) more) refl (runs-from (suc s) more)
  where
    next : (rs : List LostRun) → runs_of is_same_loss (suc s) more ≡ rs → state_at (suc s) more (suc s) ≡ Some f → (b : LostRun) × (rest : List LostRun) × (rs ≡ b ∷ rest) × (b.first ≡ suc s) × (b.kind ≡ f)
    next rs is e = first-run (suc s) more f rs is (sym (state_at-here (suc s) more) ∙ e)

    go : (rs : List LostRun) → runs_of is_same_loss (suc s) more ≡ rs → AreRunsFrom (suc s) (suc s) more rs → AreRunsFrom s s (Some f ∷ more) (run_before is_same_loss (run s 1 f) rs)
    go [] is p = (omega arith, alone s f more (λ e. let found = next [] is e in empty-none found.0 found.1 found.2), tt)
    go (b ∷ rest) is p = split (follows is_same_loss (run s 1 f) b) refl
      where
        split : (t : Bool) → follows is_same_loss (run s 1 f) b ≡ t → AreRunsFrom s s (Some f ∷ more) (cond t (run s (1 + b.count) f ∷ rest) (run s 1 f ∷ b ∷ rest))
        split true e =
            let both = and_parts (b.first == (s + 1)) (is_same_loss f b.kind) e in
            let at : b.first ≡ s + 1 = eqb-true b.first (s + 1) both.0 in
            let end : b.first + b.count ≡ s + (1 + b.count) = omega (arith, at) in (
              omega arith,
              grown s f more b at (same_loss-true f b.kind both.1) p.1,
              lift-behind (s + (1 + b.count)) s (Some f) more rest (omega (arith, p.1.some)) (subst (λ (k : ℕ). AreRunsFrom k (suc s) more rest) end p.2),
            )
        split false e =
            let apart : b.first ≡ suc s → f ≡ b.kind → ⊥ = λ at same.
            let here : b.first ≡ s + 1 = omega (arith, at) in
            false≢true (sym e ∙ and_from (b.first == (s + 1)) (is_same_loss f b.kind) (eq-eqb b.first (s + 1) here) (ap (is_same_loss f) (sym same) ∙ same_loss-refl f)) in (
              omega arith,
              alone s f more (λ e'. let found = next (b ∷ rest) is e' in
                  let lists : b ∷ rest ≡ found.0 ∷ found.1 = found.2 in
                  let same : b ≡ found.0 = cc in
                  apart (ap (λ (x : LostRun). x.first) same ∙ found.3) (sym (ap (λ (x : LostRun). x.kind) same ∙ found.4))),
              (
                omega (arith, p.0),
                lift s (Some f) more b (λ at clash. apart at (let both : Some f ≡ Some b.kind = clash in cc)) p.1,
                lift-behind (b.first + b.count) s (Some f) more rest (omega (arith, p.0, p.1.some)) p.2,
              ),
            )

state_at-zero : (states : List SectorState) (t : ℕ) → state_at 0 states t ≡ get_or states t None
unfolding state_at
state_at-zero states t = let none : t - 0 ≡ t = omega arith in ap (λ (k : ℕ). get_or states k None) none

-- a run of all sectors, from sector 0 on
longest : (states : List SectorState) (r : LostRun) → IsRunFrom 0 states r → IsLongestRun states r
longest states r p = record {
  some = p.some;
  lost = λ j low. sym (state_at-zero states (r.first + j)) ∙ p.lost j low;
  before = λ s next e. p.before s (omega arith) next (state_at-zero states s ∙ e);
  behind = λ e. p.behind (state_at-zero states (r.first + r.count) ∙ e);
}

each-longest : (low : ℕ) (states : List SectorState) (rs : List LostRun) → AreRunsFrom low 0 states rs → All (IsLongestRun states) rs
each-longest low states [] p = All-nil (IsLongestRun states)
each-longest low states (r ∷ rs) p = All-cons (IsLongestRun states) r rs (longest states r p.1) (each-longest (r.first + r.count) states rs p.2)

pub runs-longest : RunsAreLongest
runs-longest states = each-longest 0 states (runs_of is_same_loss 0 states) (runs-from 0 states)
