-- The sectors of lost runs.
use Rattle.std.proofs.Common.{◌≡◌, ℕ, zero, suc, ◌+◌, ◌<◌, ◌≤◌, ◌==◌, ◌&&◌, ◌||◌, not, Bool, true, false, cond, List, [], ◌∷◌, ◌++◌, length, get_or, Some, None, refl, sym, ap, ap₂, ◌∙◌, subst, inl, inr, arith}
use Rattle.std.specs.Prelude.{nat_le, nat_lt}
use Rattle.std.specs.Option.{is_some}
use Rattle.std.proofs.lemmas.Bool.{and_parts, cases_lt, cond-false, cond-true, eqb-true, le-leb, le-ltb, lt-leb, lt-ltb}
use Rattle.rescue_map.specs.declared.status.Status.{Status}
use Rattle.rescue_map.specs.declared.status.Status.TheVariants.{Bad, Recovered, Unscraped, Untried, Untrimmed}
use Rattle.rescue_map.specs.Statuses.{is_recovered}
use Rattle.runs.specs.Runs.{follows, run, run_before, runs_of}
use Rattle.stack_recovery.specs.declared.lost_run.Loss.{Loss}
use Rattle.stack_recovery.specs.Joins.{joined_state, joined_states, or_before, state_in}
use Rattle.stack_recovery.specs.LostRuns.{LostRun, is_same_loss}
use Rattle.stack_recovery.specs.Surveys.{SectorState}
use Rattle.scan_commands.specs.Laws.{is_in, is_within}

or-assoc : (a b c : Bool) → (a || b) || c ≡ a || (b || c)
or-assoc true b c = refl
or-assoc false b c = refl

and-none : (a : Bool) → a && false ≡ false
and-none true = refl
and-none false = refl

-- ---- whether a sector is in a run

pub within-true : (r : LostRun) (s : ℕ) → r.first ≤ s → s < r.first + r.count → is_within r s ≡ true
within-true r s from to = ap₂ (λ (a b : Bool). a && b) (le-leb r.first s from) (lt-ltb s (r.first + r.count) to)

pub within-low : (r : LostRun) (s : ℕ) → s < r.first → is_within r s ≡ false
within-low r s low = ap (λ (a : Bool). a && nat_lt s (r.first + r.count)) (lt-leb r.first s low)

pub within-high : (r : LostRun) (s : ℕ) → r.first + r.count ≤ s → is_within r s ≡ false
within-high r s high = ap (λ (a : Bool). nat_le r.first s && a) (le-ltb s (r.first + r.count) high) ∙ and-none (nat_le r.first s)

pub in-append : (a b : List LostRun) (s : ℕ) → is_in (a ++ b) s ≡ is_in a s || is_in b s
in-append [] b s = refl
in-append (r ∷ a) b s = ap (λ (x : Bool). is_within r s || x) (in-append a b s) ∙ sym (or-assoc (is_within r s) (is_in a s) (is_in b s))

-- ---- runs in rising order

-- the runs rise, from a sector on, and end before another one
abbrev pub AreBetween : ℕ → ℕ → List LostRun → Type 0
AreBetween low high [] = low ≤ high
AreBetween low high (r ∷ more) = (low ≤ r.first) × AreBetween (r.first + r.count) high more

pub between-bounds : (low high : ℕ) (runs : List LostRun) → AreBetween low high runs → low ≤ high
between-bounds low high [] p = p
between-bounds low high (r ∷ more) p = omega (arith, p.0, between-bounds (r.first + r.count) high more p.1)

pub between-lower : (low low' high : ℕ) (runs : List LostRun) → low' ≤ low → AreBetween low high runs → AreBetween low' high runs
between-lower low low' high [] le p = omega (arith, le, p)
between-lower low low' high (r ∷ more) le p = (omega (arith, le, p.0), p.1)

pub between-higher : (low high high' : ℕ) (runs : List LostRun) → high ≤ high' → AreBetween low high runs → AreBetween low high' runs
between-higher low high high' [] le p = omega (arith, le, p)
between-higher low high high' (r ∷ more) le p = (p.0, between-higher (r.first + r.count) high high' more le p.1)

pub between-append : (low middle high : ℕ) (a b : List LostRun) → AreBetween low middle a → AreBetween middle high b → AreBetween low high (a ++ b)
between-append low middle high [] b p q = between-lower middle low high b p q
between-append low middle high (r ∷ a) b p q = (p.0, between-append (r.first + r.count) middle high a b p.1 q)

pub in-before : (low high : ℕ) (runs : List LostRun) (s : ℕ) → AreBetween low high runs → s < low → is_in runs s ≡ false
in-before low high [] s p below = refl
in-before low high (r ∷ more) s p below =
    ap₂ (λ (a b : Bool). a || b) (within-low r s (omega (arith, p.0, below))) (in-before (r.first + r.count) high more s p.1 (omega (arith, p.0, below)))

pub in-behind : (low high : ℕ) (runs : List LostRun) (s : ℕ) → AreBetween low high runs → high ≤ s → is_in runs s ≡ false
in-behind low high [] s p above = refl
in-behind low high (r ∷ more) s p above =
    ap₂ (λ (a b : Bool). a || b) (within-high r s (omega (arith, between-bounds (r.first + r.count) high more p.1, above))) (in-behind (r.first + r.count) high more s p.1 above)

-- the state of a sector by such runs
pub state-in : (low high : ℕ) (runs : List LostRun) (s : ℕ) → AreBetween low high runs → is_some (state_in runs s) ≡ is_in runs s
state-in low high [] s p = refl
state-in low high (r ∷ more) s p = elim (cases_lt s (r.first + r.count)) [
  | inr ends ↦
      ap (λ (x : SectorState). is_some x) (cond-false (nat_lt s (r.first + r.count)) (cond (nat_le r.first s) (Some r.kind) None) (state_in more s) (le-ltb s (r.first + r.count) ends))
      ∙ state-in (r.first + r.count) high more s p.1
      ∙ ap (λ (a : Bool). a || is_in more s) (sym (within-high r s ends))
  | inl before ↦
      ap (λ (x : SectorState). is_some x) (cond-true (nat_lt s (r.first + r.count)) (cond (nat_le r.first s) (Some r.kind) None) (state_in more s) (lt-ltb s (r.first + r.count) before)) ∙ inside before
]
  where
    inside : s < r.first + r.count → is_some (cond {A = SectorState} (nat_le r.first s) (Some r.kind) None) ≡ is_within r s || is_in more s
    inside before = elim (cases_lt s r.first) [
      | inl below ↦
          ap (λ (x : SectorState). is_some x) (cond-false (nat_le r.first s) (Some r.kind) None (lt-leb r.first s below))
          ∙ sym (ap₂ (λ (a b : Bool). a || b) (within-low r s below) (in-before (r.first + r.count) high more s p.1 before))
      | inr from ↦
          ap (λ (x : SectorState). is_some x) (cond-true (nat_le r.first s) (Some r.kind) None (le-leb r.first s from))
          ∙ sym (ap (λ (a : Bool). a || is_in more s) (within-true r s from before))
    ]

-- ---- the runs of some states

-- a sector in front of runs
before-in : (s : ℕ) (f : Loss) (rs : List LostRun) (t : ℕ) → is_in (run_before is_same_loss (run s 1 f) rs) t ≡ is_within (run s 1 f) t || is_in rs t
before-in s f [] t = refl
before-in s f (b ∷ more) t = split (follows is_same_loss (run s 1 f) b) refl
  where
    one : b.first ≡ s + 1 → is_within (run s (1 + b.count) f) t ≡ is_within (run s 1 f) t || is_within b t
    one at = elim (cases_lt t s) [
      | inl low ↦ within-low (run s (1 + b.count) f) t low ∙ sym (ap₂ (λ (x y : Bool). x || y) (within-low (run s 1 f) t low) (within-low b t (omega (arith, at, low))))
      | inr from ↦ elim (cases_lt t (s + 1)) [
        | inl first ↦ within-true (run s (1 + b.count) f) t from (omega (arith, first)) ∙ sym (ap (λ (x : Bool). x || is_within b t) (within-true (run s 1 f) t from first))
        | inr past ↦ elim (cases_lt t (s + (1 + b.count))) [
          | inl inside ↦
              within-true (run s (1 + b.count) f) t from inside ∙ sym (ap₂ (λ (x y : Bool). x || y) (within-high (run s 1 f) t past) (within-true b t (omega (arith, at, past)) (omega (arith, at, inside))))
          | inr high ↦
              within-high (run s (1 + b.count) f) t high ∙ sym (ap₂ (λ (x y : Bool). x || y) (within-high (run s 1 f) t past) (within-high b t (omega (arith, at, high))))
        ]
      ]
    ]

    split : (e : Bool) → follows is_same_loss (run s 1 f) b ≡ e → is_in (cond e (run s (1 + b.count) f ∷ more) (run s 1 f ∷ b ∷ more)) t ≡ is_within (run s 1 f) t || is_in (b ∷ more) t
    split true e =
        let at : b.first ≡ s + 1 = eqb-true b.first (s + 1) (and_parts (b.first == (s + 1)) (is_same_loss f b.kind) e).0 in
        ap (λ (x : Bool). x || is_in more t) (one at) ∙ or-assoc (is_within (run s 1 f) t) (is_within b t) (is_in more t)
    split false e = refl

before-between : (s high : ℕ) (f : Loss) (rs : List LostRun) → AreBetween (suc s) high rs → AreBetween s high (run_before is_same_loss (run s 1 f) rs)
before-between s high f [] p = (omega arith, omega (arith, p))
before-between s high f (b ∷ more) p = split (follows is_same_loss (run s 1 f) b) refl
  where
    split : (e : Bool) → follows is_same_loss (run s 1 f) b ≡ e → AreBetween s high (cond e (run s (1 + b.count) f ∷ more) (run s 1 f ∷ b ∷ more))
    split true e =
        let at : b.first ≡ s + 1 = eqb-true b.first (s + 1) (and_parts (b.first == (s + 1)) (is_same_loss f b.kind) e).0 in
        let end : b.first + b.count ≡ s + (1 + b.count) = omega (arith, at) in
        (omega arith, subst (λ (n : ℕ). AreBetween n high more) end p.1)
    split false e = (omega arith, (omega (arith, p.0), p.1))

pub runs-between : (s : ℕ) (states : List SectorState) → AreBetween s (s + length states) (runs_of is_same_loss s states)
runs-between s [] = omega arith
runs-between s (None ∷ more) =
    let end : suc s + length more ≡ s + suc (length more) = omega arith in
    between-lower (suc s) s (s + suc (length more)) (runs_of is_same_loss (suc s) more) (omega arith) (subst (λ (n : ℕ). AreBetween (suc s) n (runs_of is_same_loss (suc s) more)) end (runs-between (suc s) more))
runs-between s (Some f ∷ more) =
    let end : suc s + length more ≡ s + suc (length more) = omega arith in
    before-between s (s + suc (length more)) f (runs_of is_same_loss (suc s) more) (subst (λ (n : ℕ). AreBetween (suc s) n (runs_of is_same_loss (suc s) more)) end (runs-between (suc s) more))

-- none of the sectors is lost
runs-none : (s : ℕ) (states : List SectorState) → ((j : ℕ) → j < length states → get_or states j None ≡ None) → runs_of is_same_loss s states ≡ []
runs-none s [] none = refl
runs-none s (x ∷ more) none = first x (none 0 (omega arith)) (runs-none (suc s) more (λ j low. none (suc j) (omega (arith, low))))
  where
    first : (x : SectorState) → x ≡ None → runs_of is_same_loss (suc s) more ≡ [] → runs_of is_same_loss s (x ∷ more) ≡ []
    first None e below = below
    first (Some f) e below = cc

-- only sectors from one on and before another one are lost
pub runs-span : (s a e : ℕ) (states : List SectorState) → a ≤ e → ((j : ℕ) → j < a → get_or states j None ≡ None) → ((j : ℕ) → e ≤ j → j < length states → get_or states j None ≡ None)
    → AreBetween (s + a) (s + e) (runs_of is_same_loss s states)
runs-span s a e [] le before behind = omega (arith, le)
runs-span s a zero (x ∷ more) le before behind =
    subst (λ (l : List LostRun). AreBetween (s + a) (s + 0) l) (sym (runs-none s (x ∷ more) (λ j low. behind j (omega arith) low))) (omega (arith, le))
runs-span s zero (suc e) (x ∷ more) le before behind =
    first x (runs-span (suc s) 0 e more (omega arith) (λ j low. absurd (omega (arith, low))) (λ j from low. behind (suc j) (omega (arith, from)) (omega (arith, low))))
  where
    here : suc s + 0 ≡ suc s
    here = omega arith

    end : suc s + e ≡ s + suc e
    end = omega arith

    first : (x : SectorState) → AreBetween (suc s + 0) (suc s + e) (runs_of is_same_loss (suc s) more) → AreBetween (s + 0) (s + suc e) (runs_of is_same_loss s (x ∷ more))
    first None below =
        between-lower (suc s + 0) (s + 0) (s + suc e) (runs_of is_same_loss (suc s) more) (omega arith) (subst (λ (n : ℕ). AreBetween (suc s + 0) n (runs_of is_same_loss (suc s) more)) end below)
    first (Some f) below =
        let rest : AreBetween (suc s) (s + suc e) (runs_of is_same_loss (suc s) more) =
        subst (λ (n : ℕ). AreBetween n (s + suc e) (runs_of is_same_loss (suc s) more)) here (subst (λ (n : ℕ). AreBetween (suc s + 0) n (runs_of is_same_loss (suc s) more)) end below) in
        between-lower s (s + 0) (s + suc e) (run_before is_same_loss (run s 1 f) (runs_of is_same_loss (suc s) more)) (omega arith) (before-between s (s + suc e) f (runs_of is_same_loss (suc s) more) rest)
runs-span s (suc a) (suc e) (x ∷ more) le before behind =
    first x (before 0 (omega arith))
    (runs-span (suc s) a e more (omega (arith, le)) (λ j low. before (suc j) (omega (arith, low))) (λ j past low. behind (suc j) (omega (arith, past)) (omega (arith, low))))
  where
    from : suc s + a ≡ s + suc a
    from = omega arith

    end : suc s + e ≡ s + suc e
    end = omega arith

    first : (x : SectorState) → x ≡ None → AreBetween (suc s + a) (suc s + e) (runs_of is_same_loss (suc s) more) → AreBetween (s + suc a) (s + suc e) (runs_of is_same_loss s (x ∷ more))
    first None is below =
        subst (λ (n : ℕ). AreBetween n (s + suc e) (runs_of is_same_loss (suc s) more)) from
        (subst (λ (n : ℕ). AreBetween (suc s + a) n (runs_of is_same_loss (suc s) more)) end below)
    first (Some f) is below = cc

-- a sector is in one of the runs exactly if its state is a loss
pub runs-in : (s : ℕ) (states : List SectorState) (j : ℕ) → is_in (runs_of is_same_loss s states) (s + j) ≡ is_some (get_or states j None)
runs-in s [] zero = refl
runs-in s [] (suc j) = refl
runs-in s (None ∷ more) zero = in-before (suc s) (suc s + length more) (runs_of is_same_loss (suc s) more) (s + 0) (runs-between (suc s) more) (omega arith)
runs-in s (None ∷ more) (suc j) = let next : s + suc j ≡ suc s + j = omega arith in ap (is_in (runs_of is_same_loss (suc s) more)) next ∙ runs-in (suc s) more j
runs-in s (Some f ∷ more) zero =
    before-in s f (runs_of is_same_loss (suc s) more) (s + 0) ∙ ap (λ (a : Bool). a || is_in (runs_of is_same_loss (suc s) more) (s + 0)) (within-true (run s 1 f) (s + 0) (omega arith) (omega arith))
runs-in s (Some f ∷ more) (suc j) =
    let next : s + suc j ≡ suc s + j = omega arith in
    before-in s f (runs_of is_same_loss (suc s) more) (s + suc j)
    ∙ ap (λ (a : Bool). a || is_in (runs_of is_same_loss (suc s) more) (s + suc j)) (within-high (run s 1 f) (s + suc j) (omega arith))
    ∙ ap (is_in (runs_of is_same_loss (suc s) more)) next ∙ runs-in (suc s) more j

-- ---- the states of sectors by their statuses and by runs

pub joined-at : (at : ℕ) (statuses : List Status) (known found : List LostRun) (j : ℕ) → j < length statuses → get_or (joined_states at statuses known found) j None ≡ joined_state (get_or statuses j Untried) known found (at + j)
joined-at at [] known found j low = absurd (omega (arith, low))
joined-at at (status ∷ statuses) known found zero low = let here : at ≡ at + 0 = omega arith in ap (joined_state status known found) here
joined-at at (status ∷ statuses) known found (suc j) low =
    let next : suc at + j ≡ at + suc j = omega arith in
    joined-at (suc at) statuses known found j (omega (arith, low)) ∙ ap (joined_state (get_or statuses j Untried) known found) next

pub joined-lost : (status : Status) (known found : List LostRun) (low high s : ℕ) → AreBetween low high found → is_some (joined_state status known found s) ≡ not (is_recovered status) || is_in found s
joined-lost status known found low high s p = either status (state_in known s) (state_in found s) ∙ ap (λ (x : Bool). not (is_recovered status) || x) (state-in low high found s p)
  where
    either : (status : Status) (before x : SectorState) → is_some (or_before status before x) ≡ (not (is_recovered status) || is_some x)
    either Untried before None = refl
    either Untrimmed before None = refl
    either Unscraped before None = refl
    either Bad before None = refl
    either Recovered before None = refl
    either Untried before (Some loss) = refl
    either Untrimmed before (Some loss) = refl
    either Unscraped before (Some loss) = refl
    either Bad before (Some loss) = refl
    either Recovered before (Some loss) = refl
