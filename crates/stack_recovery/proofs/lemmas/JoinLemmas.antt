-- The lost runs that a pass found, among the bad sectors that it left.
use Rattle.std.proofs.Common.{◌≡◌, ℕ, zero, suc, ◌+◌, ◌<◌, ◌≤◌, ◌==◌, Bool, true, false, cond, List, [], ◌∷◌, ◌++◌, length, drop, get_or, replicate, Option, Some, None, refl, sym, ap, ap₂, ◌∙◌, subst, append-nil, append_assoc, inl, inr, arith}
use Rattle.std.specs.Prelude.{nat_le, nat_lt}
use Rattle.std.proofs.lemmas.Bool.{and_parts, cases_lt, cond-false, cond-true, eqb-true}
use Rattle.std.proofs.lemmas.List.{length-append, length-replicate}
use Rattle.rescue_map.specs.declared.ahead.Ahead.{Ahead}
use Rattle.rescue_map.specs.declared.status.Status.{Status}
use Rattle.rescue_map.specs.Aheads.{marks_ahead, statuses_ahead}
use Rattle.rescue_map.specs.Maps.{marks}
use Rattle.rescue_map.specs.Stages.{run_status, statuses}
use Rattle.rescue_map.proofs.lemmas.RunLemmas.{statuses-length}
use Rattle.runs.specs.Runs.{follows, run, run_before, runs_of}
use Rattle.runs.specs.Tallies.{listed}
use Rattle.runs.proofs.lemmas.RunLemmas.{IsTallied, tallied-all, tallied-had, tallied-lost, tallied-none}
use Rattle.stack_recovery.specs.declared.lost_run.Loss.{Loss}
use Rattle.stack_recovery.specs.declared.lost_run.Loss.TheVariants.{Lost, Unscraped}
use Rattle.stack_recovery.specs.declared.tally.Tally.{Tally}
use Rattle.stack_recovery.specs.Joins.{AreSameFrom, EndsAfter, HaveJoined, HaveState, closed_with, joined_state, joined_states, opened_with, or_before, state_in}
use Rattle.stack_recovery.specs.Listings.{Listed, Tells}
use Rattle.stack_recovery.specs.LostRuns.{LostRun, is_same_loss, lost_count, untried_count}
use Rattle.stack_recovery.specs.Surveys.{SectorState}
use Rattle.stack_recovery.proofs.lemmas.WritingLemmas.{runs-then, tells_nothing}
use Rattle.stack_recovery.proofs.LostRunLemmas.{is_same-equality}

lt-true : (a b : ℕ) → a < b → nat_lt a b ≡ true
lt-true a b low = grind (arith, low)

lt-false : (a b : ℕ) → b ≤ a → nat_lt a b ≡ false
lt-false a b low = grind (arith, low)

le-true : (a b : ℕ) → a ≤ b → nat_le a b ≡ true
le-true a b low = grind (arith, low)

le-false : (a b : ℕ) → b < a → nat_le a b ≡ false
le-false a b low = grind (arith, low)

-- ---- runs that end before a sector

pub state-skip : (runs : List LostRun) (d : LostRun) (s : ℕ) → 1 ≤ length runs → (get_or runs 0 d).first + (get_or runs 0 d).count ≤ s → state_in runs s ≡ state_in (drop 1 runs) s
state-skip [] d s some ends = absurd (omega (arith, some))
state-skip (r ∷ more) d s some ends = cond-false (nat_lt s (r.first + r.count)) _ _ (lt-false s (r.first + r.count) ends)

pub ends_after-none : (at : ℕ) (runs : List LostRun) → length runs ≡ 0 → EndsAfter at runs
ends_after-none at [] none = tt
ends_after-none at (r ∷ more) none = absurd (omega (arith, none))

pub ends_after-first : (at : ℕ) (runs : List LostRun) (d : LostRun) → 1 ≤ length runs → at < (get_or runs 0 d).first + (get_or runs 0 d).count → EndsAfter at runs
ends_after-first at [] d some low = absurd (omega (arith, some))
ends_after-first at (r ∷ more) d some low = low

pub first-ends_after : (at : ℕ) (runs : List LostRun) (d : LostRun) → 1 ≤ length runs → EndsAfter at runs → at < (get_or runs 0 d).first + (get_or runs 0 d).count
first-ends_after at [] d some low = absurd (omega (arith, some))
first-ends_after at (r ∷ more) d some low = low

-- ---- the state of some sectors

pub have-none : (runs : List LostRun) (at n : ℕ) → length runs ≡ 0 → HaveState runs at n None
have-none [] at n none j low = refl
have-none (r ∷ more) at n none j low = absurd (omega (arith, none))

pub have-before : (runs : List LostRun) (d : LostRun) (at n : ℕ) → 1 ≤ length runs → EndsAfter at runs → at + n ≤ (get_or runs 0 d).first → HaveState runs at n None
have-before [] d at n some ends first j low = absurd (omega (arith, some))
have-before (r ∷ more) d at n some ends first j low =
    cond-true (nat_lt (at + j) (r.first + r.count)) _ _ (lt-true (at + j) (r.first + r.count) (omega (arith, low, first)))
    ∙ cond-false (nat_le r.first (at + j)) _ _ (le-false r.first (at + j) (omega (arith, low, first)))

pub have-within : (runs : List LostRun) (d : LostRun) (at n : ℕ) → 1 ≤ length runs → (get_or runs 0 d).first ≤ at → at + n ≤ (get_or runs 0 d).first + (get_or runs 0 d).count → HaveState runs at n (Some (get_or runs 0 d).kind)
have-within [] d at n some first end j low = absurd (omega (arith, some))
have-within (r ∷ more) d at n some first end j low =
    cond-true (nat_lt (at + j) (r.first + r.count)) _ _ (lt-true (at + j) (r.first + r.count) (omega (arith, low, end)))
    ∙ cond-true (nat_le r.first (at + j)) _ _ (le-true r.first (at + j) (omega (arith, first)))

pub have-joined : (status : Status) (earlier runs : List LostRun) (at n m : ℕ) (before found loss : SectorState) → HaveState runs at n found → HaveState earlier at m before → m ≤ n → loss ≡ or_before status before found
    → HaveJoined status earlier runs at m loss
have-joined status earlier runs at n m before found loss last first few is j low =
    ap₂ (or_before status) (first j low) (last j (omega (arith, low, few))) ∙ sym is

-- ---- the states of all sectors

states-same : (at : ℕ) (bads : List Status) (before before' runs runs' : List LostRun) → AreSameFrom at before before' → AreSameFrom at runs runs' → joined_states at bads before runs ≡ joined_states at bads before' runs'
states-same at [] before before' runs runs' first last = refl
states-same at (status ∷ bads) before before' runs runs' first last =
    let here : joined_state status before runs at ≡ joined_state status before' runs' at = ap₂ (or_before status) (first at (omega arith)) (last at (omega arith)) in
    ap (λ (s : SectorState). s ∷ joined_states (suc at) bads before runs) here
    ∙ ap (λ (l : List SectorState). joined_state status before' runs' at ∷ l) (states-same (suc at) bads before before' runs runs' (λ s low. first s (omega (arith, low))) (λ s low. last s (omega (arith, low))))

states-alike : (at n : ℕ) (status : Status) (rest : List Status) (before runs : List LostRun) (state : SectorState) → HaveJoined status before runs at n state
    → joined_states at (replicate n status ++ rest) before runs ≡ replicate n state ++ joined_states (at + n) rest before runs
states-alike at zero status rest before runs state have = let here : at ≡ at + 0 = omega arith in ap (λ (k : ℕ). joined_states k rest before runs) here
states-alike at (suc n) status rest before runs state have =
    let first : at + 0 ≡ at = omega arith in
    let next : suc at + n ≡ at + suc n = omega arith in
    ap (λ (s : SectorState). s ∷ joined_states (suc at) (replicate n status ++ rest) before runs) (ap (λ (k : ℕ). joined_state status before runs k) (sym first) ∙ have 0 (omega arith))
    ∙ ap (λ (l : List SectorState). state ∷ l) (states-alike (suc at) n status rest before runs state
    (λ j low. let step : suc at + j ≡ at + suc j = omega arith in ap (λ (k : ℕ). joined_state status before runs k) step ∙ have (suc j) (omega (arith, low))))
    ∙ ap (λ (k : ℕ). state ∷ (replicate n state ++ joined_states k rest before runs)) next

-- ---- the runs that were reported

-- the sectors before `at` were added to the tally, and what comes after them is ahead
pub record IsJoining (bads : List Status) (earlier found : List LostRun) (old now : Listed) (tally : Tally) (at : ℕ) (left : List Status) (before rest : List LostRun) : Type 0 where
  pub done : List SectorState
  pub closed : List LostRun
  pub tallied : IsTallied is_same_loss done closed tally.last
  pub here : at ≡ length done
  pub whole : joined_states 0 bads earlier found ≡ done ++ joined_states at left before rest
  pub told : Tells old now closed
  pub few : tally.lost + tally.untried ≤ at

pub joining-none : (bads : List Status) (earlier found : List LostRun) (old : Listed) (tally : Tally) → tally ≡ record { last = None; lost = 0; untried = 0 } → IsJoining bads earlier found old old tally 0 bads earlier found
joining-none bads earlier found old tally is = rw is (record {
  done = [];
  closed = [];
  tallied = tallied-none is_same_loss is_same-equality;
  here = refl;
  whole = refl;
  told = tells_nothing old;
  few = omega arith;
})

tallied-with : (states : List SectorState) (closed : List LostRun) (last : Option LostRun) (at n : ℕ) (state : SectorState) → at ≡ length states → 1 ≤ n → IsTallied is_same_loss states closed last
    → IsTallied is_same_loss (states ++ replicate n state) (closed ++ closed_with last at n state) (opened_with last at n state)
tallied-with states closed last at n None here some t = tallied-had is_same_loss is_same-equality states closed last n some t
tallied-with states closed last at n (Some kind) here some t = tallied-lost is_same_loss is_same-equality states closed last at n kind here some t

pub joining-more : (bads : List Status) (earlier found : List LostRun) (old now new : Listed) (tally next : Tally) (at n : ℕ) (status : Status) (left left' : List Status) (before before' rest rest' : List LostRun) (state : SectorState)
    → IsJoining bads earlier found old now tally at left before rest → AreSameFrom at before before' → AreSameFrom at rest rest' → left ≡ replicate n status ++ left' → 1 ≤ n → HaveJoined status before' rest' at n state
    → Tells now new (closed_with tally.last at n state) → next.last ≡ opened_with tally.last at n state → next.lost + next.untried ≤ at + n
    → IsJoining bads earlier found old new next (at + n) left' before' rest'
joining-more bads earlier found old now new tally next at n status left left' before before' rest rest' state u first same is some have told last few = record {
  done = u.done ++ replicate n state;
  closed = u.closed ++ closed_with tally.last at n state;
  tallied = rw last (tallied-with u.done u.closed tally.last at n state u.here some u.tallied);
  here = ap (λ (k : ℕ). k + n) u.here ∙ ap (λ (k : ℕ). length u.done + k) (sym (length-replicate {A = SectorState} n state)) ∙ sym (length-append u.done (replicate n state));
  whole = u.whole ∙ ap (λ (l : List SectorState). u.done ++ l) (states-same at left before before' rest rest' first same ∙ ap (λ (l : List Status). joined_states at l before' rest') is ∙ states-alike at n status left' before' rest' state have)
      ∙ sym (append_assoc u.done (replicate n state) (joined_states (at + n) left' before' rest'));
  told = runs-then old now new u.closed (closed_with tally.last at n state) u.told told;
  few = few;
}

pub joining-all : (bads : List Status) (earlier found : List LostRun) (old now new : Listed) (tally : Tally) (at : ℕ) (left : List Status) (before rest : List LostRun)
    → IsJoining bads earlier found old now tally at left before rest → length left ≡ 0 → Tells now new (listed tally.last) → Tells old new (runs_of is_same_loss 0 (joined_states 0 bads earlier found))
joining-all bads earlier found old now new tally at (status ∷ left) before rest u none told = absurd (omega (arith, none))
joining-all bads earlier found old now new tally at [] before rest u none told =
    subst (λ (l : List LostRun). Tells old new l) (sym (ap (runs_of is_same_loss 0) (u.whole ∙ append-nil u.done) ∙ tallied-all is_same_loss is_same-equality u.done u.closed tally.last u.tallied))
    (runs-then old now new u.closed (listed tally.last) u.told told)

pub count-sum : (loss : Loss) (n : ℕ) → lost_count loss n + untried_count loss n ≡ n
count-sum (Lost fault) n = omega arith
count-sum (Unscraped fault) n = omega arith

-- ---- what is ahead in a map

ahead-parts : (a : Ahead) → length (marks_ahead a) ≡ a.first.count + length (marks a.rest.now)
ahead-parts a = length-append (replicate a.first.count a.first.had) (marks a.rest.now) ∙ ap (λ (n : ℕ). n + length (marks a.rest.now)) (length-replicate {A = Bool} a.first.count a.first.had)

pub ahead-first : (a : Ahead) → a.first.count ≤ length (marks_ahead a)
ahead-first a = omega (arith, ahead-parts a)

pub statuses_ahead-length : (a : Ahead) → length (statuses_ahead a) ≡ length (marks_ahead a)
statuses_ahead-length a =
    length-append (replicate a.first.count (run_status a.first)) (statuses a.rest.now) ∙ ap (λ (n : ℕ). n + length (statuses a.rest.now)) (length-replicate {A = Status} a.first.count (run_status a.first))
    ∙ ap (λ (n : ℕ). a.first.count + n) (statuses-length a.rest.now) ∙ sym (ahead-parts a)

pub ahead-passed : (n : ℕ) (had : Bool) (old new : List Bool) → old ≡ replicate n had ++ new → length old ≡ n + length new
ahead-passed n had old new is = ap length is ∙ length-append (replicate n had) new ∙ ap (λ (m : ℕ). m + length new) (length-replicate {A = Bool} n had)

-- ---- the state of a sector by the runs of some states

-- the first run begins at a sector or later
abbrev BeginFrom : ℕ → List LostRun → Type 0
BeginFrom low [] = Unit {0}
BeginFrom low (r ∷ more) = low ≤ r.first

begin-before : (s : ℕ) (f : Loss) (rs : List LostRun) → BeginFrom s (run_before is_same_loss (run s 1 f) rs)
begin-before s f [] = omega arith
begin-before s f (b ∷ more) = split (follows is_same_loss (run s 1 f) b)
  where
    split : (e : Bool) → BeginFrom s (cond e (run s (1 + b.count) f ∷ more) (run s 1 f ∷ b ∷ more))
    split true = omega arith
    split false = omega arith

begin-runs : (low s : ℕ) (states : List SectorState) → low ≤ s → BeginFrom low (runs_of is_same_loss s states)
begin-runs low s [] le = tt
begin-runs low s (None ∷ more) le = begin-runs low (suc s) more (omega (arith, le))
begin-runs low s (Some f ∷ more) le = lower (run_before is_same_loss (run s 1 f) (runs_of is_same_loss (suc s) more)) (begin-before s f (runs_of is_same_loss (suc s) more))
  where
    lower : (rs : List LostRun) → BeginFrom s rs → BeginFrom low rs
    lower [] p = tt
    lower (r ∷ rs) p = omega (arith, le, p)

state-early : (low : ℕ) (rs : List LostRun) (t : ℕ) → BeginFrom low rs → t < low → state_in rs t ≡ None
state-early low [] t p early = refl
state-early low (r ∷ more) t p early =
    cond-true (nat_lt t (r.first + r.count)) (cond (nat_le r.first t) (Some r.kind) None) (state_in more t) (lt-true t (r.first + r.count) (omega (arith, p, early)))
    ∙ cond-false (nat_le r.first t) (Some r.kind) None (le-false r.first t (omega (arith, p, early)))

-- a sector of the first run, and one after it
state-within : (r : LostRun) (more : List LostRun) (t : ℕ) → r.first ≤ t → t < r.first + r.count → state_in (r ∷ more) t ≡ Some r.kind
state-within r more t from to =
    cond-true (nat_lt t (r.first + r.count)) (cond (nat_le r.first t) (Some r.kind) None) (state_in more t) (lt-true t (r.first + r.count) to)
    ∙ cond-true (nat_le r.first t) (Some r.kind) None (le-true r.first t from)

state-past : (r : LostRun) (more : List LostRun) (t : ℕ) → r.first + r.count ≤ t → state_in (r ∷ more) t ≡ state_in more t
state-past r more t past = cond-false (nat_lt t (r.first + r.count)) (cond (nat_le r.first t) (Some r.kind) None) (state_in more t) (lt-false t (r.first + r.count) past)

-- a sector in front of runs
state-here : (s : ℕ) (f : Loss) (rs : List LostRun) → state_in (run_before is_same_loss (run s 1 f) rs) s ≡ Some f
state-here s f [] = state-within (run s 1 f) [] s (omega arith) (omega arith)
state-here s f (b ∷ more) = split (follows is_same_loss (run s 1 f) b)
  where
    split : (e : Bool) → state_in (cond e (run s (1 + b.count) f ∷ more) (run s 1 f ∷ b ∷ more)) s ≡ Some f
    split true = state-within (run s (1 + b.count) f) more s (omega arith) (omega arith)
    split false = state-within (run s 1 f) (b ∷ more) s (omega arith) (omega arith)

state-later : (s : ℕ) (f : Loss) (rs : List LostRun) (t : ℕ) → s < t → state_in (run_before is_same_loss (run s 1 f) rs) t ≡ state_in rs t
state-later s f [] t later = state-past (run s 1 f) [] t (omega (arith, later))
state-later s f (b ∷ more) t later = split (follows is_same_loss (run s 1 f) b) refl
  where
    split : (e : Bool) → follows is_same_loss (run s 1 f) b ≡ e → state_in (cond e (run s (1 + b.count) f ∷ more) (run s 1 f ∷ b ∷ more)) t ≡ state_in (b ∷ more) t
    split true e =
        let parts = and_parts (b.first == (s + 1)) (is_same_loss f b.kind) e in
        let at : b.first ≡ s + 1 = eqb-true b.first (s + 1) parts.0 in
        let same : f ≡ b.kind = is_same-equality.equal f b.kind parts.1 in
        elim (cases_lt t (b.first + b.count)) [
          | inl inside ↦
              state-within (run s (1 + b.count) f) more t (omega (arith, later)) (omega (arith, at, inside)) ∙ ap (λ (x : Loss). Some x) same
              ∙ sym (state-within b more t (omega (arith, at, later)) inside)
          | inr past ↦ state-past (run s (1 + b.count) f) more t (omega (arith, at, past)) ∙ sym (state-past b more t past)
        ]
    split false e = state-past (run s 1 f) (b ∷ more) t (omega (arith, later))

-- the state of a sector by the longest runs
pub state-runs : (s : ℕ) (states : List SectorState) (j : ℕ) → state_in (runs_of is_same_loss s states) (s + j) ≡ get_or states j None
state-runs s [] zero = refl
state-runs s [] (suc j) = refl
state-runs s (None ∷ more) zero = state-early (suc s) (runs_of is_same_loss (suc s) more) (s + 0) (begin-runs (suc s) (suc s) more (omega arith)) (omega arith)
state-runs s (None ∷ more) (suc j) = let next : s + suc j ≡ suc s + j = omega arith in ap (state_in (runs_of is_same_loss (suc s) more)) next ∙ state-runs (suc s) more j
state-runs s (Some f ∷ more) zero =
    let here : s + 0 ≡ s = omega arith in
    ap (state_in (run_before is_same_loss (run s 1 f) (runs_of is_same_loss (suc s) more))) here ∙ state-here s f (runs_of is_same_loss (suc s) more)
state-runs s (Some f ∷ more) (suc j) =
    let next : s + suc j ≡ suc s + j = omega arith in
    state-later s f (runs_of is_same_loss (suc s) more) (s + suc j) (omega arith) ∙ ap (state_in (runs_of is_same_loss (suc s) more)) next ∙ state-runs (suc s) more j
