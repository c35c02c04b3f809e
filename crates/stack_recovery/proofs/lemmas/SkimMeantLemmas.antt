-- What a pass in large pieces finds over leaves that are steady and never fail.
use Rattle.std.proofs.Common.{Bool, ◌≡◌, ◌⊎◌, ℕ, zero, suc, ◌+◌, ◌-◌, ◌<◌, List, [], ◌∷◌, ◌++◌, length, get_or, replicate, true, false, None, inl, inr, refl, sym, ap, ◌∙◌, subst, arith}
use Rattle.std.proofs.lemmas.Bool.{cases_lt, false≢true}
use Rattle.std.proofs.lemmas.List.{get_or-append_right, get_or-replicate, get_or_append_left, length-append, length-replicate}
use Rattle.stack_rules.specs.Names.{mapped}
use Rattle.stack_meaning.specs.Leaves.{steady_images}
use Rattle.stack_meaning.specs.LeavesBeneath.{stands_on}
use Rattle.stack_meaning.specs.Meaning.{sector}
use Rattle.stack_engine.specs.Stacks.{StackRecord}
use Rattle.stack_recovery.specs.Laws.{AreSure, meant_state}
use Rattle.stack_recovery.specs.Skims.{AreSkims, IsSkimFound, IsSkimOver, Skim, failed_of, is_failed, is_read, marks_of, skim_failed, skim_marks}
use Rattle.stack_recovery.specs.PassLaws.{AreUnskipped}
use Rattle.stack_recovery.specs.PassPieces.{Pass}
use Rattle.stack_recovery.specs.Surveys.{Finding, IsPieceSurveyed, again, copied, had, kept, lost, probed, trimmed}
use Rattle.stack_recovery.proofs.AheadLemmas.{marks-none}
use Rattle.stack_recovery.proofs.SkimLawLemmas.{still-none, sweeps-all}
use Rattle.stack_recovery.proofs.lemmas.MeantLemmas.{IsLeft, left-state, meant-byte, piece-left, same-left, then-left}

-- a sector that is marked lies in one of two lists
marked-apart : (xs ys : List Bool) (k : ℕ) → get_or (xs ++ ys) k false ≡ true → ((k < length xs) × (get_or xs k false ≡ true)) ⊎ ((j : ℕ) × (k ≡ length xs + j) × (get_or ys j false ≡ true))
marked-apart [] ys k e = inr (k, omega arith, e)
marked-apart (x ∷ xs) ys zero e = inl (omega arith, e)
marked-apart (x ∷ xs) ys (suc k) e = next (marked-apart xs ys k e)
  where
    next : ((k < length xs) × (get_or xs k false ≡ true)) ⊎ ((j : ℕ) × (k ≡ length xs + j) × (get_or ys j false ≡ true))
        → ((suc k < length (x ∷ xs)) × (get_or (x ∷ xs) (suc k) false ≡ true)) ⊎ ((j : ℕ) × (suc k ≡ length (x ∷ xs) + j) × (get_or ys j false ≡ true))
    next (inl p) = inl (omega (arith, p.0), p.1)
    next (inr p) = inr (p.0, omega (arith, p.1), p.2)

unmarked : (n k : ℕ) → get_or (replicate n false) k false ≡ true → ⊥
unmarked n k e = false≢true (marks-none n k ∙ e)

-- of a piece the sectors that are marked, but weren't before, were read
piece-known : (before : List Bool) (d first : ℕ) (w : StackRecord) (n : ℕ) (found : Finding) (after : StackRecord)
    → IsPieceSurveyed before d first w (record { count = n; found = found; after = after }) → AreSure w.config (λ i. stands_on w.config i (mapped d)) w.leaves → (k : ℕ) → k < n → is_read found ≡ true → get_or before (first + k) false ≡ false
    → meant_state (sector w.config (steady_images w.leaves) (mapped d) (first + k)) ≡ None
piece-known before d first w n (had bytes) after p sure k low is new = meant-byte (sector w.config (steady_images w.leaves) (mapped d)) first n bytes (p.answered.steady (record { steady = sure.steady; agrees = λ meets. sure.agrees })).exact k low
piece-known before d first w n (lost fault) after p sure k low is new = absurd (false≢true is)
piece-known before d first w n (again fault) after p sure k low is new = absurd (false≢true is)
piece-known before d first w n (probed behind bytes) after p sure k low is new = absurd (false≢true is)
piece-known before d first w n (trimmed behind fault) after p sure k low is new = absurd (false≢true is)
piece-known before d first w n copied after p sure k low is new = absurd (false≢true is)
piece-known before d first w n kept after p sure k low is new = absurd (false≢true (sym new ∙ p.marked k low))

-- of a piece and those after it
module _ (before : List Bool) (d first : ℕ) (w : StackRecord) (s : Skim) (more : List Skim) (p : IsPieceSurveyed before d first w s.piece)
    (sure : AreSure w.config (λ i. stands_on w.config i (mapped d)) w.leaves) (left : IsLeft d w s.piece.after)
    (rest : (k : ℕ) → get_or (skim_marks more) k false ≡ true → get_or before (first + length (marks_of s) + k) false ≡ false → meant_state (sector s.piece.after.config (steady_images s.piece.after.leaves) (mapped d) (first + length (marks_of s) + k)) ≡ None) where
  within : (k : ℕ) → ((k < length (replicate s.piece.count (is_read s.piece.found))) × (get_or (replicate s.piece.count (is_read s.piece.found)) k false ≡ true))
      ⊎ ((j : ℕ) × (k ≡ length (replicate s.piece.count (is_read s.piece.found)) + j) × (get_or (replicate s.skip false) j false ≡ true)) → get_or before (first + k) false ≡ false → meant_state (sector w.config (steady_images w.leaves) (mapped d) (first + k)) ≡ None
  within k (inl x) new =
      let low : k < s.piece.count = omega (arith, x.0, length-replicate {A = Bool} s.piece.count (is_read s.piece.found)) in
      piece-known before d first w s.piece.count s.piece.found s.piece.after p sure k low (sym (get_or-replicate s.piece.count k (is_read s.piece.found) false low) ∙ x.1) new
  within k (inr x) new = absurd (unmarked s.skip x.0 x.2)

  apart : (k : ℕ) → ((k < length (marks_of s)) × (get_or (marks_of s) k false ≡ true)) ⊎ ((j : ℕ) × (k ≡ length (marks_of s) + j) × (get_or (skim_marks more) j false ≡ true)) → get_or before (first + k) false ≡ false → meant_state (sector w.config (steady_images w.leaves) (mapped d) (first + k)) ≡ None
  apart k (inl x) new = within k (marked-apart (replicate s.piece.count (is_read s.piece.found)) (replicate s.skip false) k x.1) new
  apart k (inr x) new =
      let at : first + k ≡ first + length (marks_of s) + x.0 = omega (arith, x.1) in
      ap (λ (t : ℕ). meant_state (sector w.config (steady_images w.leaves) (mapped d) t)) at ∙ sym (left-state d w s.piece.after (first + length (marks_of s) + x.0) left) ∙ rest x.0 x.2 (ap (λ (t : ℕ). get_or before t false) (sym at) ∙ new)

  skim-known : (k : ℕ) → get_or (skim_marks (s ∷ more)) k false ≡ true → get_or before (first + k) false ≡ false → meant_state (sector w.config (steady_images w.leaves) (mapped d) (first + k)) ≡ None
  skim-known k e new = apart k (marked-apart (marks_of s) (skim_marks more) k e) new

-- what the pass leaves, and that the sectors that it marks, but weren't marked before, mean bytes
pub skims-known : (before : List Bool) (d first : ℕ) (w : StackRecord) (skims : List Skim) (w' : StackRecord) → IsSkimOver before d first w skims w'
    → AreSure w.config (λ i. stands_on w.config i (mapped d)) w.leaves
    → IsLeft d w w' × ((k : ℕ) → get_or (skim_marks skims) k false ≡ true → get_or before (first + k) false ≡ false → meant_state (sector w.config (steady_images w.leaves) (mapped d) (first + k)) ≡ None)
skims-known before d first w [] w' h sure = (same-left d w w' h sure, λ k e new. absurd (false≢true e))
skims-known before d first w (s ∷ more) w' h sure =
    let left : IsLeft d w s.piece.after = piece-left before d first w s.piece.count s.piece.found s.piece.after h.0 sure in
    let rest = skims-known before d (first + length (marks_of s)) s.piece.after more w' h.1 left.sure in
    (then-left d w s.piece.after w' left rest.0, skim-known before d first w s more h.0 sure left rest.1)

-- a piece of it that wasn't read failed
failed-found : (p : Pass) (first wanted n : ℕ) (found : Finding) (skip : ℕ) → IsSkimFound p first wanted n found skip → is_read found ≡ false → is_failed found ≡ true
failed-found p first wanted n (had bytes) skip h e = absurd (false≢true (sym e))
failed-found p first wanted n (lost fault) skip h e = absurd h
failed-found p first wanted n (again fault) skip h e = refl
failed-found p first wanted n (probed behind bytes) skip h e = absurd h
failed-found p first wanted n (trimmed behind fault) skip h e = absurd h
failed-found p first wanted n copied skip h e = absurd h
failed-found p first wanted n kept skip h e = absurd (false≢true (sym e))

-- of a pass that skips nothing each sector was read, now or before, or is in a failed piece
pub unskipped-failed : (p : Pass) (first : ℕ) (skims : List Skim) → AreSkims 0 p first 0 skims → (k : ℕ) → k < length (skim_marks skims) → get_or (skim_marks skims) k false ≡ false → get_or (skim_failed skims) k false ≡ true
unskipped-failed p first [] h k low e = absurd (omega (arith, low))
unskipped-failed p first (s ∷ more) h k low e = elim (cases_lt k s.piece.count) [
  | inl here ↦
      let read : is_read s.piece.found ≡ false = sym (get_or_append_left (marks_of s) (skim_marks more) false k (omega (arith, here, marks-length)) ∙ get_or_append_left (replicate s.piece.count (is_read s.piece.found)) (replicate s.skip false) false k (omega (arith, here, length-replicate {A = Bool} s.piece.count (is_read s.piece.found))) ∙ get_or-replicate s.piece.count k (is_read s.piece.found) false here) ∙ e in
      get_or_append_left (failed_of s) (skim_failed more) false k (omega (arith, here, failed-length))
      ∙ get_or_append_left (replicate s.piece.count (is_failed s.piece.found)) (replicate s.skip false) false k (omega (arith, here, length-replicate {A = Bool} s.piece.count (is_failed s.piece.found)))
      ∙ get_or-replicate s.piece.count k (is_failed s.piece.found) false here ∙ failed-found p first 0 s.piece.count s.piece.found s.skip h.0 read
  | inr past ↦
      let few : k - s.piece.count < length (skim_marks more) = omega (arith, past, low, marks-length, length-append (marks_of s) (skim_marks more)) in
      let mark : get_or (skim_marks more) (k - s.piece.count) false ≡ false = sym (get_or-append_right (marks_of s) (skim_marks more) s.piece.count k false marks-length past) ∙ e in
      get_or-append_right (failed_of s) (skim_failed more) s.piece.count k false failed-length past ∙ unskipped-failed p (first + length (marks_of s)) more later (k - s.piece.count) few mark
]
  where
    all : AreUnskipped (s ∷ more)
    all = sweeps-all p first (s ∷ more) h

    later : AreSkims 0 p (first + length (marks_of s)) 0 more
    later = subst (λ (w : ℕ). AreSkims 0 p (first + length (marks_of s)) w more) (still-none s.piece.found) h.1

    marks-length : length (marks_of s) ≡ s.piece.count
    marks-length =
        length-append (replicate s.piece.count (is_read s.piece.found)) (replicate s.skip false)
        ∙ omega (arith, all.0, length-replicate {A = Bool} s.piece.count (is_read s.piece.found), length-replicate {A = Bool} s.skip false)

    failed-length : length (failed_of s) ≡ s.piece.count
    failed-length =
        length-append (replicate s.piece.count (is_failed s.piece.found)) (replicate s.skip false)
        ∙ omega (arith, all.0, length-replicate {A = Bool} s.piece.count (is_failed s.piece.found), length-replicate {A = Bool} s.skip false)
