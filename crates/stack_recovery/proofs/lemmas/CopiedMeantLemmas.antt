-- What the sectors of a pass mean over leaves that are steady and never fail, those too that it copied backwards.
use Rattle.std.proofs.Common.{Bool, ◌≡◌, ℕ, eqb, ◌+◌, ◌-◌, ◌<◌, ◌≤◌, List, [], ◌∷◌, ◌++◌, length, get_or, replicate, true, false, cond, Some, None, Ok, inl, inr, refl, sym, ap, ap₂, ◌∙◌, subst, arith}
use Rattle.std.proofs.lemmas.Bool.{cases_lt, false≢true}
use Rattle.std.proofs.lemmas.List.{get_or-append_right, get_or-replicate, get_or_append_left, length-append, length-replicate}
use Rattle.stack_rules.specs.Names.{mapped}
use Rattle.stack_meaning.specs.Leaves.{steady_images}
use Rattle.stack_meaning.specs.LeavesBeneath.{stands_on}
use Rattle.stack_meaning.specs.Meaning.{sector}
use Rattle.stack_engine.specs.Bytes.{EachBytes}
use Rattle.stack_engine.specs.Stacks.{StackRecord}
use Rattle.stack_recovery.specs.Laws.{AreSure, meant_state}
use Rattle.stack_recovery.specs.declared.lost_run.Loss.TheVariants.{Lost, Unscraped}
use Rattle.stack_recovery.specs.PassPieces.{AreInPieces, IsCopiedTo, IsPieceFound, IsProbedTo, Pass, Scanned, way_found, way_lost, way_probed, way_trimmed}
use Rattle.stack_recovery.specs.Surveys.{Finding, IsPieceSurveyed, IsSurveyOver, PieceRead, SectorState, again, all_states, copied, had, kept, lost, probed, states_found, states_of, trimmed}
use Rattle.stack_recovery.specs.declared.way.Way.{Way}
use Rattle.stack_recovery.specs.declared.way.Way.TheVariants.{Backward, Forward, Turned}
use Rattle.stack_recovery.proofs.lemmas.MeantLemmas.{IsLeft, left-state, lost-each, meant-byte, piece-left}

-- ---- the sectors that were copied backwards

-- what a sector of device d means to a stack
abbrev pub meant_at : ℕ → StackRecord → ℕ → SectorState
meant_at d w s = meant_state (sector w.config (steady_images w.leaves) (mapped d) s)

-- they mean bytes
abbrev pub IsCopiedMeant : ℕ → StackRecord → Way → Type 0
IsCopiedMeant d w Forward = Unit {0}
IsCopiedMeant d w Turned = Unit {0}
IsCopiedMeant d w (Backward low end) = (s : ℕ) → low ≤ s → s < end → meant_at d w s ≡ None

-- one of the sectors of a piece of them
copied-each : (d : ℕ) (w : StackRecord) (first : ℕ) (way : Way) (n : ℕ) → IsCopiedMeant d w way → IsCopiedTo first way (first + n) → (k : ℕ) → k < n → meant_at d w (first + k) ≡ None
copied-each d w first Forward n known h k few = absurd h
copied-each d w first Turned n known h k few = absurd h
copied-each d w first (Backward low end) n known h k few = known (first + k) (omega (arith, h.0)) (omega (arith, h.1, few))

lost-way : (no_scrape : Bool) (d : ℕ) (w : StackRecord) → IsCopiedMeant d w (way_lost no_scrape)
lost-way true d w = tt
lost-way false d w = tt

kept-way : (b no_scrape : Bool) (d : ℕ) (w : StackRecord) → IsCopiedMeant d w (cond b (way_lost no_scrape) Forward)
kept-way true no_scrape d w = lost-way no_scrape d w
kept-way false no_scrape d w = tt

module _ (marks : List Bool) (d first : ℕ) (w : StackRecord) (sure : AreSure w.config (λ i. stands_on w.config i (mapped d)) w.leaves) where
  -- after a read they mean the same
  copied-still : (way : Way) (after : StackRecord) → IsLeft d w after → IsCopiedMeant d w way → IsCopiedMeant d after way
  copied-still Forward after left known = tt
  copied-still Turned after left known = tt
  copied-still (Backward low end) after left known = λ s from to. left-state d w after s left ∙ known s from to

  trimmed-still : (way : Way) (after : StackRecord) → IsLeft d w after → IsCopiedMeant d w way → IsCopiedMeant d after (way_trimmed way)
  trimmed-still Forward after left known = tt
  trimmed-still Turned after left known = tt
  trimmed-still (Backward low end) after left known = copied-still (Backward low end) after left known

  probed-each : (behind n : ℕ) (bytes : List ℕ) (after : StackRecord) → EachBytes w d (first + behind) (n - behind) (Ok bytes) after → (s : ℕ) → first + behind ≤ s → s < first + n → meant_at d w s ≡ None
  probed-each behind n bytes after read s from to =
      let here : first + behind + (s - (first + behind)) ≡ s = omega (arith, from) in
      ap (λ (t : ℕ). meant_at d w t) (sym here)
      ∙ meant-byte (sector w.config (steady_images w.leaves) (mapped d)) (first + behind) (n - behind) bytes (read.steady (record { steady = sure.steady; agrees = λ meets. sure.agrees })).exact (s - (first + behind)) (omega (arith, from, to))

  -- those of a piece that was read now, and those after it
  probed-way : (p : Pass) (way : Way) (behind n : ℕ) (bytes : List ℕ) (after : StackRecord) → IsCopiedMeant d w way → behind < n → IsProbedTo p first way (first + n) → EachBytes w d (first + behind) (n - behind) (Ok bytes) after
      → IsLeft d w after → IsCopiedMeant d after (way_probed way (first + behind) (first + n))
  probed-way p Forward behind n bytes after known some h read left = absurd h
  probed-way p Turned behind n bytes after known some h read left = λ s from to. left-state d w after s left ∙ probed-each behind n bytes after read s from to
  probed-way p (Backward low end) behind n bytes after known some h read left = λ s from to. left-state d w after s left ∙ elim (cases_lt s low) [
    | inl below ↦ probed-each behind n bytes after read s from (omega (arith, h, below))
    | inr above ↦ known s above to
  ]

  copied-after : (p : Pass) (way : Way) → IsCopiedMeant d w way → (scan : Scanned) (n : ℕ) (found : Finding) (after : StackRecord) → IsPieceSurveyed marks d first w (record { count = n; found = found; after = after })
      → IsPieceFound p first way n found → IsLeft d w after → IsCopiedMeant d after (way_found scan way first n found)
  copied-after p way known scan n (had bytes) after s h left = tt
  copied-after p way known scan n (lost fault) after s h left = lost-way scan.no_scrape d after
  copied-after p way known scan n (again fault) after s h left = tt
  copied-after p way known scan n (probed behind bytes) after s h left = probed-way p way behind n bytes after known s.may.0 h s.answered left
  copied-after p way known scan n (trimmed behind fault) after s h left = trimmed-still way after left known
  copied-after p way known scan n copied after s h left = tt
  copied-after p way known scan n kept after s h left = kept-way (eqb (first + n) scan.turned) scan.no_scrape d after

-- ---- the sectors of a scan

-- the state of a sector that was read is what it means, unless it is unscraped
abbrev pub IsMeantState : SectorState → SectorState → Type 0
IsMeantState None meant = meant ≡ None
IsMeantState (Some (Lost fault)) meant = meant ≡ Some (Lost fault)
IsMeantState (Some (Unscraped fault)) meant = Unit {0}

piece-each : (marks : List Bool) (d first : ℕ) (w : StackRecord) → AreSure w.config (λ i. stands_on w.config i (mapped d)) w.leaves → (p : Pass) (way : Way) → IsCopiedMeant d w way → (n : ℕ) (found : Finding) (after : StackRecord)
    → IsPieceSurveyed marks d first w (record { count = n; found = found; after = after }) → IsPieceFound p first way n found → (k : ℕ) → k < length (states_found n found) → get_or marks (first + k) false ≡ false
    → IsMeantState (get_or (states_found n found) k None) (meant_state (sector w.config (steady_images w.leaves) (mapped d) (first + k)))
piece-each marks d first w sure x way known n (had bytes) after p h k low new =
    let few : k < n = omega (arith, low, length-replicate {A = SectorState} n None) in
    subst (λ (x : SectorState). IsMeantState x (meant_state (sector w.config (steady_images w.leaves) (mapped d) (first + k)))) (sym (get_or-replicate {A = SectorState} n k None None few))
    (meant-byte (sector w.config (steady_images w.leaves) (mapped d)) first n bytes (p.answered.steady (record { steady = sure.steady; agrees = λ meets. sure.agrees })).exact k few)
piece-each marks d first w sure x way known n (lost fault) after p h k low new =
    let few : k < n = omega (arith, low, length-replicate {A = SectorState} n (Some (Lost fault))) in
    subst (λ (x : SectorState). IsMeantState x (meant_state (sector w.config (steady_images w.leaves) (mapped d) (first + k)))) (sym (get_or-replicate {A = SectorState} n k (Some (Lost fault)) None few))
    (lost-each d first w sure n after fault p.answered p.may.0 p.may.1 k few)
piece-each marks d first w sure x way known n (again fault) after p h k low new = absurd (omega (arith, low))
piece-each marks d first w sure x way known n (probed behind bytes) after p h k low new = absurd (omega (arith, low))
piece-each marks d first w sure x way known n (trimmed behind fault) after p h k low new = elim (cases_lt k behind) [
  | inl before ↦
      subst (λ (x : SectorState). IsMeantState x (meant_state (sector w.config (steady_images w.leaves) (mapped d) (first + k))))
      (sym (get_or_append_left (replicate behind (Some (Unscraped fault))) (replicate (n - behind) (Some (Lost fault))) None k (omega (arith, before, front-length)) ∙ get_or-replicate {A = SectorState} behind k (Some (Unscraped fault)) None before)) tt
  | inr from ↦
      let here : first + behind + (k - behind) ≡ first + k = omega (arith, from) in
      let few : k - behind < n - behind = omega (arith, from, low, both-length, p.may.0) in
      subst (λ (x : SectorState). IsMeantState x (meant_state (sector w.config (steady_images w.leaves) (mapped d) (first + k))))
      (sym (get_or-append_right (replicate behind (Some (Unscraped fault))) (replicate (n - behind) (Some (Lost fault))) behind k None front-length from ∙ get_or-replicate {A = SectorState} (n - behind) (k - behind) (Some (Lost fault)) None few))
      (ap (λ (t : ℕ). meant_state (sector w.config (steady_images w.leaves) (mapped d) t)) (sym here) ∙ lost-each d (first + behind) w sure (n - behind) after fault p.answered p.may.1.0 p.may.1.1 (k - behind) few)
]
  where
    front-length : length (replicate behind (Some (Unscraped fault))) ≡ behind
    front-length = length-replicate {A = SectorState} behind (Some (Unscraped fault))

    both-length : length (replicate behind (Some (Unscraped fault)) ++ replicate (n - behind) (Some (Lost fault))) ≡ behind + (n - behind)
    both-length =
        length-append (replicate behind (Some (Unscraped fault))) (replicate (n - behind) (Some (Lost fault)))
        ∙ ap₂ (λ (x y : ℕ). x + y) front-length (length-replicate {A = SectorState} (n - behind) (Some (Lost fault)))
piece-each marks d first w sure x way known n copied after p h k low new =
    let few : k < n = omega (arith, low, length-replicate {A = SectorState} n None) in
    subst (λ (s : SectorState). IsMeantState s (meant_at d w (first + k))) (sym (get_or-replicate {A = SectorState} n k None None few)) (copied-each d w first way n known h k few)
piece-each marks d first w sure x way known n kept after p h k low new =
    absurd (false≢true (sym new ∙ p.marked k (omega (arith, low, length-replicate {A = SectorState} n None))))

pub survey-each : (marks : List Bool) (d first : ℕ) (w : StackRecord) (reads : List PieceRead) (w' : StackRecord) (scan : Scanned) (p : Pass) (way : Way) → IsSurveyOver marks d first w reads w' → AreInPieces scan p first way reads → IsCopiedMeant d w way
    → AreSure w.config (λ i. stands_on w.config i (mapped d)) w.leaves → (k : ℕ) → k < length (all_states reads) → get_or marks (first + k) false ≡ false → IsMeantState (get_or (all_states reads) k None) (meant_at d w (first + k))
survey-each marks d first w [] w' scan p way s h known sure k low new = absurd (omega (arith, low))
survey-each marks d first w (r ∷ more) w' scan p way s h known sure k low new = elim (cases_lt k (length (states_of r))) [
  | inl here ↦
      subst (λ (x : SectorState). IsMeantState x (meant_at d w (first + k))) (sym (get_or_append_left (states_of r) (all_states more) None k here))
      (piece-each marks d first w sure p way known r.count r.found r.after s.0 h.0 k here new)
  | inr past ↦
      let left : IsLeft d w r.after = piece-left marks d first w r.count r.found r.after s.0 sure in
      let n : ℕ = length (states_of r) in
      let at : first + n + (k - n) ≡ first + k = omega (arith, past) in
      let few : k - n < length (all_states more) = omega (arith, past, low, length-append (states_of r) (all_states more)) in
      let next : IsCopiedMeant d r.after (way_found scan way first r.count r.found) = copied-after marks d first w sure p way known scan r.count r.found r.after s.0 h.0 left in
      let rest = survey-each marks d (first + n) r.after more w' scan p (way_found scan way first r.count r.found) s.1 h.1 next left.sure (k - n) few (ap (λ (t : ℕ). get_or marks t false) at ∙ new) in
      subst (λ (x : SectorState). IsMeantState x (meant_at d w (first + k))) (sym (get_or-append_right (states_of r) (all_states more) n k None refl past))
      (subst (λ (m : SectorState). IsMeantState (get_or (all_states more) (k - n) None) m) (left-state d w r.after (first + n + (k - n)) left ∙ ap (λ (t : ℕ). meant_at d w t) at) rest)
]
