-- What is found over leaves that are steady and never fail.
use Rattle.std.proofs.Common.{Bool, ◌≡◌, ◌≢◌, ℕ, zero, suc, ◌+◌, ◌-◌, ◌<◌, List, [], ◌∷◌, ◌++◌, length, get_or, replicate, true, false, Some, None, Ok, Err, inl, inr, refl, sym, ap, ◌∙◌, subst, arith}
use Rattle.std.proofs.lemmas.Bool.{cases_lt}
use Rattle.std.proofs.lemmas.List.{get_or-append_right, get_or-replicate, get_or_append_left, length-append, length-replicate}
use Rattle.block_device.specs.Device.{Device, in_memory}
use Rattle.stack_rules.specs.Names.{mapped}
use Rattle.stack_rules.specs.Records.{Configuration}
use Rattle.stack_meaning.specs.declared.fault.IoFault.{IoFault}
use Rattle.stack_meaning.specs.declared.fault.IoFault.TheVariants.{Stack, Device as DeviceFailed, NoMemory}
use Rattle.stack_meaning.specs.Agreement.{AgreesOn}
use Rattle.stack_meaning.specs.Leaves.{AreRead, steady_images}
use Rattle.stack_meaning.specs.LeavesBeneath.{stands_on}
use Rattle.stack_meaning.specs.Meaning.{sector}
use Rattle.stack_meaning.specs.declared.fault.Fault.{Fault}
use Rattle.stack_meaning.specs.Outcomes.{Images, Outcome, joint_outcome, span}
use Rattle.stack_engine.specs.Bytes.{EachBytes}
use Rattle.stack_engine.specs.Stacks.{StackRecord}
use Rattle.stack_meaning.proofs.lemmas.LeafListLemmas.{AreSteady-kept, images-kept, same_length}
use Rattle.stack_recovery.specs.Alike.{AreAlike}
use Rattle.stack_recovery.specs.Laws.{AreSure, MarksAreMeant, SurveysAreMeant, meant_state, meant_states}
use Rattle.stack_recovery.specs.declared.lost_run.Loss.TheVariants.{Lost, Unscraped}
use Rattle.stack_recovery.specs.PassLaws.{AreScraped, IsScraped}
use Rattle.stack_recovery.specs.PassPieces.{ArePassPieces, Pass, Scanned}
use Rattle.stack_recovery.specs.Surveys.{Finding, IsPieceSurveyed, IsSurveyOver, PieceRead, SectorState, again, all_states, copied, had, kept, lost, probed, states_found, states_of, trimmed}
use Rattle.stack_recovery.proofs.PieceLemmas.{passes-scrape}
use Rattle.stack_recovery.proofs.lemmas.LostLemmas.{span-fault}

-- ---- sectors of a span

meant-add : (at : ℕ → Outcome) (first n m : ℕ) → meant_states at first (n + m) ≡ meant_states at first n ++ meant_states at (first + n) m
meant-add at first zero m =
    let none : 0 + m ≡ m = omega arith in
    let from : first ≡ first + 0 = omega arith in
    ap (meant_states at first) none ∙ ap (λ (k : ℕ). meant_states at k m) from
meant-add at first (suc n) m =
    let more : suc n + m ≡ suc (n + m) = omega arith in
    let from : suc first + n ≡ first + suc n = omega arith in
    ap (meant_states at first) more
    ∙ ap (λ (l : List SectorState). meant_state (at first) ∷ l) (meant-add at (suc first) n m ∙ ap (λ (k : ℕ). meant_states at (suc first) n ++ meant_states at k m) from)

meant-each : (at : ℕ → Outcome) (first n : ℕ) (s : SectorState) → ((k : ℕ) → k < n → meant_state (at (first + k)) ≡ s) → meant_states at first n ≡ replicate n s
meant-each at first zero s each = refl
meant-each at first (suc n) s each =
    let here : first + 0 ≡ first = omega arith in
    let one : meant_state (at first) ≡ s = ap (λ (k : ℕ). meant_state (at k)) (sym here) ∙ each 0 (omega arith) in
    let rest = meant-each at (suc first) n s (λ k low. let step : suc first + k ≡ first + suc k = omega arith in ap (λ (t : ℕ). meant_state (at t)) step ∙ each (suc k) (omega (arith, low))) in
    ap (λ (x : SectorState). x ∷ meant_states at (suc first) n) one ∙ ap (λ (l : List SectorState). s ∷ l) rest

joint-first : (a b : Outcome) (bytes : List ℕ) → joint_outcome a b ≡ Ok bytes → meant_state a ≡ None
joint-first (Ok a) b bytes e = refl
joint-first (Err f) b bytes e = let clash : Err f ≡ Ok bytes = e in cc

joint-rest : (a b : Outcome) (bytes : List ℕ) → joint_outcome a b ≡ Ok bytes → (more : List ℕ) × (b ≡ Ok more)
joint-rest (Ok a) (Ok b) bytes e = (b, refl)
joint-rest (Ok a) (Err f) bytes e = let clash : Err f ≡ Ok bytes = e in cc
joint-rest (Err f) b bytes e = let clash : Err f ≡ Ok bytes = e in cc

-- sectors that have bytes
meant-bytes : (at : ℕ → Outcome) (first n : ℕ) (bytes : List ℕ) → span at first n ≡ Ok bytes → meant_states at first n ≡ replicate n None
meant-bytes at first zero bytes e = refl
meant-bytes at first (suc n) bytes e =
    let rest = joint-rest (at first) (span at (suc first) n) bytes e in
    ap (λ (x : SectorState). x ∷ meant_states at (suc first) n) (joint-first (at first) (span at (suc first) n) bytes e) ∙ ap (λ (l : List SectorState). None ∷ l) (meant-bytes at (suc first) n rest.0 rest.1)

-- one of these sectors
pub meant-byte : (at : ℕ → Outcome) (first n : ℕ) (bytes : List ℕ) → span at first n ≡ Ok bytes → (k : ℕ) → k < n → meant_state (at (first + k)) ≡ None
meant-byte at first zero bytes e k low = absurd (omega (arith, low))
meant-byte at first (suc n) bytes e zero low =
    let here : first + 0 ≡ first = omega arith in
    ap (λ (t : ℕ). meant_state (at t)) here ∙ joint-first (at first) (span at (suc first) n) bytes e
meant-byte at first (suc n) bytes e (suc k) low =
    let rest = joint-rest (at first) (span at (suc first) n) bytes e in
    let step : first + suc k ≡ suc first + k = omega arith in
    ap (λ (t : ℕ). meant_state (at t)) step ∙ meant-byte at (suc first) n rest.0 rest.1 k (omega (arith, low))

pub meant-get : (at : ℕ → Outcome) (first n k : ℕ) → k < n → get_or (meant_states at first n) k None ≡ meant_state (at (first + k))
meant-get at first zero k low = absurd (omega (arith, low))
meant-get at first (suc n) zero low = let here : first ≡ first + 0 = omega arith in ap (λ (t : ℕ). meant_state (at t)) here
meant-get at first (suc n) (suc k) low = let step : suc first + k ≡ first + suc k = omega arith in meant-get at (suc first) n k (omega (arith, low)) ∙ ap (λ (t : ℕ). meant_state (at t)) step

-- sectors that are lost together, by the fault of one
meant-fault : (c : Configuration) (images : Images) (d first n : ℕ) (fault : Fault) → AreAlike c d first n → span (sector c images (mapped d)) first n ≡ Err fault
    → meant_states (sector c images (mapped d)) first n ≡ replicate n (meant_state (Err fault))
meant-fault c images d first n fault alike e =
    let found = span-fault (sector c images (mapped d)) first n fault e in
    meant-each (sector c images (mapped d)) first n (meant_state (Err fault)) (λ k low. ap meant_state (alike.means images fault found.0 k found.1 low found.2))

-- ---- pieces

sure-kept : {c : Configuration} {these : ℕ → Bool} {old new : List Device} {n : ℕ} → AreRead old n new → AreSure c these old → AreSure c these new
sure-kept {c = c} {these = these} {old = old} {new = new} a s = record {
  steady = AreSteady-kept old new a.moved.fixed s.steady;
  agrees = subst (AgreesOn c these) (sym (images-kept a)) s.agrees;
  never_fail = λ i d low is. a.moved.never_fails i d (s.never_fail i d (omega (arith, low, same_length old new a.moved.fixed)) is);
}

-- any device
abbrev some-device : Device
some-device = in_memory [] true

module _ (d first : ℕ) (w : StackRecord) (sure : AreSure w.config (λ i. stands_on w.config i (mapped d)) w.leaves) (n : ℕ) (after : StackRecord) where
  meant-lost : (fault : IoFault) → EachBytes w d first n (Err fault) after → AreAlike w.config d first n → fault ≢ NoMemory → meant_states (sector w.config (steady_images w.leaves) (mapped d)) first n ≡ replicate n (Some (Lost fault))
  meant-lost (Stack fault) p alike kind = meant-fault w.config (steady_images w.leaves) d first n fault alike (p.steady (record { steady = sure.steady; agrees = λ meets. sure.agrees })).exact
  meant-lost (DeviceFailed i) p alike kind = let failed = p.any.may.1 in absurd (failed.unsure some-device (sure.never_fail (i - 1) some-device failed.inside p.any.touches.fault))
  meant-lost NoMemory p alike kind = absurd (kind refl)

  -- one of these sectors
  pub lost-each : (fault : IoFault) → EachBytes w d first n (Err fault) after → AreAlike w.config d first n → fault ≢ NoMemory → (k : ℕ) → k < n → meant_state (sector w.config (steady_images w.leaves) (mapped d) (first + k)) ≡ Some (Lost fault)
  lost-each fault p alike kind k low =
      sym (meant-get (sector w.config (steady_images w.leaves) (mapped d)) first n k low) ∙ ap (λ (l : List SectorState). get_or l k None) (meant-lost fault p alike kind)
      ∙ get_or-replicate {A = SectorState} n k (Some (Lost fault)) None low

module _ (marks : List Bool) (d first : ℕ) (w : StackRecord) (known : MarksAreMeant marks d w) (sure : AreSure w.config (λ i. stands_on w.config i (mapped d)) w.leaves) (n : ℕ) (after : StackRecord) where
  abbrev at : ℕ → Outcome
  at = sector w.config (steady_images w.leaves) (mapped d)

  pub meant-piece : (found : Finding) → IsScraped found → IsPieceSurveyed marks d first w (record { count = n; found = found; after = after })
      → states_found n found ≡ meant_states (sector w.config (steady_images w.leaves) (mapped d)) first (length (states_found n found))
  meant-piece (had bytes) scraped p =
      sym (ap (meant_states at first) (length-replicate {A = SectorState} n None) ∙ meant-bytes at first n bytes (p.answered.steady (record { steady = sure.steady; agrees = λ meets. sure.agrees })).exact)
  meant-piece (lost fault) scraped p =
      sym (ap (meant_states at first) (length-replicate {A = SectorState} n (Some (Lost fault))) ∙ meant-lost d first w sure n after fault p.answered p.may.0 p.may.1)
  meant-piece (again fault) scraped p = refl
  meant-piece (probed behind bytes) scraped p = refl
  meant-piece (trimmed behind fault) scraped p = absurd scraped
  meant-piece copied scraped p = absurd scraped
  meant-piece kept scraped p = sym (ap (meant_states at first) (length-replicate {A = SectorState} n None) ∙ meant-each at first n None (λ k low. known (first + k) (p.marked k low)))

-- ---- what a read leaves

-- the stack means the same, and its backing devices are steady and never fail
pub record IsLeft (d : ℕ) (w after : StackRecord) : Type 0 where
  pub config : after.config ≡ w.config
  pub images : steady_images after.leaves ≡ steady_images w.leaves
  pub sure : AreSure after.config (λ i. stands_on after.config i (mapped d)) after.leaves

pub same-left : (d : ℕ) (w after : StackRecord) → after ≡ w → AreSure w.config (λ i. stands_on w.config i (mapped d)) w.leaves → IsLeft d w after
same-left d w after e sure = subst (λ (v : StackRecord). IsLeft d w v) (sym e) (record { config = refl; images = refl; sure = sure })

read-left : (d : ℕ) (w after : StackRecord) {n : ℕ} → AreRead w.leaves n after.leaves → after.config ≡ w.config → AreSure w.config (λ i. stands_on w.config i (mapped d)) w.leaves → IsLeft d w after
read-left d w after moved config sure = record {
  config = config;
  images = images-kept moved;
  sure = subst (λ (c : Configuration). AreSure c (λ i. stands_on c i (mapped d)) after.leaves) (sym config) (sure-kept moved sure);
}

pub then-left : (d : ℕ) (w mid after : StackRecord) → IsLeft d w mid → IsLeft d mid after → IsLeft d w after
then-left d w mid after p q = record { config = q.config ∙ p.config; images = q.images ∙ p.images; sure = q.sure }

pub piece-left : (marks : List Bool) (d first : ℕ) (w : StackRecord) (n : ℕ) (found : Finding) (after : StackRecord) → IsPieceSurveyed marks d first w (record { count = n; found = found; after = after })
    → AreSure w.config (λ i. stands_on w.config i (mapped d)) w.leaves → IsLeft d w after
piece-left marks d first w n (had bytes) after p sure = read-left d w after p.answered.any.moved p.answered.any.config sure
piece-left marks d first w n (lost fault) after p sure = read-left d w after p.answered.any.moved p.answered.any.config sure
piece-left marks d first w n (again fault) after p sure = read-left d w after p.answered.any.moved p.answered.any.config sure
piece-left marks d first w n (probed behind bytes) after p sure = read-left d w after p.answered.any.moved p.answered.any.config sure
piece-left marks d first w n (trimmed behind fault) after p sure = read-left d w after p.answered.any.moved p.answered.any.config sure
piece-left marks d first w n copied after p sure = same-left d w after p.answered sure
piece-left marks d first w n kept after p sure = same-left d w after p.answered sure

-- what a sector means afterwards
pub left-state : (d : ℕ) (w after : StackRecord) (k : ℕ) → IsLeft d w after
    → meant_state (sector after.config (steady_images after.leaves) (mapped d) k) ≡ meant_state (sector w.config (steady_images w.leaves) (mapped d) k)
left-state d w after k p =
    ap (λ (c : Configuration). meant_state (sector c (steady_images after.leaves) (mapped d) k)) p.config ∙ ap (λ (i : Images). meant_state (sector w.config i (mapped d) k)) p.images

pub left-states : (d : ℕ) (w after : StackRecord) (first n : ℕ) → IsLeft d w after
    → meant_states (sector after.config (steady_images after.leaves) (mapped d)) first n ≡ meant_states (sector w.config (steady_images w.leaves) (mapped d)) first n
left-states d w after first n p =
    ap (λ (c : Configuration). meant_states (sector c (steady_images after.leaves) (mapped d)) first n) p.config ∙ ap (λ (i : Images). meant_states (sector w.config i (mapped d)) first n) p.images

-- ---- a scan

pub surveys-meant : SurveysAreMeant
surveys-meant marks d first w [] w' s scraped known sure = refl
surveys-meant marks d first w (r ∷ more) w' s scraped known sure =
    let n : ℕ = length (states_of r) in
    let m : ℕ = length (all_states more) in
    let left : IsLeft d w r.after = piece-left marks d first w r.count r.found r.after s.0 sure in
    let at : ℕ → Outcome = sector w.config (steady_images w.leaves) (mapped d) in
    let head : states_of r ≡ meant_states at first n = meant-piece marks d first w known sure r.count r.after r.found scraped.0 s.0 in
    let rest = surveys-meant marks d (first + n) r.after more w' s.1 scraped.1 (λ k is. left-state d w r.after k left ∙ known k is) left.sure in
    let tail : all_states more ≡ meant_states at (first + n) m = rest ∙ left-states d w r.after (first + n) m left in
    ap (λ (l : List SectorState). l ++ all_states more) head ∙ ap (λ (l : List SectorState). meant_states at first n ++ l) tail
    ∙ sym (ap (meant_states at first) (length-append (states_of r) (all_states more)) ∙ meant-add at first n m)

-- ---- a pass that scrapes

-- a pass that scrapes leaves none unscraped
unscraped-piece : (n : ℕ) (found : Finding) (k : ℕ) (fault : IoFault) → IsScraped found → k < length (states_found n found) → get_or (states_found n found) k None ≡ Some (Unscraped fault) → ⊥
unscraped-piece n (had bytes) k fault scraped low e =
    let none : None ≡ Some (Unscraped fault) = sym (get_or-replicate {A = SectorState} n k None None (omega (arith, low, length-replicate {A = SectorState} n None))) ∙ e in cc
unscraped-piece n (lost by) k fault scraped low e =
    let other : Some (Lost by) ≡ Some (Unscraped fault) = sym (get_or-replicate {A = SectorState} n k (Some (Lost by)) None (omega (arith, low, length-replicate {A = SectorState} n (Some (Lost by))))) ∙ e in cc
unscraped-piece n (again by) k fault scraped low e = absurd (omega (arith, low))
unscraped-piece n (probed behind bytes) k fault scraped low e = absurd (omega (arith, low))
unscraped-piece n (trimmed behind by) k fault scraped low e = absurd scraped
unscraped-piece n copied k fault scraped low e = absurd scraped
unscraped-piece n kept k fault scraped low e =
    let none : None ≡ Some (Unscraped fault) = sym (get_or-replicate {A = SectorState} n k None None (omega (arith, low, length-replicate {A = SectorState} n None))) ∙ e in cc

unscraped-none : (reads : List PieceRead) (k : ℕ) (fault : IoFault) → AreScraped reads → k < length (all_states reads) → get_or (all_states reads) k None ≡ Some (Unscraped fault) → ⊥
unscraped-none [] k fault scraped low e = absurd (omega (arith, low))
unscraped-none (r ∷ more) k fault scraped low e = elim (cases_lt k (length (states_of r))) [
  | inl here ↦ unscraped-piece r.count r.found k fault scraped.0 here (sym (get_or_append_left (states_of r) (all_states more) None k here) ∙ e)
  | inr past ↦
      let n : ℕ = length (states_of r) in
      unscraped-none more (k - n) fault scraped.1 (omega (arith, past, low, length-append (states_of r) (all_states more))) (sym (get_or-append_right (states_of r) (all_states more) n k None refl past) ∙ e)
]

pub pass-unscraped : (scan : Scanned) (p : Pass) (reads : List PieceRead) (k : ℕ) (fault : IoFault) → scan.no_scrape ≡ false → ArePassPieces scan p reads → k < length (all_states reads) → get_or (all_states reads) k None ≡ Some (Unscraped fault) → ⊥
pass-unscraped scan p reads k fault scrapes pieces low e = unscraped-none reads k fault (passes-scrape scan p reads scrapes pieces) low e

-- ---- what a scan leaves

pub survey-left : (before : List Bool) (d first : ℕ) (w : StackRecord) (reads : List PieceRead) (w' : StackRecord) → IsSurveyOver before d first w reads w' → AreSure w.config (λ i. stands_on w.config i (mapped d)) w.leaves → IsLeft d w w'
survey-left before d first w [] w' s sure = same-left d w w' s sure
survey-left before d first w (r ∷ more) w' s sure =
    let left : IsLeft d w r.after = piece-left before d first w r.count r.found r.after s.0 sure in
    then-left d w r.after w' left (survey-left before d (first + length (states_of r)) r.after more w' s.1 left.sure)
