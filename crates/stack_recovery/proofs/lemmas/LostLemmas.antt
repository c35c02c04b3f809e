-- The sector by which a run of sectors has its fault.
use Rattle.std.proofs.Common.{◌≡◌, ℕ, zero, suc, ◌+◌, ◌<◌, [], ◌++◌, Ok, Err, refl, sym, ap, ◌∙◌, arith}
use Rattle.stack_rules.specs.Names.{mapped}
use Rattle.stack_rules.specs.Records.{Configuration}
use Rattle.stack_meaning.specs.Meaning.{sector}
use Rattle.stack_meaning.specs.declared.fault.Fault.{Fault}
use Rattle.stack_meaning.specs.Outcomes.{Images, Outcome, joint_outcome, span}
use Rattle.stack_recovery.specs.Alike.{AreAlike}

-- the sector by which a span has its fault
pub span-fault : (at : ℕ → Outcome) (first n : ℕ) (fault : Fault) → span at first n ≡ Err fault → (j : ℕ) × (j < n) × (at (first + j) ≡ Err fault)
span-fault at first zero fault e = let clash : Ok [] ≡ Err fault = e in cc
span-fault at first (suc n) fault e = go (at first) refl (span-fault at (suc first) n fault)
  where
    go : (x : Outcome) → at first ≡ x → (span at (suc first) n ≡ Err fault → (j : ℕ) × (j < n) × (at (suc first + j) ≡ Err fault)) → (j : ℕ) × (j < suc n) × (at (first + j) ≡ Err fault)
    go (Err f) is deeper =
        let same : Err f ≡ Err fault = sym (ap (λ (y : Outcome). joint_outcome y (span at (suc first) n)) is) ∙ e in
        let here : first + 0 ≡ first = omega arith in
        (0, omega arith, ap at here ∙ is ∙ same)
    go (Ok bytes) is deeper = later (span at (suc first) n) refl
      where
        later : (y : Outcome) → span at (suc first) n ≡ y → (j : ℕ) × (j < suc n) × (at (first + j) ≡ Err fault)
        later (Ok more) rest = let clash : Ok (bytes ++ more) ≡ Err fault = sym (ap (λ (z : Outcome). joint_outcome z (span at (suc first) n)) is ∙ ap (joint_outcome (Ok bytes)) rest) ∙ e in cc
        later (Err f) rest =
            let same : Err f ≡ Err fault = sym (ap (λ (z : Outcome). joint_outcome z (span at (suc first) n)) is ∙ ap (joint_outcome (Ok bytes)) rest) ∙ e in
            let found = deeper (rest ∙ same) in
            let step : first + suc found.0 ≡ suc first + found.0 = omega arith in
            (suc found.0, omega (arith, found.1), ap at step ∙ found.2)

-- of sectors that are lost together the first is lost
pub first-lost : (c : Configuration) (images : Images) (d first n : ℕ) (fault : Fault) → AreAlike c d first n → span (sector c images (mapped d)) first n ≡ Err fault → sector c images (mapped d) first ≡ Err fault
first-lost c images d first n fault alike e =
    let found = span-fault (sector c images (mapped d)) first n fault e in
    let here : first + 0 ≡ first = omega arith in
    ap (sector c images (mapped d)) (sym here) ∙ alike.means images fault found.0 0 found.1 (omega (arith, found.1)) found.2
