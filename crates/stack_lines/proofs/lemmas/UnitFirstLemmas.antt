-- The sectors beneath the units of a `crypt` line.
use Rattle.std.proofs.Common.{◌≡◌, ℕ, ◌+◌, ◌*◌, ◌/◌, ◌%◌, ◌<◌, List, ap, ◌∙◌, subst, arith}
use Rattle.std.proofs.lemmas.Nat.{div-add-mod', div-mul-add, mod_below}
use Rattle.std.proofs.Math.Nat.{add-mul}
use Rattle.stack_meaning.specs.declared.units.CryptUnits.{CryptUnits}
use Rattle.stack_meaning.specs.declared.fault.Fault.{Fault}
use Rattle.stack_meaning.specs.Sectors.{SomeOf}
use Rattle.stack_meaning.specs.Units.{per_unit, unit_first}
use Rattle.stack_meaning.specs.Meaning.{Said, crypt_said}
use Rattle.stack_meaning.proofs.lemmas.UnitSizeLemmas.{per_unit-some}
use Rattle.stack_meaning.proofs.lemmas.UnitLemmas.{unit-more}

module _ (units : CryptUnits) (w : ℕ) (aligned : w % per_unit units ≡ 0) where
  pub some-unit : 0 < per_unit units
  some-unit = omega (arith, per_unit-some units)

  -- the unit of sector w + j begins there
  pub unit_first-more : (j : ℕ) → unit_first units (w + j) ≡ unit_first units w + j / per_unit units * per_unit units
  unit_first-more j =
      let u : ℕ = per_unit units in
      ap (λ (k : ℕ). units.offset + k * u) (unit-more u w j some-unit aligned).0
      ∙ (omega (arith, add-mul (w / u) (j / u) u))

  -- sector j on the lower device is one of the unit of sector w + j
  pub unit_first-of : (j : ℕ) → unit_first units w + j ≡ unit_first units (w + j) + j % per_unit units
  unit_first-of j = omega (arith, unit_first-more j, div-add-mod' j (per_unit units))

  -- all sectors of a unit have one unit beneath
  pub same-first : (j : ℕ) → j < per_unit units → unit_first units (w + j) ≡ unit_first units w
  same-first j low =
      let u : ℕ = per_unit units in
      let none : j / u ≡ 0 = let split : j ≡ 0 * u + j = omega arith in ap (λ (k : ℕ). k / u) split ∙ div-mul-add 0 u j low in
      unit_first-more j ∙ ap (λ (k : ℕ). unit_first units w + k * u) none ∙ (omega arith)

  module _ (lower : ℕ → Said) (key : List ℕ) where
    -- what one of the sectors beneath meets, its unit meets
    pub units-some : (P : Said → Type 0) (Q : Said → Type 0) → ((s : ℕ) → SomeOf (λ t. P (lower t)) (unit_first units s) (per_unit units) → Q (crypt_said lower units key s)) → (n : ℕ)
        → SomeOf (λ t. P (lower t)) (unit_first units w) n → SomeOf (λ j. Q (crypt_said lower units key (w + j))) 0 n
    units-some P Q up n some =
        let j : ℕ = some.0 in
        let at : j ≡ 0 + j = omega arith in
        let here : SomeOf (λ t. P (lower t)) (unit_first units (w + j)) (per_unit units) = (j % per_unit units, mod_below j (per_unit units) some-unit, subst (λ (t : ℕ). P (lower t)) (unit_first-of j) some.2) in
        (j, some.1, subst (λ (i : ℕ). Q (crypt_said lower units key (w + i))) at (up (w + j) here))

    pub units-meet : (fault : Fault) (n : ℕ) → SomeOf (λ t. (lower t).meets fault) (unit_first units w) n → SomeOf (λ j. (crypt_said lower units key (w + j)).meets fault) 0 n
    units-meet fault = units-some (λ x. x.meets fault) (λ x. x.meets fault) (λ s some. some)
