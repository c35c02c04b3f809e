-- The last of some sectors that end units, and the lengths of pieces.
use Rattle.std.proofs.Common.{◌≡◌, ℕ, zero, suc, ◌+◌, ◌-◌, ◌<◌, ◌≤◌, Bool, true, false, cond, refl, sym, ap, ◌∙◌, inl, inr, arith}
use Rattle.std.proofs.lemmas.Bool.{cases_eq, cases_lt, le-leb, lt-leb, false≢true}
use Rattle.stack_rules.specs.Names.{mapped}
use Rattle.stack_rules.specs.Records.{Configuration}
use Rattle.alignment.specs.Ends.{ends_units}
use Rattle.alignment.specs.Lengths.{aligned_len, last_end, or_most}

module _ (ends : ℕ → Bool) (first : ℕ) where
  pub last-here : (n : ℕ) → 0 < n → ends (first + (n - 1)) ≡ true → last_end ends first n ≡ n
  unfolding last_end
  last-here zero some is = let no : ⊥ = omega (arith, some) in absurd no
  last-here (suc n) some is =
      let at : first + (suc n - 1) ≡ first + n = omega arith in
      ap (λ (b : Bool). cond b (suc n) (last_end ends first n)) (sym (ap ends at) ∙ is)

  pub last-before : (n : ℕ) → 0 < n → ends (first + (n - 1)) ≡ false → last_end ends first n ≡ last_end ends first (n - 1)
  unfolding last_end
  last-before zero some is = let no : ⊥ = omega (arith, some) in absurd no
  last-before (suc n) some is =
      let at : first + (suc n - 1) ≡ first + n = omega arith in
      let less : n ≡ suc n - 1 = omega arith in
      ap (λ (b : Bool). cond b (suc n) (last_end ends first n)) (sym (ap ends at) ∙ is) ∙ ap (last_end ends first) less

  pub last-none : last_end ends first 0 ≡ 0
  unfolding last_end
  last-none = refl

  -- it is one that ends units, none after it does, and it comes no earlier than another one
  pub last-finds : (n k : ℕ) → k < n → ends (first + k) ≡ true → (suc k ≤ last_end ends first n) × (ends (first + (last_end ends first n - 1)) ≡ true)
  unfolding last_end
  last-finds zero k low is = let no : ⊥ = omega (arith, low) in absurd no
  last-finds (suc n) k low is = go (ends (first + n)) refl (λ less. last-finds n k less is)
    where
      before : ends (first + n) ≡ false → k < n
      before e = elim (cases_eq k n) [
        | inl same ↦ absurd (false≢true (sym e ∙ ap (λ (i : ℕ). ends (first + i)) (sym same) ∙ is))
        | inr other ↦ elim (cases_lt k n) [
          | inl less ↦ less
          | inr more ↦ absurd (other (omega (arith, low, more)))
        ]
      ]

      go : (b : Bool) → ends (first + n) ≡ b → (k < n → (suc k ≤ last_end ends first n) × (ends (first + (last_end ends first n - 1)) ≡ true))
          → (suc k ≤ cond b (suc n) (last_end ends first n)) × (ends (first + (cond b (suc n) (last_end ends first n) - 1)) ≡ true)
      go true e step = let at : first + (suc n - 1) ≡ first + n = omega arith in let up : suc k ≤ suc n = omega (arith, low) in (up, ap ends at ∙ e)
      go false e step = step (before e)

  pub last-few : (n : ℕ) → last_end ends first n ≤ n
  unfolding last_end
  last-few zero = omega arith
  last-few (suc n) = go (ends (first + n)) (last-few n)
    where
      go : (b : Bool) → last_end ends first n ≤ n → cond b (suc n) (last_end ends first n) ≤ suc n
      go true few = omega arith
      go false few = omega (arith, few)

  -- what it is, if there is one
  pub last-is : (n : ℕ) → 0 < last_end ends first n → ends (first + (last_end ends first n - 1)) ≡ true
  unfolding last_end
  last-is zero some = let no : ⊥ = omega (arith, some) in absurd no
  last-is (suc n) some = go (ends (first + n)) refl some (last-is n)
    where
      go : (b : Bool) → ends (first + n) ≡ b → 0 < cond b (suc n) (last_end ends first n) → (0 < last_end ends first n → ends (first + (last_end ends first n - 1)) ≡ true)
          → ends (first + (cond b (suc n) (last_end ends first n) - 1)) ≡ true
      go true e some step = let at : first + (suc n - 1) ≡ first + n = omega arith in ap ends at ∙ e
      go false e some step = step some

or-some : (most n : ℕ) → 0 < n → or_most most n ≡ n
or-some most zero some = let no : ⊥ = omega (arith, some) in absurd no
or-some most (suc n) some = refl

-- ---- lengths

module _ (c : Configuration) (d first rest most : ℕ) where
  pub len-all : rest ≤ most → aligned_len c d first rest most ≡ rest
  len-all few = ap (λ (b : Bool). cond b rest (or_most most (last_end (ends_units c (mapped d)) first most))) (le-leb rest most few)

  len-more : most < rest → aligned_len c d first rest most ≡ or_most most (last_end (ends_units c (mapped d)) first most)
  len-more many = ap (λ (b : Bool). cond b rest (or_most most (last_end (ends_units c (mapped d)) first most))) (lt-leb rest most many)

  pub len-last : most < rest → (n : ℕ) → last_end (ends_units c (mapped d)) first most ≡ n → 0 < n → aligned_len c d first rest most ≡ n
  len-last many n is some = len-more many ∙ ap (or_most most) is ∙ or-some most n some

  pub len-most : most < rest → last_end (ends_units c (mapped d)) first most ≡ 0 → aligned_len c d first rest most ≡ most
  len-most many none = len-more many ∙ ap (or_most most) none
