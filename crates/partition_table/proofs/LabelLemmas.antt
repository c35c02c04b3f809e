-- The units of a label, one more.
use Rattle.std.proofs.Common.{◌≡◌, ◌∙◌, ◌+◌, ◌*◌, ◌<◌, ◌==◌, ℕ, suc, Bool, true, false, not, cond, List, [], ◌∷◌, ◌++◌, length, take, drop, get_or, drop-cons, refl, ap, arith, zero-add}
use Rattle.std.specs.List.{prefix_len}
use Rattle.std.proofs.lemmas.List.FromFn.{map-range_with_len_more}
use Rattle.partition_table.specs.Labels.{before_zero, number16, units_to}

pub units_to-none : (label : List ℕ) → units_to label 0 ≡ []
unfolding units_to
units_to-none label = refl

pub units_to-more : (label : List ℕ) (n : ℕ) → units_to label (n + 1) ≡ units_to label n ++ number16 label (2 * n) ∷ []
unfolding units_to
units_to-more label n = map-range_with_len_more (λ k. number16 label (2 * k)) 0 n n (zero-add n)

-- how many of the units after the first one come before a zero
abbrev more : List ℕ → ℕ
more rest = 1 + prefix_len (λ v. not (v == 0)) rest

-- a zero ends the label
before_zero-zero : (u : ℕ) (rest : List ℕ) → (u == 0) ≡ true → before_zero (u ∷ rest) ≡ []
before_zero-zero u rest is = ap (λ (b : Bool). take (cond (not b) (more rest) 0) (u ∷ rest)) is

-- another unit doesn't
before_zero-more : (u : ℕ) (rest : List ℕ) → (u == 0) ≡ false → before_zero (u ∷ rest) ≡ u ∷ before_zero rest
before_zero-more u rest is =
    let next : more rest ≡ suc (prefix_len (λ v. not (v == 0)) rest) = omega arith in
    ap (λ (b : Bool). take (cond (not b) (more rest) 0) (u ∷ rest)) is ∙ ap (λ (n : ℕ). take n (u ∷ rest)) next

module _ (units : List ℕ) (i : ℕ) where
  left : i < length units → drop i units ≡ get_or units i 0 ∷ drop (i + 1) units
  left within =
      let next : suc i ≡ i + 1 = omega arith in
      drop-cons units i 0 within ∙ ap (λ (n : ℕ). get_or units i 0 ∷ drop n units) next

  -- a zero at an index ends the label there
  pub left-zero : i < length units → (get_or units i 0 == 0) ≡ true → before_zero (drop i units) ≡ []
  left-zero within is = ap before_zero (left within) ∙ before_zero-zero (get_or units i 0) (drop (i + 1) units) is

  pub left-more : i < length units → (get_or units i 0 == 0) ≡ false → before_zero (drop i units) ≡ get_or units i 0 ∷ before_zero (drop (i + 1) units)
  left-more within is = ap before_zero (left within) ∙ before_zero-more (get_or units i 0) (drop (i + 1) units) is
