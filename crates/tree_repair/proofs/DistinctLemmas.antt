-- How many numbers that differ pass a test.
use Rattle.std.proofs.Common.{◌≡◌, ◌≤◌, ◌<◌, ◌+◌, ℕ, zero, suc, Bool, true, false, not, cond, ◌&&◌, List, [], ◌∷◌, refl, sym, ap, ◌∙◌, subst, arith, inl, inr, ◌⊎◌}
use Rattle.std.specs.Prelude.{◌==◌, count_by}
use Rattle.std.specs.List.{range_with_len}
use Rattle.std.proofs.lemmas.Bool.{and_from, and_right, cases_Bool, cases_eq, eq-eqb, ne_eqb, not_from_false, not_from_true}
use Rattle.std.proofs.lemmas.List.Sums.{sum_by-cons}
use Rattle.fec_area.specs.Restoring.{IsAmong}

-- no number is twice in the list
abbrev pub AreDifferent : List ℕ → Type 0
AreDifferent [] = Unit {0}
AreDifferent (x ∷ xs) = (IsAmong xs x → ⊥) × AreDifferent xs

pub among-none : (n : ℕ) → IsAmong [] n → ⊥
among-none n among = omega (arith, among.1.0)

pub among-first : (x : ℕ) (xs : List ℕ) → IsAmong (x ∷ xs) x
among-first x xs = (0, (omega arith, refl))

pub among-more : (x : ℕ) (xs : List ℕ) (n : ℕ) → IsAmong xs n → IsAmong (x ∷ xs) n
among-more x xs n (k, (low, is)) = (suc k, (omega (arith, low), is))

pub among-split : (x : ℕ) (xs : List ℕ) (n : ℕ) → IsAmong (x ∷ xs) n → (x ≡ n) ⊎ IsAmong xs n
among-split x xs n (zero, (low, is)) = inl is
among-split x xs n (suc k, (low, is)) = inr (k, (omega (arith, low), is))

-- the test, and not this number
abbrev pub but : (ℕ → Bool) → ℕ → ℕ → Bool
but p x n = p n && not (n == x)

pub but-from : (p : ℕ → Bool) (x n : ℕ) → p n ≡ true → (n ≡ x → ⊥) → but p x n ≡ true
but-from p x n is other = and_from (p n) (not (n == x)) is (not_from_false (n == x) (ne_eqb n x other))

but-same : (p : ℕ → Bool) (x n : ℕ) → (n ≡ x → ⊥) → but p x n ≡ p n
but-same p x n other = elim (cases_Bool (p n)) [
  | inl pass ↦ but-from p x n pass other ∙ sym pass
  | inr fail ↦ ap (λ (b : Bool). b && not (n == x)) fail ∙ sym fail
]

but-none : (p : ℕ → Bool) (x n : ℕ) → n ≡ x → but p x n ≡ false
but-none p x n same = and_right (p n) (not (n == x)) (not_from_true (n == x) (eq-eqb n x same))

-- what one adds to a count
abbrev tally : Bool → ℕ
tally b = cond b 1 0

count-cons : (p : ℕ → Bool) (x : ℕ) (xs : List ℕ) → count_by p (x ∷ xs) ≡ tally (p x) + count_by p xs
count-cons p x xs = sum_by-cons (λ (n : ℕ). tally (p n)) x xs

-- a number before the range takes none away
before-none : (p : ℕ → Bool) (x a n : ℕ) → x < a → count_by (but p x) (range_with_len a n) ≡ count_by p (range_with_len a n)
before-none p x a zero past = refl
before-none p x a (suc n) past =
    let rest : List ℕ = range_with_len (a + 1) n in
    let here : tally (but p x a) ≡ tally (p a) = ap tally (but-same p x a (λ e. omega (arith, e, past))) in
    omega (arith, count-cons (but p x) a rest, count-cons p a rest, here, before-none p x (a + 1) n (omega (arith, past)))

-- one in it that passes takes itself away
pub count-but : (p : ℕ → Bool) (x a n : ℕ) → p x ≡ true → a ≤ x → x < a + n → count_by p (range_with_len a n) ≡ count_by (but p x) (range_with_len a n) + 1
count-but p x a zero is from below = absurd (omega (arith, from, below))
count-but p x a (suc n) is from below =
    let rest : List ℕ = range_with_len (a + 1) n in
    elim (cases_eq a x) [
      | inl here ↦
          let one : tally (p a) ≡ 1 = ap tally (ap p here ∙ is) in
          let none : tally (but p x a) ≡ 0 = ap tally (but-none p x a here) in
          omega (arith, count-cons (but p x) a rest, count-cons p a rest, one, none, before-none p x (a + 1) n (omega (arith, here)))
      | inr other ↦
          let here : tally (but p x a) ≡ tally (p a) = ap tally (but-same p x a other) in
          omega (arith, count-cons (but p x) a rest, count-cons p a rest, here, count-but p x (a + 1) n is (omega (arith, from, other)) (omega (arith, below)))
    ]

-- Of numbers that differ, each of which passes a test below n where it passes another, at most as many pass that one as pass the test
-- below n.
pub count-different : (q p : ℕ → Bool) (xs : List ℕ) (n : ℕ) → AreDifferent xs → ((x : ℕ) → IsAmong xs x → q x ≡ true → (p x ≡ true) × (x < n))
    → count_by q xs ≤ count_by p (range_with_len 0 n)
count-different q p [] n different passes = omega arith
count-different q p (x ∷ xs) n different passes = elim (cases_Bool (q x)) [
  | inr fail ↦
      let none : tally (q x) ≡ 0 = ap tally fail in
      omega (arith, count-cons q x xs, none, count-different q p xs n different.1 (λ y among. passes y (among-more x xs y among)))
  | inl pass ↦
      let one : tally (q x) ≡ 1 = ap tally pass in
      let here = passes x (among-first x xs) pass in
      let rest : count_by q xs ≤ count_by (but p x) (range_with_len 0 n) =
      count-different q (but p x) xs n different.1
      (λ y among is.
      let there = passes y (among-more x xs y among) is in
      (but-from p x y there.0 (λ e. different.0 (subst (IsAmong xs) e among)), there.1)) in
      omega (arith, count-cons q x xs, one, rest, count-but p x 0 n here.0 (omega arith) (omega (arith, here.1)))
]
