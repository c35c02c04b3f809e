-- From a test that computes over all bytes to each byte.
use Rattle.std.proofs.Common.{◌≡◌, ℕ, zero, suc, ◌<◌, ◌&&◌, Bool, true, false, nat_eq, inl, inr, refl, arith}
use Rattle.std.proofs.lemmas.Bool.{eqb-true}
use Rattle.std.proofs.lemmas.Bool.Decides.{eqb_tells}

-- the test holds of each number below n
abbrev pub all_below : ℕ → (ℕ → Bool) → Bool
all_below zero t = true
all_below (suc n) t = t n && all_below n t

and_left : (a b : Bool) → (a && b) ≡ true → a ≡ true
and_left true b h = refl
and_left false b h = h

and_right : (a b : Bool) → (a && b) ≡ true → b ≡ true
and_right true b h = h
and_right false b h = grind (arith, h)

pub all_below-at : (n : ℕ) (t : ℕ → Bool) → all_below n t ≡ true → (k : ℕ) → k < n → t k ≡ true
all_below-at zero t h k lt = grind (arith, lt)
all_below-at (suc n) t h k lt =
    elim (eqb_tells k n) [
      | inl e ↦ rw e.1 (and_left (t n) (all_below n t) h)
      | inr e ↦ all_below-at n t (and_right (t n) (all_below n t) h) k (omega (arith, lt, e.1))
    ]

-- two functions that were computed to be equal below n
pub same_below : (n : ℕ) (f g : ℕ → ℕ) → all_below n (λ k. nat_eq (f k) (g k)) ≡ true → (k : ℕ) → k < n → f k ≡ g k
same_below n f g h k lt = eqb-true _ _ (all_below-at n (λ k. nat_eq (f k) (g k)) h k lt)
