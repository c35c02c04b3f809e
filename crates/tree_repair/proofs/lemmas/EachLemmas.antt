-- What holds of each number below one, or something else does.
use Rattle.std.proofs.Common.{◌≡◌, ◌<◌, ℕ, zero, suc, subst, arith, inl, inr, ◌⊎◌}
use Rattle.std.proofs.lemmas.Bool.{cases_lt}

pub each-or : (P : ℕ → Type 0) (C : Type 0) (n : ℕ) → ((l : ℕ) → l < n → P l ⊎ C) → ((l : ℕ) → l < n → P l) ⊎ C
each-or P C zero each = inl (λ l low. absurd (omega (arith, low)))
each-or P C (suc n) each = elim (each-or P C n (λ l low. each l (omega (arith, low)))) [
  | inr other ↦ inr other
  | inl below ↦ elim (each n (omega arith)) [
    | inr other ↦ inr other
    | inl here ↦ inl (λ l low. elim (cases_lt l n) [
      | inl less ↦ below l less
      | inr not ↦ let at : n ≡ l = omega (arith, low, not) in subst P at here
    ])
  ]
]
