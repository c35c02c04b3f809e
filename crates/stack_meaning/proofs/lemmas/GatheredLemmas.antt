-- What is gathered from some sectors.
use Rattle.std.proofs.Common.{◌≡◌, ℕ, zero, suc, ◌+◌, ◌-◌, ◌<◌, ◌≤◌, List, ◌++◌, length, get_or, Contains, sym, ap, ◌∙◌, subst, arith, inl, inr}
use Rattle.std.proofs.lemmas.Bool.{cases_lt}
use Rattle.std.proofs.lemmas.List.{length-append, get_or_append_left, get_or-append-add}
use Rattle.std.proofs.lemmas.List.Elements.{Contains-append_left, Contains-append_right}
use Rattle.stack_meaning.specs.Sectors.{SomeOf, gathered}

pub SomeOf-more : (P : ℕ → Type 0) (first a m n : ℕ) → a + m ≤ n → SomeOf P (first + a) m → SomeOf P first n
SomeOf-more P first a m n h some = let at : first + a + some.0 ≡ first + (a + some.0) = omega arith in (a + some.0, omega (arith, h, some.1), subst P at some.2)

-- what is gathered from some sectors is what one of them has
pub in-gathered : {X : Type 0} (f : ℕ → List X) (first n j : ℕ) (x : X) → j < n → Contains (f (first + j)) x → Contains (gathered f first n) x
in-gathered f first zero j x h there = absurd (omega (arith, h))
in-gathered f first (suc n) zero x h there =
    let at : first + 0 ≡ first = omega arith in
    Contains-append_left (f first) (gathered f (suc first) n) x (subst (λ (s : ℕ). Contains (f s) x) at there)
in-gathered f first (suc n) (suc j) x h there =
    let at : first + suc j ≡ suc first + j = omega arith in
    Contains-append_right (f first) (gathered f (suc first) n) x (in-gathered f (suc first) n j x (omega (arith, h)) (subst (λ (s : ℕ). Contains (f s) x) at there))

pub of-gathered : {X : Type 0} (f : ℕ → List X) (first n : ℕ) (x : X) → Contains (gathered f first n) x → SomeOf (λ s. Contains (f s) x) first n
of-gathered f first zero x there = absurd (omega (arith, there.1))
of-gathered f first (suc n) x there = elim (cases_lt there.0 (length (f first))) [
  | inl low ↦
      let at : first ≡ first + 0 = omega arith in
      (0, omega arith, subst (λ (s : ℕ). Contains (f s) x) at (there.0, low, sym (get_or_append_left (f first) (gathered f (suc first) n) x there.0 low) ∙ there.2))
  | inr high ↦
      let k : ℕ = there.0 - length (f first) in
      let back : length (f first) + k ≡ there.0 = omega (arith, high) in
      let rest = of-gathered f (suc first) n x (
        k,
        omega (arith, there.1, back, length-append (f first) (gathered f (suc first) n)),
        sym (get_or-append-add (f first) (gathered f (suc first) n) k x) ∙ ap (λ (i : ℕ). get_or (f first ++ gathered f (suc first) n) i x) back ∙ there.2,
      ) in
      let at : suc first + rest.0 ≡ first + suc rest.0 = omega arith in
      (suc rest.0, omega (arith, rest.1), subst (λ (s : ℕ). Contains (f s) x) at rest.2)
]
