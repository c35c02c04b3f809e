-- Runs that cost no more together than one after the other.
use Rattle.std.proofs.Common.{◌≡◌, ℕ, zero, suc, ◌+◌, ◌<◌, ◌≤◌, Bool, true, false, cond, refl, sym, ap, ◌∙◌, arith, inl, inr}
use Rattle.std.proofs.lemmas.Bool.{cases_lt}
use Rattle.stack_lines.specs.Prices.{Pricing, run_and_behind, by_runs}

-- several sectors cost no more than those before and those after some place
abbrev pub CostsLess : Pricing → Type 0
CostsLess f = (s a b : ℕ) → f s (a + b) ≤ f s a + f (s + a) b

cond-up : (b b' : Bool) (x y x' y' z : ℕ) → b ≡ b' → x ≤ z + x' → y ≤ z + y' → cond b x y ≤ z + cond b' x' y'
cond-up true true x y x' y' z e p q = p
cond-up true false x y x' y' z e p q = cc
cond-up false true x y x' y' z e p q = cc
cond-up false false x y x' y' z e p q = q

pub cond-below : (b : Bool) (x y z : ℕ) → (b ≡ true → x ≤ z) → y ≤ z → cond b x y ≤ z
cond-below true x y z p q = p refl
cond-below false x y z p q = q

cond-both : (b : Bool) (x y x' y' z : ℕ) → (b ≡ true → x ≤ x' + z) → y ≤ y' + z → cond b x y ≤ cond b x' y' + z
cond-both true x y x' y' z p q = p refl
cond-both false x y x' y' z p q = q

module _ (tog : ℕ → Bool) (price : Pricing) (less : (s a b : ℕ) → ((j : ℕ) → j < a → tog (s + j) ≡ true) → price s (a + b) ≤ price s a + price (s + a) b) where
  -- a run that is split in two, and what is after it
  behind-less : (s k j b : ℕ) → ((i : ℕ) → i < suc k → tog (s + i) ≡ true) → run_and_behind tog price s (k + suc j) b ≤ price s (suc k) + run_and_behind tog price (s + suc k) j b
  behind-less s k j zero all =
      let sum : suc (k + suc j) ≡ suc k + suc j = omega arith in
      let whole : price s (suc (k + suc j)) ≡ price s (suc k + suc j) = ap (price s) sum in
      omega (arith, whole, less s (suc k) (suc j) all)
  behind-less s k j (suc b) all =
      let last : s + (k + suc j) ≡ s + suc k + j = omega arith in
      let longer : suc (k + suc j) ≡ k + suc (suc j) = omega arith in
      let sum : suc (k + suc j) ≡ suc k + suc j = omega arith in
      let next : s + suc (k + suc j) ≡ s + suc k + suc j = omega arith in
      let one : run_and_behind tog price s (suc (k + suc j)) b ≡ run_and_behind tog price s (k + suc (suc j)) b = ap (λ (n : ℕ). run_and_behind tog price s n b) longer in
      let more : run_and_behind tog price s (k + suc (suc j)) b ≤ price s (suc k) + run_and_behind tog price (s + suc k) (suc j) b = behind-less s k (suc j) b all in
      let whole : price s (suc (k + suc j)) ≡ price s (suc k + suc j) = ap (price s) sum in
      let rest : run_and_behind tog price (s + suc (k + suc j)) 0 b ≡ run_and_behind tog price (s + suc k + suc j) 0 b = ap (λ (n : ℕ). run_and_behind tog price n 0 b) next in
      cond-up (tog (s + (k + suc j))) (tog (s + suc k + j)) (run_and_behind tog price s (suc (k + suc j)) b) (price s (suc (k + suc j)) + run_and_behind tog price (s + suc (k + suc j)) 0 b)
      (run_and_behind tog price (s + suc k) (suc j) b) (price (s + suc k) (suc j) + run_and_behind tog price (s + suc k + suc j) 0 b) (price s (suc k)) (ap tog last) (omega (arith, one, more))
      (omega (arith, whole, rest, less s (suc k) (suc j) all))

  more-together : (s k : ℕ) → ((i : ℕ) → i < k → tog (s + i) ≡ true) → tog (s + k) ≡ true → (i : ℕ) → i < suc k → tog (s + i) ≡ true
  more-together s k all one i h = elim (cases_lt i k) [
    | inl low ↦ all i low
    | inr last ↦ let same : s + i ≡ s + k = omega (arith, last, h) in ap tog same ∙ one
  ]

  join-less : (s k n b : ℕ) → ((i : ℕ) → i < k → tog (s + i) ≡ true) → run_and_behind tog price s k (n + b) ≤ run_and_behind tog price s k n + by_runs tog price (s + k + n + 1) b
  join-less s k zero zero all = omega arith
  join-less s k zero (suc b) all =
      let none : 0 + suc b ≡ suc b = omega arith in
      let next : s + k + 0 + 1 ≡ s + suc k = omega arith in
      let one : k + suc 0 ≡ suc k = omega arith in
      let rest : run_and_behind tog price (s + k + 0 + 1) 0 b ≡ run_and_behind tog price (s + suc k) 0 b = ap (λ (m : ℕ). run_and_behind tog price m 0 b) next in
      let whole : run_and_behind tog price s k (0 + suc b) ≡ run_and_behind tog price s k (suc b) = ap (run_and_behind tog price s k) none in
      let less-so : run_and_behind tog price s k (suc b) ≤ price s (suc k) + run_and_behind tog price (s + suc k) 0 b =
      cond-below (tog (s + k)) (run_and_behind tog price s (suc k) b) (price s (suc k) + run_and_behind tog price (s + suc k) 0 b) (price s (suc k) + run_and_behind tog price (s + suc k) 0 b)
      (λ is.
      let longer : run_and_behind tog price s (k + suc 0) b ≡ run_and_behind tog price s (suc k) b = ap (λ (m : ℕ). run_and_behind tog price s m b) one in
      omega (arith, longer, behind-less s k 0 b (more-together s k all is))) (omega arith) in
      omega (arith, whole, less-so, rest)
  join-less s k (suc n) b all =
      let more : suc n + b ≡ suc (n + b) = omega arith in
      let at : s + suc k + n + 1 ≡ s + k + suc n + 1 = omega arith in
      let at' : s + suc k + 0 + n + 1 ≡ s + k + suc n + 1 = omega arith in
      let behind : by_runs tog price (s + suc k + n + 1) b ≡ by_runs tog price (s + k + suc n + 1) b = ap (λ (m : ℕ). by_runs tog price m b) at in
      let behind' : by_runs tog price (s + suc k + 0 + n + 1) b ≡ by_runs tog price (s + k + suc n + 1) b = ap (λ (m : ℕ). by_runs tog price m b) at' in
      let whole : run_and_behind tog price s k (suc n + b) ≡ run_and_behind tog price s k (suc (n + b)) = ap (run_and_behind tog price s k) more in
      let less-so : run_and_behind tog price s k (suc (n + b)) ≤ run_and_behind tog price s k (suc n) + by_runs tog price (s + k + suc n + 1) b =
      cond-both (tog (s + k)) (run_and_behind tog price s (suc k) (n + b)) (price s (suc k) + run_and_behind tog price (s + suc k) 0 (n + b)) (run_and_behind tog price s (suc k) n)
      (price s (suc k) + run_and_behind tog price (s + suc k) 0 n) (by_runs tog price (s + k + suc n + 1) b)
      (λ is. omega (arith, behind, join-less s (suc k) n b (more-together s k all is)))
      (omega (arith, behind', join-less (s + suc k) 0 n b (λ i h. absurd (omega (arith, h))))) in
      omega (arith, whole, less-so)

  pub runs-less : CostsLess (by_runs tog price)
  runs-less s zero b =
      let at : s + 0 ≡ s = omega arith in
      let none : 0 + b ≡ b = omega arith in
      let same : by_runs tog price s (0 + b) ≡ by_runs tog price (s + 0) b = ap (by_runs tog price s) none ∙ ap (λ (m : ℕ). by_runs tog price m b) (sym at) in
      omega (arith, same)
  runs-less s (suc n) b =
      let more : suc n + b ≡ suc (n + b) = omega arith in
      let at : s + 0 + n + 1 ≡ s + suc n = omega arith in
      let whole : by_runs tog price s (suc n + b) ≡ run_and_behind tog price s 0 (n + b) = ap (by_runs tog price s) more in
      let behind : by_runs tog price (s + 0 + n + 1) b ≡ by_runs tog price (s + suc n) b = ap (λ (m : ℕ). by_runs tog price m b) at in
      omega (arith, whole, behind, join-less s 0 n b (λ i h. absurd (omega (arith, h))))
