-- What holds of a target's costs, whatever its kind is.
use Rattle.std.proofs.Common.{◌≡◌, ◌+◌, ◌*◌, ◌≤◌, ℕ, zero, suc, min, List, [], ◌∷◌, Option, Some, arith}
use Rattle.std.specs.List.{AllByRecursion}
use Rattle.std.proofs.Math.Nat.{le-max_left, le-max_right}
use Rattle.stack_rules.specs.TargetRules.{greatest, cost_at}

-- no base on which a sector lies costs more than a sector of the line
abbrev pub Covers : (ℕ → Option (ℕ × ℕ)) → (List ℕ → ℕ) → Type 0
Covers lies cost = (costs : List ℕ) (s : ℕ) (p : ℕ × ℕ) → lies s ≡ Some p → cost_at costs p.0 ≤ cost costs

-- costs of the same bases that are the same up to k
abbrev pub AreCapped : ℕ → List ℕ → List ℕ → Type 0
AreCapped k [] [] = Unit {0}
AreCapped k [] (y ∷ ys) = ⊥
AreCapped k (x ∷ xs) [] = ⊥
AreCapped k (x ∷ xs) (y ∷ ys) = (min k x ≡ min k y) × AreCapped k xs ys

-- up to k, a sector of the line costs the same where the bases do
abbrev pub Caps : (List ℕ → ℕ) → Type 0
Caps cost = (k : ℕ) (xs ys : List ℕ) → AreCapped k xs ys → min k (cost xs) ≡ min k (cost ys)

-- where no base costs more than r to read and b to write, a write costs at most eight times both
abbrev pub IsLow : (List ℕ → List ℕ → ℕ) → Type 0
IsLow cost = (reads writes : List ℕ) (r b : ℕ) → AllByRecursion (λ n. n ≤ r) reads → AllByRecursion (λ n. n ≤ b) writes → cost reads writes ≤ 8 * (r + b)

pub record CostLaws (lies : ℕ → Option (ℕ × ℕ)) (read_cost : List ℕ → ℕ) (write_cost : List ℕ → List ℕ → ℕ) : Type 0 where
  pub read_covers : Covers lies read_cost
  pub write_covers : (reads : List ℕ) → Covers lies (write_cost reads)
  pub read_caps : Caps read_cost
  pub write_caps : (reads : List ℕ) → Caps (write_cost reads)
  pub write_low : IsLow write_cost

-- ---- the cost of one base

pub at-capped : (k : ℕ) (xs ys : List ℕ) (i : ℕ) → AreCapped k xs ys → min k (cost_at xs i) ≡ min k (cost_at ys i)
at-capped k [] [] i same = omega arith
at-capped k [] (y ∷ ys) i same = absurd same
at-capped k (x ∷ xs) [] i same = absurd same
at-capped k (x ∷ xs) (y ∷ ys) zero same = same.0
at-capped k (x ∷ xs) (y ∷ ys) (suc i) same = at-capped k xs ys i same.1

pub at-low : (b : ℕ) (xs : List ℕ) (i : ℕ) → AllByRecursion (λ n. n ≤ b) xs → cost_at xs i ≤ b
at-low b [] i all = omega arith
at-low b (x ∷ xs) zero all = all.0
at-low b (x ∷ xs) (suc i) all = at-low b xs i all.1

-- ---- what the dearest base costs

dearest-covers : (costs : List ℕ) (i : ℕ) → cost_at costs i ≤ greatest costs
dearest-covers [] i = omega arith
dearest-covers (x ∷ costs) zero = le-max_left x (greatest costs)
dearest-covers (x ∷ costs) (suc i) = omega (arith, dearest-covers costs i, le-max_right x (greatest costs))

pub dearest-capped : Caps greatest
dearest-capped k [] [] same = omega arith
dearest-capped k [] (y ∷ ys) same = absurd same
dearest-capped k (x ∷ xs) [] same = absurd same
dearest-capped k (x ∷ xs) (y ∷ ys) same = omega (arith, same.0, dearest-capped k xs ys same.1)

dearest-low : (b : ℕ) (xs : List ℕ) → AllByRecursion (λ n. n ≤ b) xs → greatest xs ≤ b
dearest-low b [] all = omega arith
dearest-low b (x ∷ xs) all = omega (arith, all.0, dearest-low b xs all.1)

pub dearest-laws : (lies : ℕ → Option (ℕ × ℕ)) → CostLaws lies greatest (λ reads. greatest)
dearest-laws lies = record {
  read_covers = λ costs s p e. dearest-covers costs p.0;
  write_covers = λ reads costs s p e. dearest-covers costs p.0;
  read_caps = dearest-capped;
  write_caps = λ reads. dearest-capped;
  write_low = λ reads writes r b cheap low. omega (arith, dearest-low b writes low);
}
