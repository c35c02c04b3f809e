-- Write costs: no limit of their own is needed, since no depth and no read cost is above its limit.
use Rattle.std.proofs.Common.{◌≡◌, ◌+◌, ◌*◌, ◌^◌, ◌≤◌, ◌<◌, ℕ, zero, suc, List, [], ◌∷◌, refl, Option, Some, None, map, arith}
use Rattle.std.specs.Prelude.{slice_get}
use Rattle.std.specs.List.{AllByRecursion}
use Rattle.dm_table.specs.declared.table.Line.{Line}
use Rattle.dm_table.specs.declared.table.Target.{Target}
use Rattle.stack_rules.specs.declared.lower.Lower.{Lower}
use Rattle.stack_rules.specs.declared.lower.Lower.TheVariants.{Leaf as leaf, Device as device}
use Rattle.stack_rules.specs.Records.{Configuration}
use Rattle.stack_rules.specs.Names.{mapped, named, names, lines_of}
use Rattle.stack_rules.specs.Descend.{descend, depth, greatest, known, by_name, line_write_cost, read_cost, write_cost}
use Rattle.stack_rules.specs.Rules.{IsValid, most_depth, most_cost}
use Rattle.stack_rules.proofs.lemmas.RulesLawsOf.{rules-laws}
use Rattle.stack_rules.proofs.lemmas.CostRuleLemmas.{line_write_cost-local, cost-rule}
use Rattle.stack_config.proofs.lemmas.LoadedLineLemmas.{names-shallower}
use Rattle.stack_rules.proofs.lemmas.UnrollLemmas.{depth-rule}
use Rattle.stack_rules.proofs.lemmas.ValidLemmas.{depth-low, cost-low}

-- ---- one line, where no device that it names costs more than b to write

costs-low : (cost : List ℕ → ℕ) (b : ℕ) (ns : List (List ℕ)) → AllByRecursion (λ name. cost name ≤ b) ns → AllByRecursion (λ n. n ≤ b) (map cost ns)
costs-low cost b [] all = tt
costs-low cost b (n ∷ ns) all = (all.0, costs-low cost b ns all.1)

each-low : (cost : List ℕ → ℕ) (b : ℕ) (ns : List (List ℕ)) → ((name : List ℕ) → cost name ≤ b) → AllByRecursion (λ n. n ≤ b) (map cost ns)
each-low cost b [] all = tt
each-low cost b (n ∷ ns) all = (all n, each-low cost b ns all)

line-low : (read cost : List ℕ → ℕ) (b : ℕ) → ((name : List ℕ) → read name ≤ most_cost) → (target : Target) → AllByRecursion (λ name. cost name ≤ b) (names target) → line_write_cost read cost target ≤ 8 * (most_cost + b)
line-low read cost b cheap target all =
    (rules-laws target).costs.write_low (map read (names target)) (map cost (names target)) most_cost b (each-low read most_cost (names target) cheap) (costs-low cost b (names target) all)

-- ---- one device

lines-low : (f : Line → ℕ) (b : ℕ) (lines : List Line) → ((l : ℕ) (line : Line) → slice_get lines l ≡ Some line → f line ≤ b) → greatest (map f lines) ≤ b
lines-low f b [] all = omega arith
lines-low f b (x ∷ xs) all = omega (arith, all 0 x refl, lines-low f b xs (λ l line there. all (suc l) line there))

write_cost-leaf : (c : Configuration) (i : ℕ) → write_cost c (leaf i) ≡ 1
unfolding descend
write_cost-leaf c i = refl

-- the most that a device of depth k can cost
most : ℕ → ℕ
most zero = 1
most (suc k) = 8 * (most_cost + most k)

most-some : (k : ℕ) → 1 ≤ most k
unfolding most
most-some zero = omega arith
most-some (suc k) = omega arith

module _ (c : Configuration) (valid : IsValid c) where
  shallow : (x : Lower) → depth c x ≤ most_depth
  shallow x = depth-low c valid x

  cheap : (name : List ℕ) → by_name c 0 (read_cost c) name ≤ most_cost
  cheap name = go (named c name)
    where
      go : (o : Option Lower) → known 0 (read_cost c) o ≤ most_cost
      go None = omega arith
      go (Some y) = cost-low c valid y

  names-low : (k : ℕ) (d : ℕ) → ((y : Lower) → depth c y ≤ k → write_cost c y ≤ most k) → depth c (mapped d) ≤ suc k
      → (ns : List (List ℕ)) → AllByRecursion (λ name. (y : Lower) → named c name ≡ Some y → depth c y < depth c (mapped d)) ns → AllByRecursion (λ name. by_name c 0 (write_cost c) name ≤ most k) ns
  names-low k d below low [] all = tt
  names-low k d below low (n ∷ ns) all = (go (named c n) all.0, names-low k d below low ns all.1)
    where
      go : (o : Option Lower) → ((y : Lower) → o ≡ Some y → depth c y < depth c (mapped d)) → known 0 (write_cost c) o ≤ most k
      go None less = omega arith
      go (Some y) less = below y (omega (arith, less y refl, low))

  cost-most : (k : ℕ) (x : Lower) → depth c x ≤ k → write_cost c x ≤ most k
  unfolding most
  cost-most k (leaf i) low = omega (arith, write_cost-leaf c i, most-some k)
  cost-most zero (device d) low = let rule = depth-rule c (λ x. let h = shallow x in omega (arith, h)) (device d) in absurd (omega (arith, rule, low))
  cost-most (suc k) (device d) low =
      let read : List ℕ → ℕ = by_name c 0 (read_cost c) in
      let write : List ℕ → ℕ = by_name c 0 (write_cost c) in
      let all = lines-low (λ (line : Line). line_write_cost read write line.target) (8 * (most_cost + most k)) (lines_of c d.0)
      (λ l line there. line-low read write (most k) cheap line.target (names-low k d.0 (cost-most k) low (names line.target) (names-shallower c d.0 l line valid there))) in
      omega (arith, all, cost-rule c (line_write_cost read) (line_write_cost-local read) shallow (device d))

  -- so no write cost is above 2^60
  pub write_cost-low : (x : Lower) → write_cost c x ≤ 2 ^ 60
  unfolding most
  write_cost-low x = let all = cost-most most_depth x (shallow x) in omega (arith, all)
