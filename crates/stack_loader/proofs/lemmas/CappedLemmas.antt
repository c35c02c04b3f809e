-- Costs above their ceiling, kept as that.
use Rattle.std.proofs.Common.{◌≡◌, ◌+◌, ◌-◌, ◌^◌, ◌≤◌, ℕ, max, min, List, [], ◌∷◌, refl, Option, Some, None, map, nat_lt, arith}
use Rattle.std.specs.Prelude.{flat_map}
use Rattle.std.specs.List.{range_with_len}
use Rattle.std.proofs.lemmas.Bool.Decides.{nat_tests}
use Rattle.dm_table.specs.declared.table.Line.{Line}
use Rattle.dm_table.specs.declared.table.Target.{Target}
use Rattle.stack_loader.specs.declared.cost.Direction.{Direction}
use Rattle.stack_loader.specs.declared.cost.Direction.TheVariants.{Read, Write}
use Rattle.stack_rules.specs.declared.lower.Lower.{Lower}
use Rattle.stack_rules.specs.declared.lower.Lower.TheVariants.{Leaf as leaf, Device as device}
use Rattle.stack_rules.specs.declared.refusal.LoadKind.TheVariants.{CostTooLarge}
use Rattle.stack_rules.specs.Records.{Configuration}
use Rattle.stack_rules.specs.Names.{mapped, named, names, lines_of}
use Rattle.stack_rules.specs.Descend.{greatest, known, by_name, cost_rule, line_read_cost, line_write_cost}
use Rattle.stack_rules.specs.Kept.{each_mapped}
use Rattle.stack_loader.specs.Costs.{ceiling, capped_cost, cost_in, line_cost}
use Rattle.stack_rules.specs.Rules.{refuse, most_cost}
use Rattle.stack_rules.proofs.lemmas.CostLaws.{AreCapped}
use Rattle.stack_rules.proofs.lemmas.RulesLawsOf.{rules-laws}

-- ---- sums and maxima, where k is the most that is kept

max-capped : (k a b x y : ℕ) → min k a ≡ min k b → min k x ≡ min k y → min k (max a x) ≡ min k (max b y)
max-capped k a b x y p q = omega (arith, p, q)

capped-twice : (k a : ℕ) → min k (min k a) ≡ min k a
capped-twice k a = omega arith

-- ---- the rule of capped costs is the capped cost

module _ (k : ℕ) (c : Configuration) (f : Lower → ℕ) where
  name-capped : (n : List ℕ) → min k (by_name c 0 (λ y. min k (f y)) n) ≡ min k (by_name c 0 f n)
  name-capped n = go (named c n)
    where
      go : (o : Option Lower) → min k (known 0 (λ y. min k (f y)) o) ≡ min k (known 0 f o)
      go None = refl
      go (Some y) = capped-twice k (f y)

  names-capped : (ns : List (List ℕ)) → AreCapped k (map (by_name c 0 (λ y. min k (f y))) ns) (map (by_name c 0 f) ns)
  names-capped [] = tt
  names-capped (n ∷ ns) = (name-capped n, names-capped ns)

  read-capped : (target : Target) → min k (line_read_cost (by_name c 0 (λ y. min k (f y))) target) ≡ min k (line_read_cost (by_name c 0 f) target)
  read-capped target =
      (rules-laws target).costs.read_caps k (map (by_name c 0 (λ y. min k (f y))) (names target)) (map (by_name c 0 f) (names target)) (names-capped (names target))

  write-capped : (read : List ℕ → ℕ) (target : Target) → min k (line_write_cost read (by_name c 0 (λ y. min k (f y))) target) ≡ min k (line_write_cost read (by_name c 0 f) target)
  write-capped read target =
      (rules-laws target).costs.write_caps (map read (names target)) k (map (by_name c 0 (λ y. min k (f y))) (names target)) (map (by_name c 0 f) (names target)) (names-capped (names target))

line-capped : (c : Configuration) (direction : Direction) (f : Lower → ℕ) (target : Target)
    → capped_cost direction (line_cost c direction (by_name c 0 (λ y. capped_cost direction (f y))) target) ≡ capped_cost direction (line_cost c direction (by_name c 0 f) target)
line-capped c Read f target = read-capped (most_cost + 1) c f target
line-capped c (Write reads) f target = write-capped (2 ^ 60) c f (by_name c 0 (cost_in reads.now)) target

lines-capped : (c : Configuration) (direction : Direction) (f : Lower → ℕ) (lines : List Line)
    → capped_cost direction (greatest (map (λ (line : Line). line_cost c direction (by_name c 0 (λ y. capped_cost direction (f y))) line.target) lines)) ≡ capped_cost direction (greatest (map (λ (line : Line). line_cost c direction (by_name c 0 f) line.target) lines))
lines-capped c direction f [] = refl
lines-capped c direction f (x ∷ xs) =
    max-capped (ceiling direction) (line_cost c direction (by_name c 0 (λ y. capped_cost direction (f y))) x.target) (line_cost c direction (by_name c 0 f) x.target)
    (greatest (map (λ (line : Line). line_cost c direction (by_name c 0 (λ y. capped_cost direction (f y))) line.target) xs)) (greatest (map (λ (line : Line). line_cost c direction (by_name c 0 f) line.target) xs))
    (line-capped c direction f x.target) (lines-capped c direction f xs)

pub rule-capped : (c : Configuration) (direction : Direction) (f : Lower → ℕ) (x : Lower) → capped_cost direction (cost_rule c (line_cost c direction) (λ y. capped_cost direction (f y)) x) ≡ capped_cost direction (cost_rule c (line_cost c direction) f x)
rule-capped c direction f (leaf i) = refl
rule-capped c direction f (device d) = lines-capped c direction f (lines_of c d.0)

-- ---- the limit on capped costs is the limit on costs

lt-capped : (a : ℕ) → nat_lt most_cost (capped_cost Read a) ≡ nat_lt most_cost a
lt-capped a = grind (arith, nat_tests)

pub above-capped : {X : Type 0} (f : Lower → ℕ) (xs : List (ℕ × X))
    → flat_map (λ (p : ℕ × X). refuse CostTooLarge p.0 0 (nat_lt most_cost (capped_cost Read (f (mapped (p.0 - 1))))) ∷ []) xs ≡ flat_map (λ (p : ℕ × X). refuse CostTooLarge p.0 0 (nat_lt most_cost (f (mapped (p.0 - 1)))) ∷ []) xs
above-capped f [] = refl
above-capped f (p ∷ ps) = rw (lt-capped (f (mapped (p.0 - 1))), above-capped f ps) refl

-- where none is above the ceiling, capped costs are the costs
range-exact : (direction : Direction) (f g : Lower → ℕ) → ((x : Lower) → f x ≡ g x) → ((x : Lower) → g x ≤ ceiling direction) → (ns : List ℕ) → map (λ d. capped_cost direction (f (mapped d))) ns ≡ map (λ d. g (mapped d)) ns
range-exact direction f g same low [] = refl
range-exact direction f g same low (n ∷ ns) =
    let here : capped_cost direction (f (mapped n)) ≡ g (mapped n) = omega (arith, same (mapped n), low (mapped n)) in
    rw (here, range-exact direction f g same low ns) refl

pub each-exact : (direction : Direction) (f g : Lower → ℕ) → ((x : Lower) → f x ≡ g x) → ((x : Lower) → g x ≤ ceiling direction) → (n : ℕ) → each_mapped (λ x. capped_cost direction (f x)) n ≡ each_mapped g n
each-exact direction f g same low n = range-exact direction f g same low (range_with_len 0 n)
