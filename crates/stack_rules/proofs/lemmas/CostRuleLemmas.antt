-- The equation of costs, of lines whose cost depends on what they name alone.
use Rattle.std.proofs.Common.{◌≡◌, ◌≤◌, ℕ, List, [], ◌∷◌, ◌++◌, refl, ap, Option, Some, None, map, arith}
use Rattle.std.specs.Prelude.{filter_map, flat_map}
use Rattle.std.specs.List.{AllByRecursion, cons_option}
use Rattle.dm_table.specs.declared.table.Line.{Line}
use Rattle.dm_table.specs.declared.table.Target.{Target}
use Rattle.stack_rules.specs.declared.lower.Lower.{Lower}
use Rattle.stack_rules.specs.declared.lower.Lower.TheVariants.{Leaf as leaf, Device as device}
use Rattle.stack_rules.specs.Records.{Configuration}
use Rattle.stack_rules.specs.Names.{named, names, lowers_of, lines_of}
use Rattle.stack_rules.specs.Descend.{depth, descend, greatest, known, by_name, cost_rule, line_read_cost, line_write_cost}
use Rattle.stack_rules.specs.Rules.{most_depth}
use Rattle.stack_rules.specs.RulesOf.{rules_of}
use Rattle.stack_rules.proofs.lemmas.UnrollLemmas.{AllOf, all_and, IsLocal, descend-rule, falls-at}

-- a line's cost depends on the costs of what it names alone
abbrev pub IsLineLocal : ((List ℕ → ℕ) → Target → ℕ) → Type 0
IsLineLocal line_cost = (cost other : List ℕ → ℕ) (target : Target) → AllByRecursion (λ n. cost n ≡ other n) (names target) → line_cost cost target ≡ line_cost other target

pub costs-same : (cost other : List ℕ → ℕ) (ns : List (List ℕ)) → AllByRecursion (λ n. cost n ≡ other n) ns → map cost ns ≡ map other ns
costs-same cost other [] all = refl
costs-same cost other (n ∷ ns) all = rw (all.0, costs-same cost other ns all.1) refl

pub line_read_cost-local : IsLineLocal line_read_cost
line_read_cost-local cost other target all = ap (rules_of target).read_cost (costs-same cost other (names target) all)

pub line_write_cost-local : (read : List ℕ → ℕ) → IsLineLocal (line_write_cost read)
line_write_cost-local read cost other target all = ap ((rules_of target).write_cost (map read (names target))) (costs-same cost other (names target) all)

-- ---- from the devices beneath to the names of each line

recursion-of : {P : Lower → Type 0} (xs : List Lower) → AllOf P xs → AllByRecursion P xs
recursion-of [] all = tt
recursion-of (x ∷ xs) (all_and here more) = (here, recursion-of xs more)

pub in-append : {X : Type 0} (P : X → Type 0) (xs ys : List X) → AllByRecursion P (xs ++ ys) → AllByRecursion P xs × AllByRecursion P ys
in-append P [] ys all = (tt, all)
in-append P (x ∷ xs) ys all = let more = in-append P xs ys all.1 in ((all.0, more.0), more.1)

filter-append : (c : Configuration) (ns ms : List (List ℕ)) → filter_map (named c) (ns ++ ms) ≡ filter_map (named c) ns ++ filter_map (named c) ms
filter-append c [] ms = refl
filter-append c (n ∷ ns) ms = go (named c n) (filter-append c ns ms)
  where
    go : (o : Option Lower) → filter_map (named c) (ns ++ ms) ≡ filter_map (named c) ns ++ filter_map (named c) ms
        → cons_option o (filter_map (named c) (ns ++ ms)) ≡ cons_option o (filter_map (named c) ns) ++ filter_map (named c) ms
    go None more = more
    go (Some y) more = ap (λ ys. y ∷ ys) more

pub cons-tail : (P : Lower → Type 0) (o : Option Lower) (ys : List Lower) → AllByRecursion P (cons_option o ys) → AllByRecursion P ys
cons-tail P None ys all = all
cons-tail P (Some z) ys all = all.1

names-same : (c : Configuration) (f g : Lower → ℕ) (ns : List (List ℕ)) → AllByRecursion (λ y. f y ≡ g y) (filter_map (named c) ns) → AllByRecursion (λ n. by_name c 0 f n ≡ by_name c 0 g n) ns
names-same c f g [] all = tt
names-same c f g (n ∷ ns) all = (head (named c n) all, names-same c f g ns (cons-tail (λ y. f y ≡ g y) (named c n) (filter_map (named c) ns) all))
  where
    head : (o : Option Lower) → AllByRecursion (λ y. f y ≡ g y) (cons_option o (filter_map (named c) ns)) → known 0 f o ≡ known 0 g o
    head None all = refl
    head (Some y) all = all.0

lines-same : (c : Configuration) (line_cost : (List ℕ → ℕ) → Target → ℕ) → IsLineLocal line_cost → (f g : Lower → ℕ) (lines : List Line)
    → AllByRecursion (λ y. f y ≡ g y) (filter_map (named c) (flat_map (λ (line : Line). names line.target) lines))
    → greatest (map (λ (line : Line). line_cost (by_name c 0 f) line.target) lines) ≡ greatest (map (λ (line : Line). line_cost (by_name c 0 g) line.target) lines)
lines-same c line_cost local f g [] all = refl
lines-same c line_cost local f g (x ∷ xs) all =
    let both = in-append (λ y. f y ≡ g y) (filter_map (named c) (names x.target)) (filter_map (named c) (flat_map (λ (line : Line). names line.target) xs))
    (rw (filter-append c (names x.target) (flat_map (λ (line : Line). names line.target) xs)) at all) in
    let here = local (by_name c 0 f) (by_name c 0 g) x.target (names-same c f g (names x.target) both.0) in
    rw (here, lines-same c line_cost local f g xs both.1) refl

-- a device's cost depends on what is directly beneath alone
pub cost_rule-local : (c : Configuration) (line_cost : (List ℕ → ℕ) → Target → ℕ) → IsLineLocal line_cost → IsLocal c (cost_rule c line_cost)
cost_rule-local c line_cost local f g (leaf i) all = refl
cost_rule-local c line_cost local f g (device d) all = lines-same c line_cost local f g (lines_of c d.0) (recursion-of (lowers_of c (device d)) all)

-- the equation of costs, where no depth is above the limit
pub cost-rule : (c : Configuration) (line_cost : (List ℕ → ℕ) → Target → ℕ) → IsLineLocal line_cost → ((x : Lower) → depth c x ≤ most_depth) → (x : Lower)
    → descend 0 (cost_rule c line_cost) x ≡ cost_rule c line_cost (descend 0 (cost_rule c line_cost)) x
cost-rule c line_cost local low x =
    descend-rule c 0 (cost_rule c line_cost) (cost_rule-local c line_cost local) (depth c) (falls-at c (λ x. let shallow = low x in omega (arith, shallow))) x
    (let shallow = low x in omega (arith, shallow))
