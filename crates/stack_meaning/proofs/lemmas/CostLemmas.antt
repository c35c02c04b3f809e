-- Costs fall from a device to those on which its sectors lie.
use Rattle.std.proofs.Common.{◌≡◌, ℕ, zero, suc, ◌+◌, ◌≤◌, List, [], ◌∷◌, map, Option, Some, None, refl, ap, arith}
use Rattle.std.specs.Prelude.{option_and_then}
use Rattle.std.specs.List.{AllByRecursion}
use Rattle.std.proofs.Math.Nat.{le-max_left, le-max_right}
use Rattle.dm_table.specs.declared.table.Base.{Base}
use Rattle.dm_table.specs.declared.table.Line.{Line}
use Rattle.dm_table.specs.declared.table.Target.{Target}
use Rattle.stack_rules.specs.declared.lower.Lower.{Lower}
use Rattle.stack_rules.specs.declared.lower.Lower.TheVariants.{Leaf as leaf}
use Rattle.stack_rules.specs.Records.{Configuration}
use Rattle.stack_rules.specs.Names.{mapped, named, names, lines_of}
use Rattle.stack_rules.specs.Descend.{descend, greatest, known, by_name, line_read_cost, line_write_cost, cost_rule, read_cost, write_cost}
use Rattle.stack_rules.specs.Lines.{IsLine}
use Rattle.stack_rules.specs.TargetRules.{cost_at}
use Rattle.stack_rules.specs.RulesOf.{rules_of}
use Rattle.stack_rules.proofs.lemmas.CostLaws.{Covers}
use Rattle.stack_rules.proofs.lemmas.RulesLawsOf.{rules-laws}
use Rattle.stack_rules.proofs.lemmas.CostRuleLemmas.{IsLineLocal, line_read_cost-local, line_write_cost-local, cost-rule}
use Rattle.stack_rules.specs.Rules.{IsValid}
use Rattle.stack_rules.proofs.lemmas.ValidLemmas.{depth-low}
use Rattle.stack_meaning.specs.Beneath.{on_base, beneath}
use Rattle.stack_meaning.proofs.lemmas.LoadedLemmas.{at_place}

pub cost-leaf : (c : Configuration) (i : ℕ) → read_cost c (leaf i) ≡ 1
unfolding descend
cost-leaf c i = refl

pub write_cost-leaf : (c : Configuration) (i : ℕ) → write_cost c (leaf i) ≡ 1
unfolding descend
write_cost-leaf c i = refl

at_most_greatest : {X : Type 0} (f : X → ℕ) (xs : List X) → (n : ℕ) → greatest (map f xs) ≤ n → AllByRecursion (λ x. f x ≤ n) xs
at_most_greatest f [] n h = tt
at_most_greatest f (x ∷ xs) n h =
    (omega (arith, h, le-max_left (f x) (greatest (map f xs))), at_most_greatest f xs n (omega (arith, h, le-max_right (f x) (greatest (map f xs)))))

-- no device on which a sector of a line lies costs more than the line
abbrev CoversBeneath : ((List ℕ → ℕ) → Target → ℕ) → Type 0
CoversBeneath line_cost = (f : List ℕ → ℕ) (target : Target) (s : ℕ) (p : List ℕ × ℕ) → beneath target s ≡ Some p → f p.0 ≤ line_cost f target

base-cost : (f : List ℕ → ℕ) (bases : List Base) (k t : ℕ) (p : List ℕ × ℕ) → on_base bases (k, t) ≡ Some p → cost_at (map f (map (λ base. base.device) bases)) k ≡ f p.0
base-cost f [] k t p e = cc
base-cost f (base ∷ bases) zero t p e = let same : (base.device, base.offset + t) ≡ p = cc in ap (λ (q : List ℕ × ℕ). f q.0) same
base-cost f (base ∷ bases) (suc k) t p e = base-cost f bases k t p e

covers : (f : List ℕ → ℕ) (target : Target) (cost : List ℕ → ℕ) → Covers (rules_of target).lies cost → (s : ℕ) (p : List ℕ × ℕ) → beneath target s ≡ Some p → f p.0 ≤ cost (map f (names target))
covers f target cost law s p e = go ((rules_of target).lies s) refl e
  where
    go : (o : Option (ℕ × ℕ)) → (rules_of target).lies s ≡ o → option_and_then (on_base (rules_of target).bases) o ≡ Some p → f p.0 ≤ cost (map f (names target))
    go None is e = cc
    go (Some q) is e = let low = law (map f (names target)) s q is in let same = base-cost f (rules_of target).bases q.0 q.1 p e in omega (arith, low, same)

beneath_cost : CoversBeneath line_read_cost
beneath_cost f target = covers f target (rules_of target).read_cost (rules-laws target).costs.read_covers

beneath_write_cost : (read : List ℕ → ℕ) → CoversBeneath (line_write_cost read)
beneath_write_cost read f target = covers f target ((rules_of target).write_cost (map read (names target))) ((rules-laws target).costs.write_covers (map read (names target)))

module _ (c : Configuration) (d l : ℕ) (line : Line) (s : ℕ) (p : List ℕ × ℕ) (lower : Lower) (valid : IsValid c) (at : IsLine c d l line) (under : beneath line.target s ≡ Some p) (is : named c p.0 ≡ Some lower) where
  falls : (line_cost : (List ℕ → ℕ) → Target → ℕ) → IsLineLocal line_cost → CoversBeneath line_cost → descend 0 (cost_rule c line_cost) lower ≤ descend 0 (cost_rule c line_cost) (mapped d)
  falls line_cost local covers =
      let cost : Lower → ℕ = descend 0 (cost_rule c line_cost) in
      let by : List ℕ → ℕ = by_name c 0 cost in
      let all : List ℕ = map (λ (x : Line). line_cost by x.target) (lines_of c d) in
      let here : by p.0 ≤ line_cost by line.target = covers by line.target s p under in
      let whole : line_cost by line.target ≤ greatest all =
      at_place (λ (x : Line). line_cost by x.target ≤ greatest all) (lines_of c d) l line (at_most_greatest (λ (x : Line). line_cost by x.target) (lines_of c d) (greatest all) (omega arith)) at in
      let same : by p.0 ≡ cost lower = ap (known 0 cost) is in
      omega (arith, here, whole, same, cost-rule c line_cost local (depth-low c valid) (mapped d))

  -- a device on which a line's sector lies costs no more than the line's own
  pub cost-falls : read_cost c lower ≤ read_cost c (mapped d)
  cost-falls = falls line_read_cost line_read_cost-local beneath_cost

  pub write_cost-falls : write_cost c lower ≤ write_cost c (mapped d)
  write_cost-falls = let read : List ℕ → ℕ = by_name c 0 (read_cost c) in falls (line_write_cost read) (line_write_cost-local read) (beneath_write_cost read)
