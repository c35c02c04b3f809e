-- The laws of `striped`.
use Rattle.std.proofs.Common.{◌/◌, ℕ, List, [], ◌∷◌, length, map, refl}
use Rattle.std.specs.List.{AllByRecursion}
use Rattle.dm_table.specs.declared.table.Base.{Base}
use Rattle.stack_rules.specs.TargetRules.{Range, range_from}
use Rattle.stack_rules.specs.targets.Striped.{striped}
use Rattle.stack_rules.proofs.lemmas.CostLaws.{dearest-laws}
use Rattle.stack_rules.proofs.lemmas.TargetLaws.{TargetLaws}

each-range : (P : List ℕ → Type 0) (n : ℕ) (bases : List Base) → AllByRecursion P (map (λ (base : Base). base.device) bases) → AllByRecursion (λ (range : Range). P range.0) (map (range_from n) bases)
each-range P n [] all = tt
each-range P n (b ∷ bases) all = (all.0, each-range P n bases all.1)

pub striped-laws : (chunk : ℕ) (bases : List Base) → TargetLaws (striped chunk bases)
striped-laws chunk bases = record {
  ranges = λ P len. each-range P (len / length bases) bases;
  tree = λ P all. tt;
  asked = λ len. ((refl, refl), tt);
  costs = dearest-laws (striped chunk bases).lies;
}
