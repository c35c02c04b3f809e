-- The laws of `verity`.
use Rattle.std.proofs.Common.{◌≡◌, ◌+◌, ◌*◌, ℕ, List, Option, Some, None, map, min, refl, arith}
use Rattle.std.specs.List.{AllByRecursion}
use Rattle.dm_table.specs.declared.table.Base.{Base}
use Rattle.dm_table.specs.declared.verity.Verity.{Verity}
use Rattle.dm_table.specs.declared.parity.Parity.{Parity}
use Rattle.stack_rules.specs.TargetRules.{Range, cost_at, greatest}
use Rattle.stack_rules.specs.Trees.{block_sectors, path_blocks, path_sectors, mend_sectors}
use Rattle.stack_rules.specs.targets.Verity.{verity, parity_bases, parity_ranges, mend_cost}
use Rattle.stack_rules.proofs.lemmas.CostLaws.{AreCapped, at-capped, dearest-capped}
use Rattle.stack_rules.proofs.lemmas.TargetLaws.{TargetLaws}
use Rattle.stack_rules.proofs.lemmas.UnitLemmas.{sum-capped, product-capped}

parity-ranges : (P : List ℕ → Type 0) (line : Verity) (parity : Option Parity) → P line.hash → AllByRecursion P (map (λ (base : Base). base.device) (parity_bases parity)) → AllByRecursion (λ (range : Range). P range.0) (parity_ranges line parity)
parity-ranges P line None hash all = tt
parity-ranges P line (Some parity) hash all = (hash, (all.0, tt))

mend-capped : (line : Verity) (parity : Option Parity) (k : ℕ) (xs ys : List ℕ) → AreCapped k xs ys → min k (mend_cost line parity xs) ≡ min k (mend_cost line parity ys)
mend-capped line None k xs ys same = refl
mend-capped line (Some parity) k xs ys same = product-capped k (mend_sectors line) (greatest xs) (greatest ys) (dearest-capped k xs ys same)

pub verity-laws : (line : Verity) → TargetLaws (verity line)
verity-laws line = record {
  ranges = λ P len all. (all.0, parity-ranges P line line.parity all.1.0 all.1.1);
  tree = λ P all. all.1.0;
  asked = λ len. ((refl, refl), ((refl, refl), ((refl, refl), tt)));
  costs = record {
    read_covers = λ costs s p e. cc;
    write_covers = λ reads costs s p e. cc;
    read_caps = λ k xs ys same.
        sum-capped k (block_sectors line * cost_at xs 0 + path_sectors line * cost_at xs 1) (block_sectors line * cost_at ys 0 + path_sectors line * cost_at ys 1) (path_blocks line * mend_cost line line.parity xs) (path_blocks line * mend_cost line line.parity ys)
        (sum-capped k (block_sectors line * cost_at xs 0) (block_sectors line * cost_at ys 0) (path_sectors line * cost_at xs 1) (path_sectors line * cost_at ys 1)
        (product-capped k (block_sectors line) (cost_at xs 0) (cost_at ys 0) (at-capped k xs ys 0 same))
        (product-capped k (path_sectors line) (cost_at xs 1) (cost_at ys 1) (at-capped k xs ys 1 same)))
        (product-capped k (path_blocks line) (mend_cost line line.parity xs) (mend_cost line line.parity ys) (mend-capped line line.parity k xs ys same));
    write_caps = λ reads k xs ys same. refl;
    write_low = λ reads writes r b cheap low. omega arith;
  };
}
