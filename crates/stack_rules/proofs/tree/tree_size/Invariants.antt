use Rattle.std.proofs.Common.{◌≡◌, ◌+◌, ◌≤◌, ◌/◌}
use Rattle.tree_shape.specs.Shape.{levels, area_blocks}
use Rattle.tree_shape.proofs.lemmas.ShapeLemmas.{over}
use Rattle.stack_rules.specs.Trees.{tree_of}
use Rattle.stack_rules.proofs.tree.tree_size.Given as goal

-- what was counted, and what is over the level that was counted last
abbrev pub invariant-loop-count : goal.invariant-loop-count
invariant-loop-count l = record {
  digests : l.per_block ≡ l.fn.verity.hash_block / 32;
  levels : l.levels + levels (over (tree_of l.fn.verity) l.count) ≡ levels (tree_of l.fn.verity);
  blocks : l.blocks + area_blocks (over (tree_of l.fn.verity) l.count) ≡ area_blocks (tree_of l.fn.verity);
  room : l.blocks + l.count ≤ l.fn.verity.blocks;
}

abbrev pub decreases-loop-count : goal.decreases-loop-count
decreases-loop-count l = l.count
