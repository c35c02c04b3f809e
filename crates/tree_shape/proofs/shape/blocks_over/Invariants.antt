use Rattle.std.proofs.Common.{◌≡◌, ◌+◌, ◌≤◌, ◌/◌}
use Rattle.tree_shape.specs.Shape.{ShapeRecord, area_blocks}
use Rattle.tree_shape.proofs.shape.blocks_over.Given as goal

-- the blocks counted, and those that are above the level that was counted last
abbrev pub invariant-loop-count : goal.invariant-loop-count
invariant-loop-count l = record {
  digests : l.per_block ≡ l.fn.hash_block / 32;
  some : 1 ≤ l.count;
  left : (s : ShapeRecord) → s.hash_block ≡ l.fn.hash_block → l.sum + area_blocks (record s { blocks = l.count }) ≡ area_blocks (record s { blocks = l.fn.blocks });
  room : l.sum + l.count ≤ l.fn.blocks;
}

abbrev pub decreases-loop-count : goal.decreases-loop-count
decreases-loop-count l = l.count
