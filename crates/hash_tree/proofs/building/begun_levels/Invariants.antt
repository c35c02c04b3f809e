use Rattle.std.proofs.Common.{◌≡◌}
use Rattle.tree_shape.specs.Shape.{levels}
use Rattle.hash_tree.specs.Building.{begun_levels}
use Rattle.hash_tree.proofs.building.begun_levels.Given as goal

-- the levels so far
abbrev pub invariant-loop-level : goal.invariant-loop-level
invariant-loop-level l = (l.count ≡ levels l.fn.shape) × (l.levels.items ≡ begun_levels l.fn.shape 0 l.level)
