use Rattle.std.proofs.Common.{◌≡◌, ◌+◌}
use Rattle.tree_shape.specs.Shape.{levels}
use Rattle.stack_meaning.specs.Erasures.{tree_block}
use Rattle.stack_engine.proofs.path_end.tree_block.Given as goal

abbrev pub invariant-loop-level : goal.invariant-loop-level
invariant-loop-level l = (tree_block l.shape (levels l.shape) l.number ≡ tree_block l.shape l.level l.left) × (l.above + l.level ≡ levels l.shape)

abbrev pub decreases-loop-level : goal.decreases-loop-level
decreases-loop-level l = l.level
