use Rattle.std.proofs.Common.{◌+◌}
use Rattle.stack_lines.specs.Standing.{AreSetsBelow}
use Rattle.stack_lines.proofs.leaf_sets.leaf_sets.Given as goal

abbrev pub invariant-loop-deep : goal.invariant-loop-deep
invariant-loop-deep l = AreSetsBelow l.config (l.deep + 1) l.sets
