use Rattle.std.proofs.Common.{length}
use Rattle.stack_recovery.specs.Joins.{AreSameFrom}
use Rattle.stack_recovery.proofs.joining.from_sector.Given as goal

abbrev pub invariant-runs : goal.invariant-runs
invariant-runs l = AreSameFrom l.at l.found l.rest

abbrev pub decreases-runs : goal.decreases-runs
decreases-runs l = length l.rest
