use Rattle.std.proofs.Common.{◌≡◌, ◌≤◌, ◌+◌, ◌-◌, ◌*◌, ◌^◌}
use Rattle.tree_shape.specs.Shape.{per_block}
use Rattle.stack_engine.proofs.path_end.first_beneath.Given as goal

abbrev pub invariant-loop-step : goal.invariant-loop-step
invariant-loop-step l = (l.step ≤ l.level + 1) × (l.index ≡ l.number * per_block l.shape ^ l.step)

abbrev pub decreases-loop-step : goal.decreases-loop-step
decreases-loop-step l = l.level + 1 - l.step
