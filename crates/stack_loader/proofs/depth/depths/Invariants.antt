use Rattle.std.proofs.Common.{◌≡◌}
use Rattle.stack_loader.specs.Depths.{depth_rounds}
use Rattle.stack_loader.proofs.depth.depths.Given as goal

abbrev pub invariant-loop-round : goal.invariant-loop-round
invariant-loop-round l = l.values.items ≡ depth_rounds l.sets l._round
