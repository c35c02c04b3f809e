use Rattle.std.proofs.Common.{◌≡◌, take}
use Rattle.stack_loader.specs.Depths.{depth_round}
use Rattle.stack_loader.proofs.depth.round.Given as goal

abbrev pub invariant-loop-set : goal.invariant-loop-set
invariant-loop-set l = l.next.items ≡ depth_round (take l.set-index l.sets) l.values
