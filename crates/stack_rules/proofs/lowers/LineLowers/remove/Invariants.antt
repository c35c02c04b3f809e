use Rattle.std.proofs.Common.{◌≡◌, ◌++◌, map, take, drop}
use Rattle.stack_rules.specs.Removal.{lower_after}
use Rattle.stack_rules.proofs.lowers.LineLowers.remove.Given as goal

abbrev pub invariant-loop-lower : goal.invariant-loop-lower
invariant-loop-lower l = l.lower-items ≡ map (lower_after l.d) (take l.lower-index l.initial.lower-items) ++ drop l.lower-index l.initial.lower-items
