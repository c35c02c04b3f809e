use Rattle.std.proofs.Common.{◌≡◌, ◌++◌, map, take, drop}
use Rattle.stack_rules.specs.Removal.{lower_after}
use Rattle.stack_rules.proofs.lowers.DeviceLowers.remove.Given as goal

abbrev pub invariant-loop-line : goal.invariant-loop-line
invariant-loop-line l = l.line-items ≡ map (map (lower_after l.d)) (take l.line-index l.initial.line-items) ++ drop l.line-index l.initial.line-items
