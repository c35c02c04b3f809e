use Rattle.std.proofs.Common.{◌≡◌, max, map, drop}
use Rattle.stack_rules.specs.Descend.{greatest}
use Rattle.stack_loader.specs.Costs.{cost_in}
use Rattle.stack_loader.proofs.cost.greatest_cost.Given as goal

abbrev pub invariant-loop-lower : goal.invariant-loop-lower
invariant-loop-lower l = max l.greatest (greatest (map (cost_in l.costs) (drop l.lower-index l.lowers))) ≡ greatest (map (cost_in l.costs) l.lowers)
