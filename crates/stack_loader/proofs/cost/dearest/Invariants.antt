use Rattle.std.proofs.Common.{◌≡◌, max, drop}
use Rattle.stack_rules.specs.Records.{Configuration}
use Rattle.stack_rules.specs.Passing.{RowsMean}
use Rattle.stack_loader.specs.Costs.{cost_in, dearest}
use Rattle.stack_loader.proofs.cost.dearest.Given as goal

abbrev pub invariant-loop-i : goal.invariant-loop-i
invariant-loop-i l = (c : Configuration) → RowsMean c l.rows l.lines → max l.greatest (dearest c l.direction (cost_in l.costs) (drop l.i l.lines)) ≡ dearest c l.direction (cost_in l.costs) l.lines
