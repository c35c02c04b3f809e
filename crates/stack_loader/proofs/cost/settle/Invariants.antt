use Rattle.std.proofs.Common.{List}
use Rattle.stack_rules.specs.Records.{LeafRecord, configuration}
use Rattle.stack_loader.specs.Costs.{AreMeasured, AreCosts}
use Rattle.stack_loader.proofs.lemmas.CostLemmas.{SettlesSoFar}
use Rattle.stack_loader.proofs.cost.settle.Given as goal

abbrev pub invariant-loop-d : goal.invariant-loop-d
invariant-loop-d l = (leaves : List LeafRecord) → let c = configuration leaves l.devices in AreMeasured c l.lowers l.depths → AreCosts c l.direction l.depth l.initial.costs → SettlesSoFar c l.direction l.depth l.d l.costs
