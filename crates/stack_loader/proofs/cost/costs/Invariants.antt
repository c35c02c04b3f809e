use Rattle.std.proofs.Common.{◌≡◌, List, length}
use Rattle.stack_rules.specs.Records.{LeafRecord, configuration}
use Rattle.stack_loader.specs.Costs.{AreMeasured, AreCosts}
use Rattle.stack_loader.proofs.cost.costs.Given as goal

abbrev pub invariant-loop-depth : goal.invariant-loop-depth
invariant-loop-depth l =
    (length l.costs.items ≡ length l.devices)
    × ((leaves : List LeafRecord) → let c = configuration leaves l.devices in AreMeasured c l.lowers l.depths → AreCosts c l.direction l.depth l.costs.items)
