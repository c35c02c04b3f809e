use Rattle.std.proofs.Common.{◌≡◌, ◌++◌, map, take, drop}
use Rattle.stack_config.specs.Facts.{fact_after}
use Rattle.stack_config.proofs.facts.Facts.remove.Given as goal

abbrev pub invariant-loop-device : goal.invariant-loop-device
invariant-loop-device l = l.device-items ≡ map (fact_after l.place) (take l.device-index l.initial.device-items) ++ drop l.device-index l.initial.device-items
