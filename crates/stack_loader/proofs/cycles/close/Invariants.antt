use Rattle.std.proofs.Common.{ℕ, Bool}
use Rattle.stack_rules.specs.Cycles.{leads_below}
use Rattle.stack_loader.specs.DeviceSet.{AreSets}
use Rattle.stack_loader.proofs.cycles.close.Given as goal

abbrev pub invariant-loop-k : goal.invariant-loop-k
invariant-loop-k l = (test : ℕ → ℕ → Bool) → AreSets test l.initial.sets → AreSets (leads_below test l.k) l.sets
