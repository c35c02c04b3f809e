use Rattle.std.proofs.Common.{◌≡◌, ◌+◌, drop}
use Rattle.stack_rules.specs.Records.{Configuration}
use Rattle.stack_loader.specs.DeviceSet.{AreLowerSets}
use Rattle.stack_rules.specs.Rules.{first, cycles}
use Rattle.stack_loader.proofs.ClosureLemmas.{cycle_at}
use Rattle.stack_rules.proofs.lemmas.FirstRefusalLemmas.{scan}
use Rattle.stack_loader.proofs.cycles.cycle_refusal.Given as goal

abbrev pub invariant-loop-d : goal.invariant-loop-d
invariant-loop-d l = (c : Configuration) → AreLowerSets c l.sets → scan (cycle_at c) (l.d + 1) (drop l.d c.devices) ≡ first (cycles c)
