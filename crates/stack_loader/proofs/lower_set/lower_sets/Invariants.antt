use Rattle.stack_loader.proofs.LowerSetLemmas.{SetsSoFar}
use Rattle.stack_loader.proofs.lower_set.lower_sets.Given as goal

abbrev pub invariant-loop-device : goal.invariant-loop-device
invariant-loop-device l = SetsSoFar l.lowers l.device-index l.sets.items
