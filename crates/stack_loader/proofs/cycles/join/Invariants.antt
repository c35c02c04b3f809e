use Rattle.stack_loader.proofs.ClosureLemmas.{JoinsSoFar}
use Rattle.stack_loader.proofs.cycles.join.Given as goal

abbrev pub invariant-loop-set : goal.invariant-loop-set
invariant-loop-set l = JoinsSoFar l.initial.sets l.sets l.k l.set-index
