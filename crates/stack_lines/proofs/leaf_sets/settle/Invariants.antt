use Rattle.stack_lines.proofs.lemmas.StandingLemmas.{AreSettled}
use Rattle.stack_lines.proofs.leaf_sets.settle.Given as goal

abbrev pub invariant-loop-place : goal.invariant-loop-place
invariant-loop-place l = AreSettled l.config l.deep l.place l.sets
