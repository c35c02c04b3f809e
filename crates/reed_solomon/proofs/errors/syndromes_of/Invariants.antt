use Rattle.std.proofs.Common.{◌≡◌, length}
use Rattle.reed_solomon.proofs.errors.syndromes_of.Given as goal

abbrev pub invariant-loop-root : goal.invariant-loop-root
invariant-loop-root l = length l.syndromes ≡ 24
