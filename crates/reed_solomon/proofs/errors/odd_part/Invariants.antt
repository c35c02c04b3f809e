use Rattle.std.proofs.Common.{◌≡◌, length}
use Rattle.reed_solomon.proofs.errors.odd_part.Given as goal

abbrev pub invariant-loop-k : goal.invariant-loop-k
invariant-loop-k l = length l.odd ≡ 25
