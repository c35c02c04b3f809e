use Rattle.std.proofs.Common.{◌≡◌, length}
use Rattle.reed_solomon.proofs.errors.error_values.Given as goal

abbrev pub invariant-loop-n : goal.invariant-loop-n
invariant-loop-n l = length l.values ≡ 25
