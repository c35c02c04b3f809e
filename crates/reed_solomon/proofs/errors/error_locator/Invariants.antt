use Rattle.std.proofs.Common.{◌≡◌, length}
use Rattle.reed_solomon.proofs.errors.error_locator.Given as goal

abbrev pub invariant-loop-n : goal.invariant-loop-n
invariant-loop-n l = (length l.locator ≡ 25) × (length l.previous ≡ 25)
