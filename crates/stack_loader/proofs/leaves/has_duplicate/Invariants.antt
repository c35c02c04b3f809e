use Rattle.std.proofs.Common.{◌≡◌, drop}
use Rattle.stack_rules.specs.Leaves.{has_duplicate}
use Rattle.stack_loader.proofs.leaves.has_duplicate.Given as goal

abbrev pub invariant-loop-i : goal.invariant-loop-i
invariant-loop-i l = has_duplicate (drop l.i l.leaves) ≡ has_duplicate l.leaves
