use Rattle.std.proofs.Common.{◌≡◌, ◌≤◌}
use Rattle.reed_solomon.specs.Correcting.{differing}
use Rattle.reed_solomon.proofs.correcting.differing.Given as goal

abbrev pub invariant-loop-i : goal.invariant-loop-i
invariant-loop-i l = (l.count ≡ differing l.v l.w l.i) × (l.count ≤ l.i)
