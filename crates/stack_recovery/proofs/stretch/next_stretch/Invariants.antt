use Rattle.std.proofs.Common.{◌≡◌, ◌≤◌, length}
use Rattle.rescue_map.specs.Aheads.{marks_ahead}
use Rattle.stack_recovery.proofs.stretch.next_stretch.Given as goal

abbrev pub invariant-runs : goal.invariant-runs
invariant-runs l = record {
  marks : marks_ahead l.ahead ≡ marks_ahead l.fn.ahead;
  some : 1 ≤ l.ahead.first.count;
}

abbrev pub decreases-runs : goal.decreases-runs
decreases-runs l = length l.ahead.rest.now
