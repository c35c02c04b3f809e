use Rattle.std.proofs.Common.{◌≡◌, ◌≤◌, drop, length}
use Rattle.rescue_map.specs.Aheads.{losts_ahead, marks_ahead}
use Rattle.rescue_map.proofs.splicing.skip_marks.Given as goal

abbrev pub invariant-runs : goal.invariant-runs
invariant-runs l = record {
  rest : drop l.left (marks_ahead l.ahead) ≡ drop l.fn.count (marks_ahead l.fn.ahead);
  lost_rest : drop l.left (losts_ahead l.ahead) ≡ drop l.fn.count (losts_ahead l.fn.ahead);
  enough : l.left ≤ length (marks_ahead l.ahead);
}

abbrev pub decreases-runs : goal.decreases-runs
decreases-runs l = l.left
