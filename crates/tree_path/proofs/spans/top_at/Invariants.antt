use Rattle.std.proofs.Common.{◌≡◌, ◌*◌, ◌^◌, ◌-◌, ◌≤◌}
use Rattle.tree_path.proofs.spans.top_at.Given as goal

abbrev pub invariant-levels : goal.invariant-levels
invariant-levels l = record {
  is : l.index ≡ l.rest * l.per_block ^ l.level;
  few : l.level ≤ l.most;
}

abbrev pub decreases-levels : goal.decreases-levels
decreases-levels l = l.most - l.level
