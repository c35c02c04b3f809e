use Rattle.std.proofs.Common.{◌≤◌, ◌-◌}
use Rattle.tree_repair.proofs.verified_path.VerifiedPath.shared_level.Given as goal

abbrev pub invariant-levels : goal.invariant-levels
invariant-levels l = record {
  low : l.fn.self.height ≤ l.level;
  high : l.height ≤ l.level;
}

abbrev pub decreases-levels : goal.decreases-levels
decreases-levels l = l.levels - l.level
