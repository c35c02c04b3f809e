use Rattle.std.proofs.Common.{◌≤◌, ◌-◌, ◌*◌, ◌/◌}
use Rattle.tree_path.specs.Steps.{HasReadAtMost, IsDown, steps}
use Rattle.tree_survey.proofs.path.descend.Given as goal

abbrev pub invariant-levels : goal.invariant-levels
invariant-levels g l = record {
  down : IsDown (steps l.fn.path l.path (g.H.BlockDev.state l.fn.device) (g.H.BlockDev.state l.device) l.index l.from) l.level l.level;
  high : l.level ≤ l.from;
  asked : HasReadAtMost (g.H.BlockDev.state l.fn.device) ((l.from - l.level) * (l.fn.path.shape.hash_block / 512)) (g.H.BlockDev.state l.device);
}

abbrev pub decreases-levels : goal.decreases-levels
decreases-levels g l = l.level
