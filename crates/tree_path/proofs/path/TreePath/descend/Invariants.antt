use Rattle.std.proofs.Common.{◌≤◌, ◌-◌, ◌*◌, ◌/◌}
use Rattle.block_device.specs.Call.{DeviceDoes}
use Rattle.tree_path.specs.Steps.{HasReadAtMost, IsDown, MakesReads, steps}
use Rattle.tree_path.proofs.path.TreePath.descend.Given as goal

abbrev pub invariant-levels : goal.invariant-levels
invariant-levels g l = record {
  down : IsDown (steps l.fn.self l.self (g.H.BlockDev.state l.fn.device) (g.H.BlockDev.state l.device) l.index l.from) l.level l.level;
  low : l.to ≤ l.level;
  high : l.level ≤ l.from;
  asked : HasReadAtMost (g.H.BlockDev.state l.fn.device) ((l.from - l.level) * (l.fn.self.shape.hash_block / 512)) (g.H.BlockDev.state l.device);
  calls : MakesReads (DeviceDoes g.H.BlockDev.state g.H.BlockDev.does) l.fn.device l.device;
}

abbrev pub decreases-levels : goal.decreases-levels
decreases-levels g l = l.level
