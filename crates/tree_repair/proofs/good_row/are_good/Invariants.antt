use Rattle.std.proofs.Common.{◌≤◌, ◌-◌, ◌*◌, ◌/◌, true}
use Rattle.block_device.specs.Call.{DeviceDoes}
use Rattle.verity_format.specs.Blocks.{IsOnlyRead}
use Rattle.tree_path.specs.Steps.{HasReadAtMost}
use Rattle.tree_repair.specs.Coverage.{AreGoodFrom}
use Rattle.tree_repair.specs.Jobs.{job}
use Rattle.tree_repair.specs.RepairCalls.{IsNoWrite, MakesRepairCalls}
use Rattle.tree_repair.proofs.good_row.are_good.Given as goal

-- the pieces so far
abbrev pub invariant-pieces : goal.invariant-pieces
invariant-pieces g l = record {
  read : IsOnlyRead (g.D.BlockDev.state l.fn.data_dev) (g.D.BlockDev.state l.data_dev);
  counted : (g.D.BlockDev.state l.fn.data_dev).failures ≤ (g.D.BlockDev.state l.data_dev).failures;
  low : l.fn.row.first ≤ l.index;
  most : l.index - l.fn.row.first ≤ l.fn.row.end - l.fn.row.first;
  asked : HasReadAtMost (g.D.BlockDev.state l.fn.data_dev) ((l.index - l.fn.row.first) * (l.fn.repair.shape.data_block / 512)) (g.D.BlockDev.state l.data_dev);
  good : AreGoodFrom (job l.fn.repair) l.fn.path (g.D.BlockDev.state l.fn.data_dev) l.fn.row.first (l.index - l.fn.row.first);
  called : MakesRepairCalls (DeviceDoes g.D.BlockDev.state g.D.BlockDev.does) IsNoWrite true l.fn.data_dev l.data_dev;
}

abbrev pub decreases-pieces : goal.decreases-pieces
decreases-pieces g l = l.row.end - l.index
