use Rattle.std.proofs.Common.{◌≡◌, ◌<◌, ◌≤◌, ◌+◌, ◌-◌, ◌%◌, ◌^◌, None, true}
use Rattle.tree_shape.specs.Shape.{per_block}
use Rattle.tree_repair.specs.AccessBudgets.{LeavesWorld, checks_over}
use Rattle.tree_repair.specs.Coverage.{IsOfRowBefore}
use Rattle.tree_repair.specs.Jobs.{job}
use Rattle.tree_repair.specs.ParityBounds.{LeavesNoted, blocks_over}
use Rattle.tree_repair.specs.Passes.{HasNoted}
use Rattle.block_device.specs.Call.{DeviceDoes}
use Rattle.tree_repair.specs.RunCalls.{MakesRepair}
use Rattle.tree_repair.proofs.levels.repair_blocks.Given as goal

abbrev pub invariant-places : goal.invariant-places
invariant-places g l = record {
  from : l.fn.row.first ≤ l.index;
  begins : l.index < l.fn.row.end → l.index % per_block l.fn.repair.shape ^ l.fn.row.height ≡ 0;
  asked : LeavesWorld (checks_over l.fn.repair.shape l.fn.row.height (l.fn.repair.shape.blocks - l.fn.row.first)) (checks_over l.fn.repair.shape l.fn.row.height (l.fn.repair.shape.blocks - l.index)) l.fn.image.world l.image.world;
  few : LeavesNoted (blocks_over l.fn.repair.shape l.fn.row.height (l.fn.repair.shape.blocks - l.fn.row.first)) (blocks_over l.fn.repair.shape l.fn.row.height (l.fn.repair.shape.blocks - l.index)) l.fn.bad l.bad;
  enough : l.fn.repair.shape.blocks - l.fn.row.first - per_block l.fn.repair.shape ^ (l.fn.row.height + 1) ≤ l.fn.repair.shape.blocks - l.index;
  run : HasNoted (job l.fn.repair) (IsOfRowBefore l.fn.row l.index) l.fn.image.world l.image.world (g.W.Write.contents l.fn.writer.inner) (g.W.Write.contents l.writer.inner) l.fn.bad l.bad None;
  handed : MakesRepair (DeviceDoes g.D.BlockDev.state g.D.BlockDev.does) (DeviceDoes g.H.BlockDev.state g.H.BlockDev.does) (job l.fn.repair) true l.fn.image l.image;
}

abbrev pub decreases-places : goal.decreases-places
decreases-places g l = l.fn.row.end - l.index
