use Rattle.std.proofs.Common.{◌≡◌, ◌<◌, ◌≤◌, ◌-◌, ◌+◌, ◌%◌, ◌^◌, None, true}
use Rattle.tree_shape.specs.Shape.{per_block}
use Rattle.tree_repair.specs.AccessBudgets.{LeavesWorld, height_over}
use Rattle.tree_repair.specs.Coverage.{IsFromTo}
use Rattle.tree_repair.specs.Jobs.{job}
use Rattle.tree_repair.specs.ParityBounds.{LeavesNoted, blocks_over}
use Rattle.tree_repair.specs.Passes.{HasNoted}
use Rattle.tree_repair.specs.ParitySearches.{IsOfTree}
use Rattle.block_device.specs.Call.{DeviceDoes}
use Rattle.tree_repair.specs.RunCalls.{MakesRepair}
use Rattle.tree_repair.proofs.levels.repair_height.Given as goal

abbrev pub invariant-rows : goal.invariant-rows
invariant-rows g l = record {
  begins : l.first < l.fn.repair.shape.blocks → l.first % per_block l.fn.repair.shape ^ (l.fn.height + 1) ≡ 0;
  inside : l.first ≤ l.fn.repair.shape.blocks;
  asked : LeavesWorld (height_over l.fn.repair.shape l.fn.height l.fn.repair.shape.blocks) (height_over l.fn.repair.shape l.fn.height (l.fn.repair.shape.blocks - l.first)) l.fn.image.world l.image.world;
  few : LeavesNoted (blocks_over l.fn.repair.shape l.fn.height l.fn.repair.shape.blocks) (blocks_over l.fn.repair.shape l.fn.height (l.fn.repair.shape.blocks - l.first)) l.fn.bad l.bad;
  tree : IsOfTree (job l.fn.repair).tree l.last_path.path;
  run : HasNoted (job l.fn.repair) (IsFromTo l.fn.height 0 l.first) l.fn.image.world l.image.world (g.W.Write.contents l.fn.writer.inner) (g.W.Write.contents l.writer.inner) l.fn.bad l.bad None;
  handed : MakesRepair (DeviceDoes g.D.BlockDev.state g.D.BlockDev.does) (DeviceDoes g.H.BlockDev.state g.H.BlockDev.does) (job l.fn.repair) true l.fn.image l.image;
}

abbrev pub decreases-rows : goal.decreases-rows
decreases-rows g l = l.fn.repair.shape.blocks - l.first
