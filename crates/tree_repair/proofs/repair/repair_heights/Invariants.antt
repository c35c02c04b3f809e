use Rattle.std.proofs.Common.{◌≤◌, ◌+◌, None, true}
use Rattle.tree_shape.specs.Shape.{levels}
use Rattle.tree_repair.specs.AccessBudgets.{LeavesWorld}
use Rattle.tree_repair.proofs.CountLemmas.{counts_over}
use Rattle.tree_repair.proofs.HeightLemmas.{heights_over}
use Rattle.tree_repair.specs.Coverage.{IsFromUp}
use Rattle.tree_repair.specs.Jobs.{job}
use Rattle.tree_repair.specs.ParityBounds.{LeavesNoted}
use Rattle.tree_repair.specs.Outcomes.{StandsFrom}
use Rattle.tree_repair.specs.Passes.{HasNoted}
use Rattle.block_device.specs.Call.{DeviceDoes}
use Rattle.tree_repair.specs.RunCalls.{MakesRepair}
use Rattle.tree_repair.proofs.repair.repair_heights.Given as goal

abbrev pub invariant-heights : goal.invariant-heights
invariant-heights g l = record {
  low : l.height ≤ levels l.fn.repair.shape + 1;
  most : l.fn.lowest ≤ l.height;
  asked : LeavesWorld (heights_over l.fn.repair.shape (levels l.fn.repair.shape + 1)) (heights_over l.fn.repair.shape l.height) l.fn.image.world l.image.world;
  few : LeavesNoted (counts_over l.fn.repair.shape (levels l.fn.repair.shape + 1)) (counts_over l.fn.repair.shape l.height) l.fn.bad l.bad;
  run : HasNoted (job l.fn.repair) (IsFromUp l.fn.repair.shape l.height) l.fn.image.world l.image.world (g.W.Write.contents l.fn.writer.inner) (g.W.Write.contents l.writer.inner) l.fn.bad l.bad None;
  handed : MakesRepair (DeviceDoes g.D.BlockDev.state g.D.BlockDev.does) (DeviceDoes g.H.BlockDev.state g.H.BlockDev.does) (job l.fn.repair) true l.fn.image l.image;
  whole : StandsFrom (job l.fn.repair) l.height l.fn.image.world l.image.world;
}

abbrev pub decreases-heights : goal.decreases-heights
decreases-heights g l = l.height
