use Rattle.std.proofs.Common.{◌≤◌, ◌+◌, ◌-◌, IsTrue, None, true}
use Rattle.tree_repair.specs.Worlds.{IsParityRead}
use Rattle.tree_repair.specs.Jobs.{job}
use Rattle.tree_repair.specs.Outcomes.{IsAllGood}
use Rattle.tree_repair.specs.ParityBounds.{RunsInPasses}
use Rattle.tree_repair.specs.Passes.{ArePasses}
use Rattle.tree_repair.specs.Runs.{HasRun}
use Rattle.block_device.specs.Call.{DeviceDoes}
use Rattle.tree_repair.specs.RunCalls.{MakesRepair}
use Rattle.tree_repair.proofs.passes.run_passes.Given as goal

-- the passes so far
abbrev pub invariant-passes : goal.invariant-passes
invariant-passes g l = record {
  parity : IsParityRead (g.P.BlockDev.state l.fn.parity) (g.P.BlockDev.state l.parity);
  within : RunsInPasses (job l.fn.repair) l.fn.layout (1 + l.fn.layout.hash_blocks - l.left) l.fn.image.world l.image.world (g.P.BlockDev.state l.fn.parity) (g.P.BlockDev.state l.parity) (g.W.Write.contents l.fn.writer.inner) (g.W.Write.contents l.writer.inner) None l.came.tree;
  run : HasRun (job l.fn.repair) l.fn.image.world l.image.world (g.W.Write.contents l.fn.writer.inner) (g.W.Write.contents l.writer.inner) None;
  handed : MakesRepair (DeviceDoes g.D.BlockDev.state g.D.BlockDev.does) (DeviceDoes g.H.BlockDev.state g.H.BlockDev.does) (job l.fn.repair) true l.fn.image l.image;
  passes : ArePasses (job l.fn.repair) l.fn.layout (l.fn.layout.hash_blocks - l.left) l.fn.image.world l.image.world (g.P.BlockDev.state l.fn.parity) (g.P.BlockDev.state l.parity) l.came.tree;
  whole : IsTrue l.came.all → IsAllGood (job l.fn.repair) l.fn.image.world l.image.world;
  few : l.left ≤ l.fn.layout.hash_blocks;
}

abbrev pub decreases-passes : goal.decreases-passes
decreases-passes g l = l.left
