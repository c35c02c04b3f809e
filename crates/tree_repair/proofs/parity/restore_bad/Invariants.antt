use Rattle.std.proofs.Common.{IsTrue, take, None, true}
use Rattle.tree_repair.specs.Worlds.{IsParityRead}
use Rattle.tree_repair.specs.Jobs.{job}
use Rattle.tree_repair.specs.ParityBounds.{IsAskedWithin, TellsOfHash, parity_bill, sought_among}
use Rattle.tree_repair.specs.Passes.{AreBack}
use Rattle.tree_repair.specs.Runs.{HasRun}
use Rattle.tree_repair.specs.ParitySearches.{AreSought, IsOfTree}
use Rattle.block_device.specs.Call.{DeviceDoes}
use Rattle.tree_repair.specs.RunCalls.{MakesRepair}
use Rattle.tree_repair.proofs.parity.restore_bad.Given as goal

-- the blocks so far
abbrev pub invariant-each : goal.invariant-each
invariant-each g l = record {
  parity : IsParityRead (g.P.BlockDev.state l.fn.parity) (g.P.BlockDev.state l.parity);
  sought : AreSought (job l.fn.repair) l.losses.layout l.losses.lost.items (take l.bad-index l.blocks) l.fn.image.world l.image.world (g.P.BlockDev.state l.fn.parity) (g.P.BlockDev.state l.parity) l.tree;
  within : IsAskedWithin (parity_bill l.fn.repair.shape l.losses.layout 0 0 (sought_among (take l.bad-index l.blocks))) l.fn.image.world l.image.world (g.P.BlockDev.state l.fn.parity) (g.P.BlockDev.state l.parity);
  came : TellsOfHash (job l.fn.repair) 1 l.fn.image.world l.image.world (g.W.Write.contents l.fn.writer.inner) (g.W.Write.contents l.writer.inner) None l.tree;
  back : IsTrue l.all → AreBack (job l.fn.repair) (take l.bad-index l.blocks) l.fn.image.world l.image.world;
  tree : IsOfTree (job l.fn.repair).tree l.last_path.path;
  run : HasRun (job l.fn.repair) l.fn.image.world l.image.world (g.W.Write.contents l.fn.writer.inner) (g.W.Write.contents l.writer.inner) None;
  handed : MakesRepair (DeviceDoes g.D.BlockDev.state g.D.BlockDev.does) (DeviceDoes g.H.BlockDev.state g.H.BlockDev.does) (job l.fn.repair) true l.fn.image l.image;
}
