use Rattle.std.proofs.Common.{None, true}
use Rattle.block_device.specs.Call.{DeviceDoes}
use Rattle.tree_repair.specs.CopyReads.{ReadsRunOnce, copy_read}
use Rattle.tree_repair.specs.Jobs.{job}
use Rattle.tree_repair.specs.Moves.{FetchesBlocks}
use Rattle.tree_repair.specs.ParitySearches.{IsOfTree}
use Rattle.tree_repair.specs.RunCalls.{MakesRepair}
use Rattle.tree_repair.specs.Runs.{HasRun}
use Rattle.tree_repair.proofs.fetching.fetch_run.Given as goal

-- the blocks so far
abbrev pub invariant-each : goal.invariant-each
invariant-each g l = record {
  tree : IsOfTree (job l.fn.repair).tree l.last_path.path;
  run : HasRun (job l.fn.repair) l.fn.image.world l.image.world None None None;
  handed : MakesRepair (DeviceDoes g.D.BlockDev.state g.D.BlockDev.does) (DeviceDoes g.H.BlockDev.state g.H.BlockDev.does) (job l.fn.repair) true l.fn.image l.image;
  said : FetchesBlocks (job l.fn.repair) l.fn.image.world l.image.world (g.W.Write.contents l.fn.writer.inner) (g.W.Write.contents l.writer.inner);
  once : ReadsRunOnce (job l.fn.repair) (copy_read l.fn.fetch.copy l.fn.fetch.run.first l.fn.fetch.run.end) l.fn.image.world l.image.world;
}
