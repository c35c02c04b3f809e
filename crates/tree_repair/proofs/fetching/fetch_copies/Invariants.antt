use Rattle.std.proofs.Common.{None, true}
use Rattle.block_device.specs.Call.{DeviceDoes}
use Rattle.tree_repair.specs.CopyReads.{ReadsRuns, copy_block}
use Rattle.tree_repair.specs.Jobs.{job}
use Rattle.tree_repair.specs.Moves.{FetchesBlocks}
use Rattle.tree_repair.specs.RunCalls.{MakesRepair}
use Rattle.tree_repair.specs.Runs.{HasRun}
use Rattle.tree_repair.proofs.fetching.fetch_copies.Given as goal

-- the copies so far
abbrev pub invariant-copies : goal.invariant-copies
invariant-copies g l = record {
  run : HasRun (job l.fn.repair) l.fn.image.world l.image.world None None None;
  handed : MakesRepair (DeviceDoes g.D.BlockDev.state g.D.BlockDev.does) (DeviceDoes g.H.BlockDev.state g.H.BlockDev.does) (job l.fn.repair) true l.fn.image l.image;
  said : FetchesBlocks (job l.fn.repair) l.fn.image.world l.image.world (g.W.Write.contents l.fn.writer.inner) (g.W.Write.contents l.writer.inner);
  reads : ReadsRuns (job l.fn.repair) (copy_block 0 0) (copy_block l.copy 0) l.fn.image.world l.image.world;
}
