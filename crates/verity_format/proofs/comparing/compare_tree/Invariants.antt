use Rattle.block_device.specs.Call.{DeviceDoes}
use Rattle.verity_format.specs.ComparedCalls.{ComparesGrowth}
use Rattle.verity_format.specs.Comparing.{IsComparing}
use Rattle.verity_format.proofs.comparing.compare_tree.Given as goal

-- the blocks compared so far
abbrev pub invariant-loop-run : goal.invariant-loop-run
invariant-loop-run g l = record {
  comparing : IsComparing l.shape l.salt (g.D.BlockDev.state l.fn.data_dev) (g.H.BlockDev.state l.fn.hash_dev) (g.D.BlockDev.state l.data_dev) (g.H.BlockDev.state l.hash_dev) l.builder l.least;
  growth : ComparesGrowth (DeviceDoes g.D.BlockDev.state g.D.BlockDev.does) (DeviceDoes g.H.BlockDev.state g.H.BlockDev.does) l.shape l.salt l.fn.data_dev l.fn.hash_dev l.data_dev l.hash_dev l.builder l.least;
}

abbrev pub decreases-loop-run : goal.decreases-loop-run
decreases-loop-run g l = l.builder.left
