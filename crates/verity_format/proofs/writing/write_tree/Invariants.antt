use Rattle.block_device.specs.Call.{DeviceDoes}
use Rattle.verity_format.specs.Handing.{HandsGrowth}
use Rattle.verity_format.specs.Writing.{IsWriting}
use Rattle.verity_format.proofs.writing.write_tree.Given as goal

-- the blocks written so far
abbrev pub invariant-loop-run : goal.invariant-loop-run
invariant-loop-run g l = record {
  writing : IsWriting l.shape l.salt (g.D.BlockDev.state l.fn.data_dev) (g.H.BlockDev.state l.fn.hash_dev) (g.D.BlockDev.state l.data_dev) (g.H.BlockDev.state l.hash_dev) l.builder;
  growth : HandsGrowth (DeviceDoes g.D.BlockDev.state g.D.BlockDev.does) (DeviceDoes g.H.BlockDev.state g.H.BlockDev.does) l.shape l.salt l.fn.data_dev l.fn.hash_dev l.data_dev l.hash_dev l.builder;
}

abbrev pub decreases-loop-run : goal.decreases-loop-run
decreases-loop-run g l = l.builder.left
