use Rattle.std.proofs.Common.{ℕ, All, take}
use Rattle.block_device.specs.Call.{Calls, DeviceDoes}
use Rattle.block_device.specs.Device.{IsSameDevice}
use Rattle.verity_format.specs.Handing.{writes_of}
use Rattle.verity_format.specs.Writing.{LiesBetween, IsPartWritten, AreBlocksWritten}
use Rattle.verity_format.proofs.writing.write_blocks.Given as goal

-- the blocks written so far
abbrev pub invariant-loop-placed : goal.invariant-loop-placed
invariant-loop-placed g l = record {
  same : IsSameDevice (g.H.BlockDev.state l.fn.hash_dev) (g.H.BlockDev.state l.hash_dev);
  part : (first last : ℕ) → All (LiesBetween l.size first last) l.blocks → IsPartWritten l.size first last l.placed-index (g.H.BlockDev.state l.fn.hash_dev) (g.H.BlockDev.state l.hash_dev);
  done : AreBlocksWritten l.size (g.H.BlockDev.state l.fn.hash_dev) (take l.placed-index l.blocks) (g.H.BlockDev.state l.hash_dev);
  handed : Calls (DeviceDoes g.H.BlockDev.state g.H.BlockDev.does) l.fn.hash_dev (writes_of l.size (take l.placed-index l.blocks)) l.hash_dev;
}
