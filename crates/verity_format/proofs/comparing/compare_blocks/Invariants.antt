use Rattle.std.proofs.Common.{◌*◌, ◌/◌, length, take}
use Rattle.block_device.specs.Call.{DeviceDoes}
use Rattle.verity_format.specs.Blocks.{IsOnlyRead, IsFullRead}
use Rattle.verity_format.specs.ComparedCalls.{ComparesAll}
use Rattle.verity_format.specs.Comparing.{IsLeastWith}
use Rattle.verity_format.proofs.comparing.compare_blocks.Given as goal

-- the blocks compared so far
abbrev pub invariant-loop-placed : goal.invariant-loop-placed
invariant-loop-placed g l = record {
  read : IsOnlyRead (g.H.BlockDev.state l.fn.hash_dev) (g.H.BlockDev.state l.hash_dev);
  full : IsFullRead (g.H.BlockDev.state l.fn.hash_dev) (l.placed-index * (length l.block / 512)) (g.H.BlockDev.state l.hash_dev);
  calls : ComparesAll (DeviceDoes g.H.BlockDev.state g.H.BlockDev.does) (length l.block) (take l.placed-index l.blocks) l.fn.least l.least l.fn.hash_dev l.hash_dev;
  least : IsLeastWith (g.H.BlockDev.state l.fn.hash_dev) (length l.block) (take l.placed-index l.blocks) l.fn.least l.least;
}
