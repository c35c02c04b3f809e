use Rattle.std.proofs.Common.{◌≡◌, ◌+◌, ◌*◌, ◌/◌, ◌++◌, IsTrue, All, length, map, take}
use Rattle.block_device.specs.Call.{Calls, DeviceDoes}
use Rattle.tree_shape.specs.Shape.{levels}
use Rattle.verity_format.specs.Blocks.{IsOnlyRead, IsFullRead}
use Rattle.verity_format.specs.Chain.{stored_path}
use Rattle.verity_format.specs.ChainCalls.{path_reads}
use Rattle.verity_format.proofs.chains.read_path.Given as goal

abbrev pub invariant-loop-i : goal.invariant-loop-i
invariant-loop-i g l = record {
  read : IsOnlyRead (g.H.BlockDev.state l.fn.hash_dev) (g.H.BlockDev.state l.hash_dev);
  full : IsFullRead (g.H.BlockDev.state l.fn.hash_dev) (l.i * (l.shape.hash_block / 512)) (g.H.BlockDev.state l.hash_dev);
  calls : Calls (DeviceDoes g.H.BlockDev.state g.H.BlockDev.does) l.fn.hash_dev (path_reads l.shape l.index (levels l.shape) (map (λ b. b.items) (take l.i l.path))) l.hash_dev;
  left : l.level + l.i ≡ levels l.shape;
  sized : All (λ b. length b.items ≡ l.shape.hash_block) l.path;
  so_far : IsTrue (g.H.BlockDev.state l.fn.hash_dev).steady
      → map (λ b. b.items) (take l.i l.path) ++ stored_path l.shape (g.H.BlockDev.state l.fn.hash_dev).image l.level l.index
      ≡ stored_path l.shape (g.H.BlockDev.state l.fn.hash_dev).image (levels l.shape) l.index;
}
