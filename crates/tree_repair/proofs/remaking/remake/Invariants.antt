use Rattle.std.proofs.Common.{◌≤◌, ◌+◌, suc}
use Rattle.block_device.specs.Call.{DeviceDoes}
use Rattle.tree_shape.specs.Shape.{ancestor}
use Rattle.tree_repair.specs.AccessBudgets.{LeavesWorld}
use Rattle.tree_repair.proofs.AskedLemmas.{untried_of}
use Rattle.tree_repair.specs.Remaking.{IsNowhereFrom, lost_hash}
use Rattle.tree_repair.specs.RepairCalls.{ReadsBoth}
use Rattle.tree_repair.specs.Worlds.{AreBothRead}
use Rattle.tree_repair.proofs.remaking.remake.Given as goal

-- it can't be made from the heights so far
abbrev pub invariant-heights : goal.invariant-heights
invariant-heights g l = record {
  high : l.from ≤ l.fn.level + 1;
  read : AreBothRead l.fn.image.world l.image.world;
  called : ReadsBoth (DeviceDoes g.D.BlockDev.state g.D.BlockDev.does) (DeviceDoes g.H.BlockDev.state g.H.BlockDev.does) l.fn.image l.image;
  asked : LeavesWorld (untried_of l.fn.sought.repair.now.shape (suc l.fn.level) (ancestor l.fn.sought.repair.now.shape (suc l.fn.level) l.fn.index) (suc l.fn.level))
      (untried_of l.fn.sought.repair.now.shape (suc l.fn.level) (ancestor l.fn.sought.repair.now.shape (suc l.fn.level) l.fn.index) l.from) l.fn.image.world l.image.world;
  none : IsNowhereFrom (lost_hash l.fn.sought.repair.now.shape l.fn.sought.repair.now.salt l.fn.level l.fn.index l.fn.sought.digest) l.from
      l.fn.image.world.data_dev l.fn.image.world.hash_dev l.image.world.data_dev l.image.world.hash_dev;
}

abbrev pub decreases-heights : goal.decreases-heights
decreases-heights g l = l.from
