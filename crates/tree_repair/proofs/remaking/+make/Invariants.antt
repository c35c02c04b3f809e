use Rattle.std.proofs.Common.{◌+◌, ◌-◌}
use Rattle.block_device.specs.Call.{DeviceDoes}
use Rattle.hash_tree.specs.Tree.{filled}
use Rattle.tree_repair.specs.AccessBudgets.{LeavesWorld, left_of, made_over}
use Rattle.tree_repair.specs.Remaking.{IsOver, ground}
use Rattle.tree_repair.specs.RepairCalls.{ReadsBoth}
use Rattle.tree_repair.specs.Worlds.{AreBothRead}
use Rattle.tree_repair.proofs.MakeLemmas.{digests}
use Rattle.tree_repair.proofs.remaking.+make.Given as goal

abbrev pub decreases-make : goal.decreases-make
decreases-make g l = l.making.steps

-- the digests so far, and zeros after them
abbrev pub invariant-each : goal.invariant-each
invariant-each g l = record {
  read : AreBothRead l.fn.image.world l.image.world;
  called : ReadsBoth (DeviceDoes g.D.BlockDev.state g.D.BlockDev.does) (DeviceDoes g.H.BlockDev.state g.H.BlockDev.does) l.fn.image l.image;
  asked : LeavesWorld (made_over l.fn.repair.shape l.fn.making.from (left_of l.fn.repair.shape (l.fn.making.from + (l.fn.making.steps - 1)) l.beneath.first))
      (made_over l.fn.repair.shape l.fn.making.from (left_of l.fn.repair.shape (l.fn.making.from + (l.fn.making.steps - 1)) (l.beneath.first + l.slot))) l.fn.image.world l.image.world;
  written : IsOver l.fn.image.world.data_dev l.fn.image.world.hash_dev
      (filled l.fn.repair.shape.hash_block
      (digests (ground l.fn.repair.shape l.fn.repair.salt l.fn.image.world.data_dev l.fn.image.world.hash_dev l.fn.making.from) (l.fn.making.steps - 1) l.beneath.first l.slot)) l.block;
}
