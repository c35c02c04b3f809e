use Rattle.std.proofs.Common.{◌≡◌, ◌+◌, ◌≤◌}
use Rattle.block_device.specs.Call.{DeviceDoes}
use Rattle.block_device.specs.Device.{capped}
use Rattle.tree_repair.specs.Fetches.{AreLacking}
use Rattle.tree_repair.specs.Jobs.{job}
use Rattle.tree_repair.specs.ParitySearches.{IsOfTree}
use Rattle.tree_repair.specs.RepairCalls.{ReadsBoth}
use Rattle.tree_repair.specs.Worlds.{IsWorldRead}
use Rattle.tree_repair.proofs.lacking.end_of_run.Given as goal

-- the blocks so far
abbrev pub invariant-each : goal.invariant-each
invariant-each g l = record {
  tree : IsOfTree (job l.fn.repair).tree l.last_path.path;
  read : IsWorldRead l.fn.image.world l.image.world;
  at : capped (l.fn.first + l._turn) ≤ l.end;
  lacking : AreLacking (job l.fn.repair) l.fn.first l.end l.fn.image.world l.image.world;
  called : ReadsBoth (DeviceDoes g.D.BlockDev.state g.D.BlockDev.does) (DeviceDoes g.H.BlockDev.state g.H.BlockDev.does) l.fn.image l.image;
  kept : l.image.world.data_copies ≡ l.fn.image.world.data_copies;
}
