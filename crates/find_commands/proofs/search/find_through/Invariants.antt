use Rattle.std.proofs.Common.{◌≡◌, ◌-◌, ◌+◌, ◌*◌, ◌≤◌, ◌^◌}
use Rattle.block_device.specs.Call.{DeviceDoes}
use Rattle.find_commands.specs.Searches.{IsSearch, search_sides}
use Rattle.find_commands.proofs.search.find_through.Given as goal

-- the sectors before this one were read or are lost
abbrev pub invariant-pieces : goal.invariant-pieces
invariant-pieces g l = record {
  so_far : IsSearch (DeviceDoes g.D.BlockDev.state g.D.BlockDev.does) g.L.FindingList.receives (search_sides l.fn.device l.fn.list) (search_sides l.device l.list) l.position.at l.position.lost l.header;
  all : l.sectors ≡ (g.D.BlockDev.state l.fn.device).size;
  same : (g.D.BlockDev.state l.device).size ≡ l.sectors;
  within : l.position.at ≤ l.sectors;
  few : l.sectors ≤ 2 ^ 54;
  lost_few : l.position.lost ≤ l.position.at;
  some : 1 ≤ l.position.most;
  most : l.position.most ≤ 128;
}

-- a piece of several sectors that can't be read makes the next one shorter
abbrev pub decreases-pieces : goal.decreases-pieces
decreases-pieces g l = 256 * (l.sectors - l.position.at) + l.position.most
