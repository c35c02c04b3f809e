use Rattle.std.proofs.Common.{◌≡◌, ◌-◌, ◌+◌, ◌*◌, ◌≤◌, ◌^◌, drop, is_some}
use Rattle.block_device.specs.Call.{DeviceDoes}
use Rattle.stack_rules.specs.Names.{mapped, size}
use Rattle.rescue_map.specs.Aheads.{marks_ahead}
use Rattle.stack_recovery.specs.LeafReads.{Ahead, CopiesLeaves}
use Rattle.stack_recovery.specs.PassPieces.{pass_over}
use Rattle.stack_recovery.specs.Recoveries.{scanned_by, sides}
use Rattle.stack_recovery.proofs.HandingLemmas.{IsHanding}
use Rattle.stack_recovery.proofs.WayLemmas.{IsRegion, IsWayRun, read_behind, turned_len}
use Rattle.stack_recovery.proofs.recovery.go_over_by.Given as goal

-- the sectors before this one are had or lost
abbrev pub invariant-pieces : goal.invariant-pieces
invariant-pieces g l = record {
  so_far : IsHanding (DeviceDoes g.O.BlockDev.state g.O.BlockDev.does) (is_some l.fn.noted) (marks_ahead l.fn.ahead) (scanned_by l.fn.pass) (sides l.fn.stack (g.O.BlockDev.state l.fn.out) (g.L.Listing.told l.fn.listing)) (sides l.stack (g.O.BlockDev.state l.out) (g.L.Listing.told l.listing)) l.at l.tally l.noted l.way l.fn.out l.out;
  run : IsWayRun (pass_over l.fn.stack.config l.fn.pass.device.0 (marks_ahead l.fn.ahead)) l.at l.way;
  copied_ahead : Ahead;
  called : CopiesLeaves g.D.BlockDev.state g.D.BlockDev.does (DeviceDoes g.O.BlockDev.state g.O.BlockDev.does) (marks_ahead l.fn.ahead) l.fn.pass.device.0 l.fn.stack l.fn.out l.at copied_ahead l.stack l.out;
  region : IsRegion l.way copied_ahead;
  ahead : drop l.at (marks_ahead l.fn.ahead) ≡ marks_ahead l.ahead;
  config : l.stack.config ≡ l.fn.stack.config;
  within : l.at ≤ l.sectors;
  all : l.sectors ≡ size l.fn.stack.config (mapped l.fn.pass.device.0);
  few : l.sectors ≤ 2 ^ 54;
  unfailed : (g.O.BlockDev.state l.out).failures ≡ (g.O.BlockDev.state l.fn.out).failures;
  noted : is_some l.noted ≡ is_some l.fn.noted;
}

-- each turn reads a sector, or begins to read forwards
abbrev pub decreases-pieces : goal.decreases-pieces
decreases-pieces g l = 2 * (l.sectors - l.at - read_behind l.way) + turned_len l.way
