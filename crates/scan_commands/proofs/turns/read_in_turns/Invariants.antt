use Rattle.std.proofs.Common.{◌≡◌, ◌≤◌, ◌+◌, ◌-◌, IsTrue, length, option_map}
use Rattle.rescue_map.specs.Maps.{marks}
use Rattle.stack_rules.specs.Names.{mapped, size}
use Rattle.stack_recovery.specs.PassPieces.{scanned}
use Rattle.stack_recovery.specs.Recoveries.{sides}
use Rattle.scan_commands.specs.MapFiles.{map_path_of}
use Rattle.scan_commands.specs.Turns.{Turns, begun_with, kept, progressed}
use Rattle.scan_commands.proofs.LessLemmas.{unmarked}
use Rattle.scan_commands.proofs.turns.read_in_turns.Given as goal

-- the turns so far, and what the next one needs
abbrev pub invariant-turns : goal.invariant-turns
invariant-turns g l = record {
  turns : Turns (kept g.I.Images.relations.replaces (option_map map_path_of l.fn.kept.file) (scanned l.fn.d.0 l.fn.kept.no_scrape) l.sectors) l.fn.kept.phase
      (begun_with l.fn.kept.phase l.sectors l.fn.images (sides l.fn.stack (g.O.BlockDev.state l.fn.out) (g.L.Listing.told l.fn.listing)) l.fn.kept.map)
      (progressed l.images (sides l.stack (g.O.BlockDev.state l.out) (g.L.Listing.told l.listing)) l.map l.at l.skip l.turned);
  map : length (marks l.map) ≡ l.sectors;
  within : l.at ≤ l.sectors;
  all : l.sectors ≡ size l.fn.stack.config (mapped l.fn.d.0);
  config : l.stack.config ≡ l.fn.stack.config;
  size : (g.O.BlockDev.state l.out).size ≡ (g.O.BlockDev.state l.fn.out).size;
  allowed : IsTrue (g.O.BlockDev.state l.out).may_write;
}

abbrev pub decreases-turns : goal.decreases-turns
decreases-turns g l = unmarked (marks l.map) + (l.sectors - l.at)
