use Rattle.std.proofs.Common.{◌≡◌, ◌+◌, ◌-◌, length}
use Rattle.rescue_map.specs.Aheads.{marks_ahead, statuses_ahead}
use Rattle.rescue_map.specs.Stages.{statuses}
use Rattle.stack_recovery.proofs.lemmas.JoinLemmas.{IsJoining}
use Rattle.stack_recovery.proofs.joining.tell_among_bad.Given as goal

abbrev pub invariant-sectors : goal.invariant-sectors
invariant-sectors g l = record {
  joining : IsJoining (statuses l.map) l.earlier l.found (g.L.Listing.told l.fn.listing) (g.L.Listing.told l.listing) l.tally l.at (statuses_ahead l.ahead) l.before l.rest;
  left : length (marks_ahead l.ahead) + l.at ≡ l.sectors;
}

abbrev pub decreases-sectors : goal.decreases-sectors
decreases-sectors g l = l.sectors - l.at
