use Rattle.std.proofs.Common.{◌≤◌}
use Rattle.tree_survey.proofs.SayingLemmas.{IsSayingTree}
use Rattle.tree_survey.proofs.hashes.say_hashes.Given as goal

abbrev pub invariant-levels : goal.invariant-levels
invariant-levels g l = record {
  few : l.level ≤ 14;
  said : IsSayingTree l.fn.path l.path (g.H.BlockDev.state l.fn.device) (g.H.BlockDev.state l.device) l.level (g.L.Listing.told l.fn.listing) (g.L.Listing.told l.listing) l.whole;
}

abbrev pub decreases-levels : goal.decreases-levels
decreases-levels g l = l.level
