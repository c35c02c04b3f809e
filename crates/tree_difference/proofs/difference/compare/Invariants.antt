use Rattle.std.proofs.Common.{◌≡◌, ◌-◌}
use Rattle.tree_difference.specs.Comparisons.{difference_world}
use Rattle.tree_difference.proofs.UnderwayLemmas.{IsUnderway, progress}
use Rattle.tree_difference.proofs.difference.compare.Given as goal

abbrev pub invariant-spans : goal.invariant-spans
invariant-spans g l = record {
  so_far : IsUnderway l.fn.walk l.walk (difference_world (g.D.BlockDev.state l.fn.first) (g.E.BlockDev.state l.fn.second) (g.D.BlockDev.state l.first) (g.E.BlockDev.state l.second) (g.L.Listing.told l.fn.listing) (g.L.Listing.told l.listing)) l.fn.most (progress l.tally l.changed l.at);
  kept : (g.L.Listing.failed l.listing) ≡ (g.L.Listing.failed l.fn.listing);
}

abbrev pub decreases-spans : goal.decreases-spans
decreases-spans g l = l.fn.walk.blocks - l.at
