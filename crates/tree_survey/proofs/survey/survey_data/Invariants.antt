use Rattle.std.proofs.Common.{◌≡◌, ◌*◌, ◌/◌, ◌+◌, ◌-◌, true}
use Rattle.tree_survey.specs.Failing.{IsReadOver, IsReadThrough}
use Rattle.tree_survey.specs.Passes.{tree_in}
use Rattle.tree_survey.proofs.UnderwayLemmas.{IsUnderway}
use Rattle.tree_survey.proofs.survey.survey_data.Given as goal

abbrev pub invariant-run : goal.invariant-run
invariant-run g l = record {
  so_far : IsUnderway (tree_in l.fn.checked_path) (g.D.BlockDev.state l.fn.data_dev) (g.H.BlockDev.state l.fn.hash_dev) (g.D.BlockDev.state l.data_dev) (g.H.BlockDev.state l.hash_dev) (g.L.Listing.told l.fn.listing) (g.L.Listing.told l.listing) l.checked_path l.counts (l.at + l.k);
  kept : l.whole ≡ true → g.D.BlockDev.state l.data_dev ≡ g.D.BlockDev.state l.initial.data_dev;
  behind : IsReadOver (g.D.BlockDev.state l.initial.data_dev) (g.D.BlockDev.state l.data_dev);
}

abbrev pub invariant-pieces : goal.invariant-pieces
invariant-pieces g l = record {
  shape_is : l.shape ≡ l.fn.checked_path.path.shape;
  so_far : IsUnderway (tree_in l.fn.checked_path) (g.D.BlockDev.state l.fn.data_dev) (g.H.BlockDev.state l.fn.hash_dev) (g.D.BlockDev.state l.data_dev) (g.H.BlockDev.state l.hash_dev) (g.L.Listing.told l.fn.listing) (g.L.Listing.told l.listing) l.checked_path l.counts l.at;
  data_read : IsReadThrough (g.D.BlockDev.state l.fn.data_dev) (l.at * (l.fn.checked_path.path.shape.data_block / 512)) (g.D.BlockDev.state l.data_dev);
}

abbrev pub decreases-pieces : goal.decreases-pieces
decreases-pieces g l = l.fn.checked_path.path.shape.blocks - l.at
