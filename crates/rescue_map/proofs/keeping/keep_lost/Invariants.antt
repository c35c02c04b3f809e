use Rattle.std.proofs.Common.{◌≡◌, ◌+◌, ◌++◌, length}
use Rattle.rescue_map.specs.Aheads.{losts_ahead, marks_ahead}
use Rattle.rescue_map.specs.Maps.{joined, kept_had, left_lost, losts, marks}
use Rattle.rescue_map.proofs.keeping.keep_lost.Given as goal

-- what is left comes after the sectors so far
abbrev pub invariant-runs : goal.invariant-runs
invariant-runs l = record {
  had : marks l.map ++ joined (kept_had l.again) (losts_ahead l.old) (marks_ahead l.new) ≡ joined (kept_had l.again) (losts l.before) (marks l.after);
  bad : losts l.map ++ left_lost l.again (losts_ahead l.old) (marks_ahead l.new) (losts_ahead l.new) ≡ left_lost l.again (losts l.before) (marks l.after) (losts l.after);
  here : length (marks l.map) + l.left ≡ l.sectors;
  old_left : length (marks_ahead l.old) ≡ l.left;
  new_left : length (marks_ahead l.new) ≡ l.left;
}

abbrev pub decreases-runs : goal.decreases-runs
decreases-runs l = l.left
