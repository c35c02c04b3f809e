use Rattle.std.proofs.Common.{◌≡◌, ◌+◌, ◌++◌, ◌-◌, length}
use Rattle.rescue_map.specs.Aheads.{losts_ahead, marks_ahead, statuses_ahead}
use Rattle.rescue_map.specs.Maps.{marks}
use Rattle.rescue_map.specs.Stages.{statuses}
use Rattle.rescue_map.specs.Steps.{stepped_from}
use Rattle.rescue_map.proofs.stepping.stepped.Given as goal

-- what is left comes after the sectors so far
abbrev pub invariant-runs : goal.invariant-runs
invariant-runs l = record {
  made : statuses l.map ++ stepped_from l.step l.span l.at (statuses_ahead l.old) (marks_ahead l.new) (losts_ahead l.new) ≡ stepped_from l.step l.span 0 (statuses l.before) (marks_ahead l.initial.new) (losts_ahead l.initial.new);
  here : length (marks l.map) ≡ l.at;
  old_left : length (marks_ahead l.old) + l.at ≡ l.sectors;
  new_left : length (marks_ahead l.new) + l.at ≡ l.sectors;
}

abbrev pub decreases-runs : goal.decreases-runs
decreases-runs l = l.sectors - l.at
