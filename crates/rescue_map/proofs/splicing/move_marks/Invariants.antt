use Rattle.std.proofs.Common.{◌≡◌, ◌+◌, ◌++◌, ◌≤◌, ◌^◌, take, drop, length}
use Rattle.rescue_map.specs.Aheads.{losts_ahead, marks_ahead}
use Rattle.rescue_map.specs.Maps.{losts, marks}
use Rattle.rescue_map.proofs.splicing.move_marks.Given as goal

-- what is left of the sectors comes after those that were moved
abbrev pub invariant-runs : goal.invariant-runs
invariant-runs l = record {
  moved : marks l.map ++ take l.left (marks_ahead l.ahead) ≡ marks l.fn.map ++ take l.fn.count (marks_ahead l.fn.ahead);
  lost : losts l.map ++ take l.left (losts_ahead l.ahead) ≡ losts l.fn.map ++ take l.fn.count (losts_ahead l.fn.ahead);
  rest : drop l.left (marks_ahead l.ahead) ≡ drop l.fn.count (marks_ahead l.fn.ahead);
  lost_rest : drop l.left (losts_ahead l.ahead) ≡ drop l.fn.count (losts_ahead l.fn.ahead);
  enough : l.left ≤ length (marks_ahead l.ahead);
  room : length (marks l.map) + l.left ≤ 2 ^ 54;
}

abbrev pub decreases-runs : goal.decreases-runs
decreases-runs l = l.left
