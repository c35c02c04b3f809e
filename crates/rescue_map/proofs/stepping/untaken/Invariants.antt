use Rattle.std.proofs.Common.{◌≡◌, take, length}
use Rattle.rescue_map.specs.Maps.{marks}
use Rattle.rescue_map.specs.Steps.{untaken_marks}
use Rattle.rescue_map.proofs.stepping.untaken.Given as goal

abbrev pub invariant-loop-run : goal.invariant-loop-run
invariant-loop-run l = record {
  made : marks l.made ≡ untaken_marks l.takes (take l.run-index l.run-items);
  here : length (marks l.made) ≡ length (marks (take l.run-index l.run-items));
}
