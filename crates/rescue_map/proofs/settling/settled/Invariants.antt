use Rattle.std.proofs.Common.{◌≡◌, take, length}
use Rattle.rescue_map.specs.Maps.{losts, marks, no_losts, settled_marks}
use Rattle.rescue_map.proofs.settling.settled.Given as goal

abbrev pub invariant-loop-run : goal.invariant-loop-run
invariant-loop-run l = record {
  made : marks l.made ≡ settled_marks l.again (take l.run-index l.run-items);
  lost : losts l.made ≡ no_losts (take l.run-index l.run-items);
  here : length (marks l.made) ≡ length (marks (take l.run-index l.run-items));
}
