use Rattle.std.proofs.Common.{◌≡◌, ◌+◌, take, drop, length}
use Rattle.rescue_map.specs.Maps.{marks, totals_from, map_totals}
use Rattle.rescue_map.proofs.totals.totals_of.Given as goal

abbrev pub invariant-loop-run : goal.invariant-loop-run
invariant-loop-run l = record {
  rest : totals_from l.totals (drop l.run-index l.run-items) ≡ map_totals l.run-items;
  here : l.totals.had + l.totals.bad + l.totals.left ≡ length (marks (take l.run-index l.run-items));
}
