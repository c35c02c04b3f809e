use Rattle.std.proofs.Common.{◌≡◌, ◌++◌, take, drop, length}
use Rattle.rescue_map.specs.Lost.{lost_from}
use Rattle.rescue_map.specs.Maps.{marks}
use Rattle.rescue_map.proofs.lost.lost_parts.Given as goal

abbrev pub invariant-loop-run : goal.invariant-loop-run
invariant-loop-run l = record {
  rest : l.parts.items ++ lost_from l.at (drop l.run-index l.run-items) ≡ lost_from 0 l.run-items;
  here : l.at ≡ length (marks (take l.run-index l.run-items));
}
