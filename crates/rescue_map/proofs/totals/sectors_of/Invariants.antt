use Rattle.std.proofs.Common.{◌≡◌, take, length}
use Rattle.rescue_map.specs.Maps.{marks}
use Rattle.rescue_map.proofs.totals.sectors_of.Given as goal

abbrev pub invariant-loop-run : goal.invariant-loop-run
invariant-loop-run l = l.at ≡ length (marks (take l.run-index l.run-items))
