use Rattle.std.proofs.Common.{◌≡◌, take, length}
use Rattle.rescue_map.specs.Maps.{marks}
use Rattle.rescue_map.proofs.PrintedLemmas.{front_text}
use Rattle.rescue_map.proofs.print.print_map.Given as goal

abbrev pub invariant-loop-run : goal.invariant-loop-run
invariant-loop-run l = (l.text.items ≡ front_text l.fn.kind l.complete (take l.run-index l.run-items)) × (l.at ≡ length (marks (take l.run-index l.run-items)))
