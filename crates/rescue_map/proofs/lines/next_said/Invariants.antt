use Rattle.std.proofs.Common.{◌≡◌, length}
use Rattle.rescue_map.specs.MapText.{said}
use Rattle.rescue_map.proofs.lines.next_said.Given as goal

abbrev pub invariant-lines : goal.invariant-lines
invariant-lines l = said l.lines ≡ said l.fn.lines

abbrev pub decreases-lines : goal.decreases-lines
decreases-lines l = length l.lines
