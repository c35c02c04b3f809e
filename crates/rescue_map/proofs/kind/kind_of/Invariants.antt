use Rattle.std.proofs.Common.{◌≡◌, length}
use Rattle.rescue_map.specs.Kinds.{kind_in, kind_of}
use Rattle.rescue_map.proofs.kind.kind_of.Given as goal

abbrev pub invariant-lines : goal.invariant-lines
invariant-lines l = kind_in l.lines ≡ kind_of l.text

abbrev pub decreases-lines : goal.decreases-lines
decreases-lines l = length l.lines
