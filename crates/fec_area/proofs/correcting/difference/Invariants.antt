use Rattle.std.proofs.Common.{◌≡◌, length}
use Rattle.fec_area.proofs.correcting.difference.Given as goal

abbrev pub invariant-loop-k : goal.invariant-loop-k
invariant-loop-k l = length l.word ≡ 255
