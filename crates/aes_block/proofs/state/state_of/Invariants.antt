use Rattle.std.proofs.Common.{ℕ, ◌<◌, ◌/◌, ◌%◌, get_or}
use Rattle.aes_block.proofs.state.state_of.Given as goal

-- the bytes so far
abbrev pub invariant-loop-i : goal.invariant-loop-i
invariant-loop-i g l = (k : ℕ) → k < l.i → goal.F-post g l.byte (k % 4) (k / 4) (get_or l.place-items k 0)
