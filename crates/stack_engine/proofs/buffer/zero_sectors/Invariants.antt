use Rattle.std.proofs.Common.{◌≡◌, ◌*◌, vec_len}
use Rattle.stack_engine.proofs.buffer.zero_sectors.Given as goal

abbrev pub invariant-loop-k : goal.invariant-loop-k
invariant-loop-k l = vec_len l.bytes ≡ l._k * 512
