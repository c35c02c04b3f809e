use Rattle.std.proofs.Common.{◌≤◌, ◌*◌, ℕ, length, arith}
use Rattle.std.proofs.Math.Nat.{mul-le-mul_left, mul-le-mul_right}
use Rattle.stack_engine.proofs.losses.Losses.room.Goals as goal

most : (count size : ℕ) → count ≤ 24 → size ≤ 4096 → count * size ≤ 98304
most count size few small = omega (arith, mul-le-mul_right size few, small)

pub returns-clause-fits : goal.returns-clause-fits
returns-clause-fits c = omega (arith, most c.len.result c.args.size (omega (arith, c.len.ensures, c.requires.few)) c.requires.size)
