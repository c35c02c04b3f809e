use Rattle.std.proofs.Common.{arith}
use Rattle.tree_repair.proofs.lacking.most_blocks.Goals as goal

pub returns-then-size-eq0 : goal.returns-then-size-eq0
returns-then-size-eq0 c = λ some. absurd (omega (arith, some, c.if-size-eq0.true))
