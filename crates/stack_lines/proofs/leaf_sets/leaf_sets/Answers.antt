use Rattle.std.proofs.Common.{◌+◌, arith}
use Rattle.stack_lines.proofs.lemmas.StandingLemmas.{depth-some, sets-all}
use Rattle.stack_lines.proofs.leaf_sets.leaf_sets.Goals as goal

pub returns : goal.returns
returns c = sets-all c.args.config.now c.requires (c.loop-deep.deep + 1) c.loop-deep.sets (omega (arith, c.loop-deep-test.false)) c.loop-deep.invariant

pub loop-deep-init : goal.loop-deep-init
loop-deep-init c = λ d low deep. let some = depth-some c.args.config.now c.requires d in absurd (omega (arith, deep, some))
