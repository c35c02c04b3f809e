use Rattle.std.proofs.Common.{◌≤◌, ◌<◌, ◌^◌, arith}
use Rattle.tree_shape.specs.Shape.{per_block}
use Rattle.tree_path.proofs.lemmas.SpanLemmas.{power-least}
use Rattle.tree_path.proofs.spans.span.Goals as goal

pub returns-then-width-most : goal.returns-then-width-most
returns-then-width-most c =
    let p = per_block c.args.shape.now in
    let some : 0 < p = omega (arith, c.per_block-per_block.ensures.many, c.per_block-per_block.ensures.value) in
    let more : p ^ c.levels.counter ≤ p ^ c.args.level = power-least p c.levels.counter c.args.level some (omega arith) in
    let width = rw c.per_block-per_block.ensures.value at c.levels.invariant in
    omega (arith, more, width, c.if-width-most.true)
