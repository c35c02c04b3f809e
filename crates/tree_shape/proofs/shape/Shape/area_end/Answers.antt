use Rattle.std.proofs.Common.{◌≡◌, ◌<◌, ◌+◌, sym, ◌∙◌, arith}
use Rattle.tree_shape.specs.Shape.{area_blocks, area_end}
use Rattle.tree_shape.proofs.lemmas.ShapeFactLemmas.{area_end-is, area_end-none}
use Rattle.tree_shape.proofs.lemmas.ShapeFaultLemmas.{area_end-le}
use Rattle.tree_shape.proofs.shape.Shape.area_end.Goals as goal

sum : (c : goal.Else-blocks-eq0) → c.start-start.result + c.area_blocks-blocks.result ≡ area_end c.args.self.now
sum c =
    let s = c.args.self.now in
    let some : 0 < area_blocks s = omega (arith, c.area_blocks-blocks.ensures.value, c.if-blocks-eq0.false) in
    rw (c.start-start.ensures.value, c.area_blocks-blocks.ensures.value) (sym (area_end-is s c.start-start.ensures.valid some))

pub overflow_add-result : goal.overflow_add-result
overflow_add-result c = omega (arith, sum c, (area_end-le c.args.self.now c.start-start.ensures.valid).0)

pub returns-then-blocks-eq0-clause-value : goal.returns-then-blocks-eq0-clause-value
returns-then-blocks-eq0-clause-value c =
    sym (area_end-none c.args.self.now c.start-start.ensures.valid (sym c.area_blocks-blocks.ensures.value ∙ c.if-blocks-eq0.true))

pub returns-else-blocks-eq0-clause-value : goal.returns-else-blocks-eq0-clause-value
returns-else-blocks-eq0-clause-value c = sum c

pub returns-else-blocks-eq0-clause-few : goal.returns-else-blocks-eq0-clause-few
returns-else-blocks-eq0-clause-few c = omega (arith, sum c, (area_end-le c.args.self.now c.start-start.ensures.valid).0)
