use Rattle.std.proofs.Common.{◌+◌, ◌-◌, sym, arith}
use Rattle.tree_shape.specs.Shape.{ancestor}
use Rattle.tree_shape.proofs.lemmas.ShapeFactLemmas.{levels-few, level_blocks-is, ancestor-le}
use Rattle.tree_shape.proofs.lemmas.ShapeFaultLemmas.{blocks-le}
use Rattle.tree_shape.proofs.shape.Shape.level_blocks.Goals as goal

pub overflow_add-level : goal.overflow_add-level
overflow_add-level c = omega (arith, c.requires, levels-few c.args.self.now c.blocks-last.ensures.valid)

pub overflow_add-result : goal.overflow_add-result
overflow_add-result c =
    let s = c.args.self.now in
    omega (arith, c.ancestor.ensures.value, c.blocks-last.ensures.value, ancestor-le s c.blocks-last.ensures.valid (c.args.level + 1) (c.blocks-last.result - 1), (blocks-le s c.blocks-last.ensures.valid).0)

pub returns-clause-value : goal.returns-clause-value
unfolding ancestor
returns-clause-value c =
    let s = c.args.self.now in
    rw (c.ancestor.ensures.value, c.blocks-last.ensures.value) (sym (level_blocks-is s c.blocks-last.ensures.valid c.args.level))
