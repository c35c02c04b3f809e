use Rattle.std.proofs.Common.{◌≡◌, ◌+◌, ◌*◌, ◌^◌, arith}
use Rattle.tree_shape.specs.Shape.{per_block}
use Rattle.tree_shape.proofs.lemmas.ShapeFactLemmas.{levels-few}
use Rattle.tree_shape.proofs.lemmas.ShapeFaultLemmas.{blocks-le}
use Rattle.stack_engine.proofs.PathEndLemmas.{beneath-lt, beneath-next}
use Rattle.stack_engine.proofs.path_end.first_beneath.Goals as goal

pub overflow_mul-index : goal.overflow_mul-index
overflow_mul-index c =
    let s = c.args.shape.now in
    let valid = c.per_block-many.ensures.valid in
    let next : c.loop-step.index * c.per_block-many.result ≡ c.args.number * per_block s ^ (c.loop-step.step + 1)
    = rw (c.loop-step.invariant.1, c.per_block-many.ensures.value) (beneath-next c.args.number (per_block s) c.loop-step.step) in
    omega (arith, next, beneath-lt s valid c.args.level c.args.number (c.loop-step.step + 1) c.requires.number (omega (arith, c.loop-step-test.true)), (blocks-le s valid).0)

pub overflow_add-step : goal.overflow_add-step
overflow_add-step c = omega (arith, c.loop-step-test.true, c.requires.level, levels-few c.args.shape.now c.per_block-many.ensures.valid)

pub loop-step-preserved : goal.loop-step-preserved
loop-step-preserved c = (
  omega (arith, c.loop-step-test.true),
  rw (c.loop-step.invariant.1, c.per_block-many.ensures.value) (beneath-next c.args.number (per_block c.args.shape.now) c.loop-step.step),
)
