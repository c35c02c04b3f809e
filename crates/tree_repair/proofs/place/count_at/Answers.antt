use Rattle.std.proofs.Common.{◌≡◌, ◌-◌, suc, arith}
use Rattle.tree_shape.proofs.lemmas.ShapeFaultLemmas.{blocks-le}
use Rattle.tree_repair.proofs.MakeLemmas.{level_blocks-few}
use Rattle.tree_repair.proofs.place.count_at.Goals as goal

pub returns-then-height-eq0-clause-value : goal.returns-then-height-eq0-clause-value
returns-then-height-eq0-clause-value c = rw c.if-height-eq0.true c.blocks-blocks.ensures.value

pub returns-then-height-eq0-clause-small : goal.returns-then-height-eq0-clause-small
returns-then-height-eq0-clause-small c = omega (arith, c.blocks-blocks.ensures.value, (blocks-le c.args.shape.now c.blocks-blocks.ensures.valid).0)

pub returns-clause-value : goal.returns-clause-value
returns-clause-value c =
    let some : c.args.height ≡ suc (c.args.height - 1) = omega (arith, c.if-height-eq0.false) in
    rw some c.level_blocks.ensures.value

pub returns-clause-small : goal.returns-clause-small
returns-clause-small c =
    let valid = c.blocks-blocks.ensures.valid in
    omega (arith, c.level_blocks.ensures.value, level_blocks-few c.args.shape.now valid (c.args.height - 1), (blocks-le c.args.shape.now valid).0)
