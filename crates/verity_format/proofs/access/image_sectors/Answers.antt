use Rattle.std.proofs.Common.{arith}
use Rattle.tree_shape.proofs.lemmas.ShapeFaultLemmas.{blocks-le}
use Rattle.verity_format.proofs.access.image_sectors.Goals as goal

pub overflow_add-result : goal.overflow_add-result
overflow_add-result c = omega (arith, (blocks-le c.args.shape.now c.hash_block.ensures.valid).0, c.area_blocks.ensures.fewer)
