use Rattle.std.proofs.Common.{◌/◌, arith}
use Rattle.tree_shape.specs.Shape.{area_end}
use Rattle.verity_format.proofs.lemmas.SizeLemmas.{block-inside}
use Rattle.tree_repair.proofs.visiting.hash_sought.Goals as goal

pub overflow_mul-first : goal.overflow_mul-first
overflow_mul-first c =
    let s = c.args.repair.now.shape in
    let room = block-inside c.position-place.result (area_end s) (s.hash_block / 512) c.position-place.ensures.inside in
    rw (c.requires.size) (omega (arith, room, c.requires.valid.tree_fits))

pub overflow_add-copy_first : goal.overflow_add-copy_first
overflow_add-copy_first c =
    let s = c.args.repair.now.shape in
    let room = block-inside c.position-place.result (area_end s) (s.hash_block / 512) c.position-place.ensures.inside in
    rw (c.requires.size) (omega (arith, room, c.requires.valid.tree_fits, c.requires.copy))
