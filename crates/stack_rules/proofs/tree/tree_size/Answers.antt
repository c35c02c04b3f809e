use Rattle.std.proofs.Common.{◌≤◌, arith}
use Rattle.tree_shape.specs.Shape.{ShapeRecord, per_block}
use Rattle.tree_shape.proofs.lemmas.ShapeLemmas.{area_blocks-step}
use Rattle.tree_shape.proofs.lemmas.ShapeFaultLemmas.{block_size-wide}
use Rattle.stack_rules.specs.Trees.{tree_of}
use Rattle.stack_rules.proofs.TreeLemmas.{levels-step, levels-end, levels-few, area_blocks-few, fewer-blocks}
use Rattle.stack_rules.proofs.tree.tree_size.Goals as goal

pub loop-count-preserved : goal.loop-count-preserved
loop-count-preserved c =
    let s : ShapeRecord = tree_of c.args.verity.now in
    let n = c.loop-count.count in
    let here = c.loop-count.invariant in
    let wide : 16 ≤ per_block s = (block_size-wide c.args.verity.now.hash_block c.requires.places.hash_block).0 in
    let more = c.loop-count-test.true in
    record {
      digests = here.digests;
      levels = rw here.digests (omega (arith, here.levels, levels-step s n (omega (arith, wide)) more));
      blocks = rw here.digests (omega (arith, here.blocks, area_blocks-step s n (omega (arith, wide)) more));
      room = rw here.digests (omega (arith, here.room, fewer-blocks s n wide more));
    }

pub returns : goal.returns
returns c =
    let s : ShapeRecord = tree_of c.args.verity.now in
    let here = c.loop-count.invariant in
    let wide : 16 ≤ per_block s = (block_size-wide c.args.verity.now.hash_block c.requires.places.hash_block).0 in
    let few : c.loop-count.count ≤ 1 = omega (arith, c.loop-count-test.false) in
    record {
      levels = omega (arith, here.levels, levels-end s c.loop-count.count (omega (arith, wide)) few);
      blocks = omega (arith, here.blocks, area_blocks-few s c.loop-count.count (omega (arith, wide)) few);
      few = omega (arith, here.levels, levels-few s c.args.verity.now.blocks wide c.requires.places.blocks);
    }

pub overflow_add-levels : goal.overflow_add-levels
overflow_add-levels c =
    let s : ShapeRecord = tree_of c.args.verity.now in
    let wide : 16 ≤ per_block s = (block_size-wide c.args.verity.now.hash_block c.requires.places.hash_block).0 in
    record { fits = omega (arith, c.loop-count.invariant.levels, levels-few s c.args.verity.now.blocks wide c.requires.places.blocks) }
