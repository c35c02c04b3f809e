use Rattle.std.proofs.Common.{◌∙◌}
use Rattle.tree_shape.proofs.lemmas.ShapeLemmas.{area_blocks-fields}
use Rattle.tree_shape.proofs.shape.Shape.area_blocks.Goals as goal

pub returns-clause-value : goal.returns-clause-value
returns-clause-value c =
    let s = c.args.self.now in
    c.blocks_over.ensures.value
    ∙ rw (c.blocks-2.ensures.value, c.hash_block.ensures.value) (area_blocks-fields s.data_block s.hash_block s.blocks s.start)
