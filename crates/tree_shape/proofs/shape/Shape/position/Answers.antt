use Rattle.std.proofs.Common.{◌≡◌, ◌<◌, ◌+◌, sym, ◌∙◌, arith}
use Rattle.tree_shape.specs.Shape.{level_blocks, area_blocks, area_end, position}
use Rattle.tree_shape.proofs.lemmas.ShapeLemmas.{over, area_blocks-fields}
use Rattle.tree_shape.proofs.lemmas.ShapeFactLemmas.{position-is, position-lt}
use Rattle.tree_shape.proofs.lemmas.ShapeFaultLemmas.{area_end-le}
use Rattle.tree_shape.proofs.shape.Shape.position.Goals as goal

place : (c : goal.After-start-start) → c.start-start.result + c.blocks_over-above.result + c.args.index ≡ position c.args.self.now c.args.level c.args.index
place c =
    let s = c.args.self.now in
    let above : c.blocks_over-above.result ≡ area_blocks (over s (level_blocks s c.args.level)) =
    c.blocks_over-above.ensures.value
    ∙ rw (c.level_blocks.ensures.value, c.hash_block.ensures.value) (area_blocks-fields s.data_block s.hash_block (level_blocks s c.args.level) s.start) in
    rw (c.start-start.ensures.value, above) (sym (position-is s c.start-start.ensures.valid c.args.level c.args.index))

inside : (c : goal.After-start-start) → position c.args.self.now c.args.level c.args.index < area_end c.args.self.now
inside c = position-lt c.args.self.now c.start-start.ensures.valid c.args.level c.args.index c.requires.level c.requires.index

pub overflow_add-result : goal.overflow_add-result
overflow_add-result c = omega (arith, place c, inside c, (area_end-le c.args.self.now c.start-start.ensures.valid).0)

pub overflow_add-result-2 : goal.overflow_add-result-2
overflow_add-result-2 c = omega (arith, place c, inside c, (area_end-le c.args.self.now c.start-start.ensures.valid).0)

pub returns-clause-value : goal.returns-clause-value
returns-clause-value c = place c

pub returns-clause-inside : goal.returns-clause-inside
returns-clause-inside c = omega (arith, place c, inside c)
