-- A shape that is valid after a superblock is valid without one.
use Rattle.std.proofs.Common.{◌≡◌, ◌∙◌, ℕ, None, ap}
use Rattle.tree_shape.specs.Shape.{ShapeRecord, first_fault, shape_with}
use Rattle.tree_shape.proofs.lemmas.ShapeFaultLemmas.{first_fault-none}
use Rattle.verity_format.specs.Trees.{shape_alone}
use Rattle.verity_format.proofs.lemmas.RoomLemmas.{alone-valid}
use Rattle.verity_format.proofs.superblock.Superblock.tree_alone.Goals as goal

pub unreachable-requires : goal.unreachable-requires
unreachable-requires c =
    let s = c.args.self.now in
    let t : ShapeRecord = c.shape-after.result in
    let parts : shape_with c.data_block.result c.hash_block.result c.blocks-blocks.result 0 ≡ shape_with t.data_block t.hash_block t.blocks 0 =
    ap (λ (n : ℕ). shape_with n c.hash_block.result c.blocks-blocks.result 0) c.data_block.ensures.value
    ∙ ap (λ (n : ℕ). shape_with t.data_block n c.blocks-blocks.result 0) c.hash_block.ensures.value
    ∙ ap (λ (n : ℕ). shape_with t.data_block t.hash_block n 0) c.blocks-blocks.ensures.value in
    let alone : shape_with t.data_block t.hash_block t.blocks 0 ≡ shape_alone s = ap (λ (u : ShapeRecord). shape_with u.data_block u.hash_block u.blocks 0) c.shape-after.ensures.value in
    let none : first_fault (shape_with c.data_block.result c.hash_block.result c.blocks-blocks.result 0) ≡ None = ap first_fault (parts ∙ alone) ∙ first_fault-none (shape_alone s) (alone-valid s c.shape-after.ensures.valid) in
    let refused = c.in-Err.ensures.fault ∙ none in
    cc
