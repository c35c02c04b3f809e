use Rattle.std.proofs.Common.{◌≡◌, ◌<◌, ◌≤◌, ◌+◌, ◌-◌, ◌∙◌, ℕ, ap, subst, arith}
use Rattle.tree_shape.specs.Shape.{ShapeRecord, ancestor, area_end, position}
use Rattle.tree_shape.proofs.lemmas.ShapeFaultLemmas.{area_end-le, blocks-le}
use Rattle.stack_rules.specs.Trees.{tree_of}
use Rattle.stack_lines.proofs.lemmas.VerityLineLemmas.{line-facts}
use Rattle.stack_lines.proofs.tree.hash_number.Goals as goal

pub overflow_sub-within : goal.overflow_sub-within
overflow_sub-within c = subst (λ (t : ShapeRecord). t.start ≤ c.position-place.result) c.requires.block.lies.shape_is c.position-place.ensures.from

pub overflow_add-result : goal.overflow_add-result
overflow_add-result c =
    let v = c.args.verity.now in
    let is = c.requires.block.lies in
    let valid = (line-facts c.args.config.now c.args.tree.now.device.0 c.args.tree.now.line v c.requires.loaded is.is).2.shape in
    let room = subst (λ (t : ShapeRecord). c.position-place.result < area_end t) is.shape_is c.position-place.ensures.inside in
    omega (arith, room, (area_end-le (tree_of v) valid).0, (blocks-le (tree_of v) valid).0)

pub returns : goal.returns
returns c =
    let v = c.args.verity.now in
    let level : ℕ = c.args.level in
    let index : ℕ = c.args.index in
    let there : c.position-place.result ≡ position (tree_of v) level (ancestor (tree_of v) (level + 1) index) =
    c.position-place.ensures.value ∙ ap (position c.args.tree.now.shape level) c.block_on_path.ensures.value ∙ ap (λ (t : ShapeRecord). position t level (ancestor t (level + 1) index)) c.requires.block.lies.shape_is in
    ap (λ (k : ℕ). v.blocks + (k - v.start)) there
