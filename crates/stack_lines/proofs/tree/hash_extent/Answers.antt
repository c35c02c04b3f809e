use Rattle.std.proofs.Common.{◌≡◌, ◌<◌, ◌+◌, ◌*◌, ◌∙◌, ℕ, ap, subst, arith}
use Rattle.tree_shape.specs.Shape.{ShapeRecord, area_end, position, ancestor}
use Rattle.stack_rules.specs.Trees.{tree_of}
use Rattle.stack_meaning.specs.Blocks.{hash_sectors}
use Rattle.stack_lines.specs.declared.tree.Extent.{Extent}
use Rattle.stack_meaning.proofs.lemmas.LoadedLemmas.{size-small}
use Rattle.stack_lines.proofs.lemmas.VerityLineLemmas.{hash-whole, hash-inside}
use Rattle.stack_lines.proofs.tree.hash_extent.Goals as goal

pub overflow_mul-result : goal.overflow_mul-result
overflow_mul-result c =
    let v = c.args.verity.now in
    let tree = c.args.tree.now in
    let is = c.requires.block.lies in
    let place : ℕ = c.position-place.result in
    let room = hash-inside c.args.config.now v tree c.requires.loaded is place (subst (λ (t : ShapeRecord). place < area_end t) is.shape_is c.position-place.ensures.inside) in
    let same : c.from.result * place ≡ hash_sectors v * place = ap (λ (k : ℕ). k * place) c.from.ensures in
    omega (arith, same, room, size-small c.args.config.now tree.hash c.requires.loaded)

pub returns : goal.returns
returns c =
    let v = c.args.verity.now in
    let tree = c.args.tree.now in
    let is = c.requires.block.lies in
    let level : ℕ = c.args.level in
    let index : ℕ = c.args.index in
    let place : ℕ = c.position-place.result in
    let size = hash-whole c.args.config.now tree.device.0 tree.line v c.requires.loaded is.is in
    let room = hash-inside c.args.config.now v tree c.requires.loaded is place (subst (λ (t : ShapeRecord). place < area_end t) is.shape_is c.position-place.ensures.inside) in
    let same : c.from.result * place ≡ hash_sectors v * place = ap (λ (k : ℕ). k * place) c.from.ensures in
    let there : place ≡ position (tree_of v) level (ancestor (tree_of v) (level + 1) index) =
    c.position-place.ensures.value ∙ ap (position tree.shape level) c.block_on_path.ensures.value ∙ ap (λ (t : ShapeRecord). position t level (ancestor t (level + 1) index)) is.shape_is in
    let at : ℕ → Extent = λ k. record { lower = tree.hash; first = k; sectors = hash_sectors v } in
    record { value = ap at (same ∙ ap (λ (k : ℕ). hash_sectors v * k) there); lies = record { some = size.some; few = size.most; inside = omega (arith, same, room) } }
