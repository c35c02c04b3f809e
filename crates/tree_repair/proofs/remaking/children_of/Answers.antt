use Rattle.std.proofs.Common.{◌≡◌, ◌≤◌, ◌<◌, ◌*◌, ◌^◌, ℕ, ap, arith}
use Rattle.std.proofs.Math.Nat.{mul-le-mul_right}
use Rattle.tree_shape.specs.Shape.{ShapeRecord, IsShape, level_blocks, per_block}
use Rattle.tree_shape.proofs.lemmas.ShapeFaultLemmas.{blocks-le}
use Rattle.verity_format.proofs.lemmas.SizeLemmas.{block-size}
use Rattle.tree_repair.proofs.MakeLemmas.{level_blocks-few}
use Rattle.tree_repair.proofs.remaking.children_of.Goals as goal

-- the first block beneath one
first-small : (s : ShapeRecord) → IsShape s → (h n : ℕ) → n < level_blocks s h → (n * per_block s ≤ 2 ^ 61) × (per_block s ≤ 128)
first-small s valid h n inside =
    let most : per_block s ≤ 128 = omega (arith, (block-size s.hash_block valid.hash_size).most_bytes) in
    let few : n ≤ 2 ^ 54 = omega (arith, inside, level_blocks-few s valid h, (blocks-le s valid).0) in
    let product : n * per_block s ≤ 2 ^ 54 * per_block s = mul-le-mul_right (per_block s) few in
    (omega (arith, product, most), most)

pub overflow_mul-first : goal.overflow_mul-first
overflow_mul-first c =
    let small = first-small c.args.shape.now c.per_block-per_block.ensures.valid c.args.height c.args.number c.requires.inside in
    let product : c.args.number * c.per_block-per_block.result ≡ c.args.number * per_block c.args.shape.now = ap (λ (n : ℕ). c.args.number * n) c.per_block-per_block.ensures.value in
    omega (arith, product, small.0)

pub returns-clause-inside : goal.returns-clause-inside
returns-clause-inside c =
    let small = first-small c.args.shape.now c.per_block-per_block.ensures.valid c.args.height c.args.number c.requires.inside in
    let product : c.args.number * c.per_block-per_block.result ≡ c.args.number * per_block c.args.shape.now = ap (λ (n : ℕ). c.args.number * n) c.per_block-per_block.ensures.value in
    omega (arith, product, small.0, small.1, c.per_block-per_block.ensures.value, c.min-count.ensures)
