use Rattle.std.proofs.Common.{◌≡◌, ◌≤◌, ◌<◌, ◌+◌, ◌-◌, ◌*◌, ◌^◌, ℕ, ap, arith}
use Rattle.std.proofs.Math.Nat.{div-le_self, mul-le-mul_right}
use Rattle.tree_shape.specs.Shape.{ShapeRecord, IsShape, level_blocks, per_block}
use Rattle.tree_shape.proofs.lemmas.ShapeFactLemmas.{level_blocks-is}
use Rattle.tree_shape.proofs.lemmas.ShapeFaultLemmas.{blocks-le}
use Rattle.verity_format.proofs.lemmas.SizeLemmas.{block-size}
use Rattle.tree_path.proofs.unused.used_entries.Goals as goal

-- the digests before those of a hash block
first-small : (s : ShapeRecord) → IsShape s → (l n : ℕ) → n < level_blocks s l → n * per_block s ≤ 2 ^ 61
first-small s valid l n inside =
    let few : n ≤ 2 ^ 54 = omega (arith, inside, level_blocks-is s valid l, div-le_self (s.blocks - 1) (per_block s ^ (l + 1)), (blocks-le s valid).0) in
    let product : n * per_block s ≤ 2 ^ 54 * per_block s = mul-le-mul_right (per_block s) few in
    omega (arith, product, (block-size s.hash_block valid.hash_size).most_bytes)

pub overflow_mul-first : goal.overflow_mul-first
overflow_mul-first c =
    let product : c.args.number * c.per_block-per_block.result ≡ c.args.number * per_block c.args.shape.now = ap (λ (n : ℕ). c.args.number * n) c.per_block-per_block.ensures.value in
    omega (arith, product, first-small c.args.shape.now c.per_block-per_block.ensures.valid c.args.level c.args.number c.requires.inside)
