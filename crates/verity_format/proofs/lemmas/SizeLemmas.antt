-- Block sizes, and how many sectors blocks take.
use Rattle.std.proofs.Common.{◌≡◌, ◌≤◌, ◌<◌, ◌+◌, ◌*◌, ◌/◌, ◌%◌, ◌⊎◌, ℕ, zero, suc, IsTrue, refl, subst, arith, inl, inr}
use Rattle.std.proofs.Math.Nat.{mul-le-mul_right, zero-mul}
use Rattle.tree_shape.specs.Shape.{ShapeRecord, IsShape, is_block_size, blocks_sectors, area_blocks, area_end, end_of}
use Rattle.tree_shape.proofs.lemmas.ShapeFaultLemmas.{is_block_size-cases}
use Rattle.tree_shape.proofs.lemmas.ShapeFactLemmas.{area_end-is}
use Rattle.verity_format.specs.Image.{area_sectors, image_sectors, tree_sectors}

-- a block is one to eight whole sectors
pub record IsBlock (n : ℕ) : Type 0 where
  pub some : 0 < n
  pub whole : n % 512 ≡ 0
  pub least : 1 ≤ n / 512
  pub most : n / 512 ≤ 8
  pub least_bytes : 512 ≤ n
  pub most_bytes : n ≤ 4096
  pub sectors : n ≡ 512 * (n / 512)

pub block-size : (n : ℕ) → IsTrue (is_block_size n) → IsBlock n
block-size n valid =
    elim (is_block_size-cases n valid) [
      | inl (inl e) ↦ rw e (record { some = omega arith; whole = refl; least = omega arith; most = omega arith; least_bytes = omega arith; most_bytes = omega arith; sectors = refl })
      | inl (inr e) ↦ rw e (record { some = omega arith; whole = refl; least = omega arith; most = omega arith; least_bytes = omega arith; most_bytes = omega arith; sectors = refl })
      | inr (inl e) ↦ rw e (record { some = omega arith; whole = refl; least = omega arith; most = omega arith; least_bytes = omega arith; most_bytes = omega arith; sectors = refl })
      | inr (inr e) ↦ rw e (record { some = omega arith; whole = refl; least = omega arith; most = omega arith; least_bytes = omega arith; most_bytes = omega arith; sectors = refl })
    ]

end-cases : (start n k : ℕ) → (end_of start n * k ≡ start * k + n * k) ⊎ ((end_of start n * k ≡ 0) × (n ≡ 0))
end-cases start zero k = inr (zero-mul k, refl)
end-cases start (suc n) k = inl (let e : (start + suc n) * k ≡ start * k + suc n * k = grind arith in e)

-- block i of n lies within the sectors of n blocks
pub block-inside : (i n k : ℕ) → i < n → i * k + k ≤ n * k
block-inside i n k below =
    let most : suc i * k ≤ n * k = mul-le-mul_right k below in
    let next : suc i * k ≡ i * k + k = grind arith in
    omega (arith, most, next)

-- each block of a tree lies within the tree's sectors
pub tree-room : (s : ShapeRecord) → IsShape s → (size : ℕ) → tree_sectors s ≤ size → (block : ℕ) → s.start ≤ block → block < s.start + area_blocks s
    → block * (s.hash_block / 512) + s.hash_block / 512 ≤ size
tree-room s valid size fits block from low =
    let end : area_end s ≡ s.start + area_blocks s = area_end-is s valid (omega (arith, from, low)) in
    let whole : (s.start + area_blocks s) * (s.hash_block / 512) ≤ size = rw end at fits in
    omega (arith, whole, block-inside block (s.start + area_blocks s) (s.hash_block / 512) low)

end-most : (start n : ℕ) → end_of start n ≤ start + n
end-most start zero = omega arith
end-most start (suc n) = omega arith

-- the tree after hash block 0 lies within the image
pub tree-within : (s : ShapeRecord) → s.start ≡ 1 → tree_sectors s ≤ image_sectors s
unfolding area_end
tree-within s start =
    let most : area_end s ≤ 1 + area_blocks s = subst (λ (n : ℕ). area_end s ≤ n + area_blocks s) start (end-most s.start (area_blocks s)) in
    mul-le-mul_right (s.hash_block / 512) most

-- a tree ends after its blocks, or has none
pub tree-end : (s : ShapeRecord) → (tree_sectors s ≡ blocks_sectors s.start s.hash_block + area_sectors s) ⊎ ((tree_sectors s ≡ 0) × (area_blocks s ≡ 0))
unfolding area_end
tree-end s = end-cases s.start (area_blocks s) (s.hash_block / 512)
