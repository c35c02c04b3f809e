-- What holds of every shape that is not refused.
use Rattle.std.proofs.Common.{◌≡◌, ◌≤◌, ◌<◌, ◌/◌, ◌*◌, ◌+◌, ◌-◌, ◌^◌, ℕ, zero, suc, refl, sym, ap, ◌∙◌, subst, inl, inr, arith, add-one}
use Rattle.std.proofs.Math.Nat.{mul-le-mul_right, div-le_self, div-mul-le_self, pow-zero, div-one, div-div-eq-div-mul, pow-suc}
use Rattle.std.proofs.lemmas.Bool.{cases_lt}
use Rattle.std.proofs.lemmas.Nat.{mod_below, le-div}
use Rattle.tree_shape.specs.Shape.{ShapeRecord, IsShape, divisions, per_block, levels, level_blocks, blocks_above, position, slot, ancestor, area_blocks, area_end, end_of}
use Rattle.tree_shape.proofs.lemmas.ShapeLemmas.{divisions-steps, over, pow_pos, levels-le, level_blocks-over, blocks_above-is, place-lt}
use Rattle.tree_shape.proofs.lemmas.ShapeFaultLemmas.{per_block-wide, blocks-le, area_end-le}

pub quotient-le : (m n k : ℕ) → 0 < k → m ≤ n → m / k ≤ n / k
quotient-le m n k some less = le-div (m / k) n k some (omega (arith, div-mul-le_self m k, less))

-- the shape by its last data block's number
pub over-same : (s : ShapeRecord) → 1 ≤ s.blocks → over s (suc (s.blocks - 1)) ≡ s
over-same s some = let count : suc (s.blocks - 1) ≡ s.blocks = omega arith in ap (λ n. over s n) count

module _ (s : ShapeRecord) (valid : IsShape s) where
  pub two : 2 ≤ per_block s
  two = omega (arith, (per_block-wide s valid).0)

  pub levels-few : levels s ≤ 14
  levels-few =
      let power : 16 ^ 14 ≡ 2 ^ 56 = refl in
      let few : levels (over s (suc (s.blocks - 1))) ≤ 14 = levels-le s two 14 (s.blocks - 1) (per_block-wide s valid).0 (omega (arith, (blocks-le s valid).0, power)) in
      let P : ShapeRecord → Type 0 = λ t. levels t ≤ 14 in subst P (over-same s valid.some) few

  pub level_blocks-is : (l : ℕ) → level_blocks s l ≡ (s.blocks - 1) / per_block s ^ (l + 1) + 1
  level_blocks-is l = ap (λ t. level_blocks t l) (sym (over-same s valid.some)) ∙ level_blocks-over s two (s.blocks - 1) l ∙ sym (add-one ((s.blocks - 1) / per_block s ^ (l + 1)))

  pub blocks_above-area : (l : ℕ) → blocks_above s l ≡ area_blocks (over s (level_blocks s l))
  blocks_above-area l =
      let P : ShapeRecord → Type 0 = λ t. blocks_above t l ≡ area_blocks (over t (level_blocks t l)) in
      subst P (over-same s valid.some) (blocks_above-is s two (s.blocks - 1) l)

  -- the block above a data block is one of its level
  pub ancestor-lt : (l i : ℕ) → i < s.blocks → ancestor s (l + 1) i < level_blocks s l
  unfolding ancestor
  ancestor-lt l i inside =
      let fewer : i / per_block s ^ (l + 1) ≤ (s.blocks - 1) / per_block s ^ (l + 1) = quotient-le i (s.blocks - 1) (per_block s ^ (l + 1)) (pow_pos (per_block s) (l + 1) (omega (arith, two))) (omega arith) in
      omega (arith, fewer, level_blocks-is l)

  -- the block itself, and one step further up
  pub ancestor-none : (i : ℕ) → ancestor s 0 i ≡ i
  unfolding ancestor
  ancestor-none i = ap (λ q. i / q) (pow-zero (per_block s)) ∙ div-one i

  pub ancestor-more : (k i : ℕ) → ancestor s (k + 1) i ≡ ancestor s k i / per_block s
  unfolding ancestor
  ancestor-more k i =
      let power : per_block s ^ (k + 1) ≡ per_block s ^ k * per_block s = rw add-one (pow-suc (per_block s) k) in
      ap (λ q. i / q) power ∙ sym (div-div-eq-div-mul i (per_block s ^ k) (per_block s))

  pub above-lt : (l i : ℕ) → l < levels s → i < level_blocks s l → blocks_above s l + i < area_blocks s
  above-lt l i below inside =
      let P : ShapeRecord → Type 0 = λ t. l < levels t → i < level_blocks t l → blocks_above t l + i < area_blocks t in
      subst P (over-same s valid.some) (place-lt s two (s.blocks - 1) l i) below inside

  end_of-some : (start n : ℕ) → 0 < n → end_of start n ≡ start + n
  end_of-some start zero some = absurd (omega arith)
  end_of-some start (suc n) some = refl

  pub area_end-is : 0 < area_blocks s → area_end s ≡ s.start + area_blocks s
  unfolding area_end
  area_end-is some = end_of-some s.start (area_blocks s) some

  -- every place lies before the area's end
  pub position-lt : (l i : ℕ) → l < levels s → i < level_blocks s l → position s l i < area_end s
  unfolding position
  position-lt l i below inside =
      let above : blocks_above s l + i < area_blocks s = above-lt l i below inside in
      omega (arith, above, area_end-is (omega (arith, above)))

  -- every slot lies inside its hash block
  pub slot-inside : (i : ℕ) → 32 * slot s i + 32 ≤ s.hash_block
  unfolding slot
  slot-inside i = omega (arith, mod_below i (per_block s) (omega (arith, two)), (per_block-wide s valid).1)

  -- the offset of a level follows from how many blocks are above it
  pub position-is : (l i : ℕ) → position s l i ≡ s.start + area_blocks (over s (level_blocks s l)) + i
  unfolding position
  position-is l i = ap (λ n. s.start + n + i) (blocks_above-area l)

  pub area_end-none : area_blocks s ≡ 0 → area_end s ≡ 0
  unfolding area_end
  area_end-none none = ap (end_of s.start) none

  pub levels-is : levels s ≡ divisions (s.blocks - 1) (per_block s) (s.blocks - 1)
  unfolding levels
  levels-is = divisions-steps s.blocks (s.blocks - 1) (per_block s) (s.blocks - 1) two (omega arith) (omega arith)

  pub ancestor-le : (k i : ℕ) → ancestor s k i ≤ i
  unfolding ancestor
  ancestor-le k i = div-le_self i (per_block s ^ k)

  -- the area takes at most 2^63 bytes
  pub area_bytes : area_blocks s * s.hash_block ≤ 2 ^ 63
  area_bytes =
      elim (cases_lt 0 (area_blocks s)) [
        | inl some ↦
            let end : area_end s ≡ s.start + area_blocks s = area_end-is some in
            let less : area_blocks s * s.hash_block ≤ area_end s * s.hash_block = mul-le-mul_right s.hash_block (omega (arith, end)) in
            omega (arith, less, (area_end-le s valid).1)
        | inr none ↦
            let zero : area_blocks s * s.hash_block ≡ 0 * s.hash_block = ap (λ n. n * s.hash_block) (omega arith) in
            omega (arith, zero)
      ]
