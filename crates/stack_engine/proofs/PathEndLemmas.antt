-- The blocks of a tree by their numbers, and the first data block beneath one.
use Rattle.std.proofs.Common.{◌≡◌, ◌≤◌, ◌<◌, ◌/◌, ◌*◌, ◌+◌, ◌-◌, ◌^◌, ℕ, zero, suc, cond, nat_lt, None, Some, inl, inr, refl, sym, ap, ◌∙◌, arith, subst}
use Rattle.std.specs.Prelude.{sum_by}
use Rattle.std.specs.List.{range_with_len}
use Rattle.std.proofs.lemmas.Bool.{cases_lt}
use Rattle.std.proofs.lemmas.List.Sums.{sum_by-cons}
use Rattle.std.proofs.lemmas.Bool.{le-ltb, lt-ltb}
use Rattle.std.proofs.Math.Nat.{div-mul-le_self, mul-le-mul_left, mul-le-mul_right, mul_assoc, pow-le-pow_right, pow-suc}
use Rattle.tree_shape.specs.Shape.{IsShape, ShapeRecord, area_blocks, blocks_above, level_blocks, levels, per_block}
use Rattle.dm_table.specs.declared.verity.Verity.{Verity}
use Rattle.stack_rules.specs.Trees.{tree_of}
use Rattle.stack_meaning.specs.Erasures.{PathEnd, path_end, tree_block}
use Rattle.stack_meaning.specs.Spares.{verified_blocks}
use Rattle.tree_shape.proofs.lemmas.ShapeFactLemmas.{above-lt, level_blocks-is, two}

-- on the way to it no number is larger than that of a data block
pub beneath-lt : (s : ShapeRecord) → IsShape s → (l b k : ℕ) → b < level_blocks s l → k ≤ l + 1 → b * per_block s ^ k < s.blocks
beneath-lt s valid l b k inside low =
    let p : ℕ = per_block s in
    let q : ℕ = p ^ (l + 1) in
    let last : ℕ = s.blocks - 1 in
    let above : b ≤ last / q = omega (arith, inside, level_blocks-is s valid l) in
    let power : p ^ k ≤ q = pow-le-pow_right (omega (arith, two s valid)) low in
    let one : b * p ^ k ≤ b * q = mul-le-mul_left b power in
    let two : b * q ≤ last / q * q = mul-le-mul_right q above in
    omega (arith, one, two, div-mul-le_self last q, valid.some)

pub beneath-next : (b p k : ℕ) → b * p ^ k * p ≡ b * p ^ (k + 1)
beneath-next b p k =
    let more : suc k ≡ k + 1 = omega arith in
    mul_assoc b (p ^ k) p ∙ ap (λ x. b * x) (sym (pow-suc p k) ∙ ap (λ j. p ^ j) more)

-- ---- a block by its number

pub tree-none : (s : ShapeRecord) (m : ℕ) → tree_block s 0 m ≡ None
unfolding tree_block
tree-none s m = refl

step : (s : ShapeRecord) (l m : ℕ) → tree_block s (suc l) m ≡ cond (nat_lt m (level_blocks s l)) (Some (record { index = m * per_block s ^ (l + 1); above = levels s - (l + 1) })) (tree_block s l (m - level_blocks s l))
unfolding tree_block
step s l m = refl

-- it is in the topmost one of the levels
pub tree-here : (s : ShapeRecord) (n l m : ℕ) → n ≡ l + 1 → m < level_blocks s l → tree_block s n m ≡ Some (record { index = m * per_block s ^ (l + 1); above = levels s - (l + 1) })
tree-here s n l m is low =
    let more : n ≡ suc l = omega (arith, is) in
    ap (λ k. tree_block s k m) more ∙ step s l m
    ∙ ap (λ b. cond b (Some (record { index = m * per_block s ^ (l + 1); above = levels s - (l + 1) })) (tree_block s l (m - level_blocks s l))) (lt-ltb m (level_blocks s l) low)

-- or in one beneath
pub tree-next : (s : ShapeRecord) (n l m : ℕ) → n ≡ l + 1 → level_blocks s l ≤ m → tree_block s n m ≡ tree_block s l (m - level_blocks s l)
tree-next s n l m is high =
    let more : n ≡ suc l = omega (arith, is) in
    ap (λ k. tree_block s k m) more ∙ step s l m
    ∙ ap (λ b. cond b (Some (record { index = m * per_block s ^ (l + 1); above = levels s - (l + 1) })) (tree_block s l (m - level_blocks s l))) (le-ltb m (level_blocks s l) high)

-- ---- what is found

-- the blocks above a level are those of the next one and those above it
above-next : (s : ShapeRecord) (l : ℕ) → suc l < levels s → blocks_above s l ≡ level_blocks s (suc l) + blocks_above s (suc l)
unfolding blocks_above
above-next s l low =
    let n : ℕ = levels s - (suc l + 1) in
    let count : levels s - (l + 1) ≡ suc n = omega (arith, low) in
    let first : l + 1 ≡ suc l = omega arith in
    let next : l + 1 + 1 ≡ suc l + 1 = omega arith in
    ap (λ k. sum_by (level_blocks s) (range_with_len (l + 1) k)) count
    ∙ sum_by-cons (level_blocks s) (l + 1) (range_with_len (l + 1 + 1) n)
    ∙ ap (λ k. level_blocks s k + sum_by (level_blocks s) (range_with_len (l + 1 + 1) n)) first
    ∙ ap (λ k. level_blocks s (suc l) + sum_by (level_blocks s) (range_with_len k n)) next

some-same : {x y : PathEnd} → Some x ≡ Some y → x ≡ y
some-same same = cc

-- a data block of the tree, beneath some of its levels; and the block is one of the tree
pub record IsInTree (s : ShapeRecord) (before : ℕ) (end : PathEnd) : Type 0 where
  pub index : end.index < s.blocks
  pub above : end.above ≤ levels s
  pub inside : before < area_blocks s

found-here : (s : ShapeRecord) → IsShape s → (l m : ℕ) (end : PathEnd) → l < levels s → m < level_blocks s l → record { index = m * per_block s ^ (l + 1); above = levels s - (l + 1) } ≡ end → IsInTree s (blocks_above s l + m) end
found-here s valid l m end below low same = subst (IsInTree s (blocks_above s l + m)) same (record {
  index = beneath-lt s valid l m (l + 1) low (omega arith);
  above = omega arith;
  inside = above-lt s valid l m below low;
})

found-in : (s : ShapeRecord) → IsShape s → (l m : ℕ) (end : PathEnd) → suc l ≤ levels s → tree_block s (suc l) m ≡ Some end → IsInTree s (blocks_above s l + m) end
found-in s valid zero m end below is = elim (cases_lt m (level_blocks s 0)) [
  | inl low ↦ let found : Some (record { index = m * per_block s ^ (0 + 1); above = levels s - (0 + 1) }) ≡ Some end = sym (tree-here s 1 0 m refl low) ∙ is in found-here s valid 0 m end (omega (arith, below)) low (some-same found)
  | inr high ↦ let clash : None ≡ Some end = sym (tree-next s 1 0 m refl high ∙ tree-none s (m - level_blocks s 0)) ∙ is in absurd cc
]
found-in s valid (suc l) m end below is = elim (cases_lt m (level_blocks s (suc l))) [
  | inl low ↦
      let found : Some (record { index = m * per_block s ^ (suc l + 1); above = levels s - (suc l + 1) }) ≡ Some end = sym (tree-here s (suc (suc l)) (suc l) m (omega arith) low) ∙ is in
      found-here s valid (suc l) m end (omega (arith, below)) low (some-same found)
  | inr high ↦
      let rest = found-in s valid l (m - level_blocks s (suc l)) end (omega (arith, below)) (sym (tree-next s (suc (suc l)) (suc l) m (omega arith) high) ∙ is) in
      let all : blocks_above s l + (m - level_blocks s (suc l)) ≡ blocks_above s (suc l) + m = omega (arith, high, above-next s l (omega (arith, below))) in
      subst (λ k. IsInTree s k end) all rest
]

top-none : (s : ShapeRecord) (l : ℕ) → levels s ≤ l + 1 → blocks_above s l ≡ 0
unfolding blocks_above
top-none s l h = let count : levels s - (l + 1) ≡ 0 = omega (arith, h) in ap (λ k. sum_by (level_blocks s) (range_with_len (l + 1) k)) count

-- of all levels
pub tree-found : (s : ShapeRecord) → IsShape s → (n m : ℕ) (end : PathEnd) → n ≤ levels s → levels s ≤ n → tree_block s n m ≡ Some end → IsInTree s m end
tree-found s valid zero m end low all is = let clash : None ≡ Some end = sym (tree-none s m) ∙ is in absurd cc
tree-found s valid (suc l) m end low all is =
    let none : blocks_above s l ≡ 0 = top-none s l (omega (arith, all)) in
    let same : blocks_above s l + m ≡ m = omega (arith, none) in
    subst (λ k. IsInTree s k end) same (found-in s valid l m end low is)

-- ---- a covered block

-- one that is verified: the data block on whose path it is, and how many hash blocks are above it
pub record IsVerifiedEnd (v : Verity) (k : ℕ) (end : PathEnd) : Type 0 where
  pub index : end.index < v.blocks
  pub above : end.above ≤ levels (tree_of v)
  pub verified : k < verified_blocks v

pub end-verified : (v : Verity) → IsShape (tree_of v) → (k : ℕ) (end : PathEnd) → path_end v k ≡ Some end → IsVerifiedEnd v k end
end-verified v valid k end is = elim (cases_lt k v.blocks) [
  | inl low ↦
      let found : Some (record { index = k; above = levels (tree_of v) }) ≡ Some end = sym (ap (λ b. cond b (Some (record { index = k; above = levels (tree_of v) })) (tree_block (tree_of v) (levels (tree_of v)) (k - v.blocks))) (lt-ltb k v.blocks low)) ∙ is in
      subst (IsVerifiedEnd v k) (some-same found) (record { index = low; above = omega arith; verified = omega (arith, low) })
  | inr high ↦
      let found : tree_block (tree_of v) (levels (tree_of v)) (k - v.blocks) ≡ Some end = sym (ap (λ b. cond b (Some (record { index = k; above = levels (tree_of v) })) (tree_block (tree_of v) (levels (tree_of v)) (k - v.blocks))) (le-ltb k v.blocks high)) ∙ is in
      let it = tree-found (tree_of v) valid (levels (tree_of v)) (k - v.blocks) end (omega arith) (omega arith) found in
      record { index = it.index; above = it.above; verified = omega (arith, high, it.inside) }
]
