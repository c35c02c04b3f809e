-- Two blocks of an image are the same one, or have no sector in common.
use Rattle.std.proofs.Common.{◌≡◌, ◌≤◌, ◌<◌, ◌+◌, ◌-◌, ◌*◌, ◌/◌, ℕ, zero, suc, refl, sym, ap, ◌∙◌, subst, arith, inl, inr, ◌⊎◌, add-one}
use Rattle.std.specs.Prelude.{sum_by}
use Rattle.std.specs.List.{range_with_len}
use Rattle.std.proofs.lemmas.Bool.{cases_lt}
use Rattle.std.proofs.lemmas.List.Sums.{sum_by-cons}
use Rattle.tree_shape.specs.Shape.{ShapeRecord, IsShape, ancestor, area_end, blocks_above, level_blocks, levels, per_block, position}
use Rattle.tree_shape.proofs.lemmas.ShapeFactLemmas.{ancestor-lt, ancestor-more, ancestor-none, position-lt}
use Rattle.verity_format.proofs.lemmas.SizeLemmas.{block-inside}
use Rattle.tree_repair.specs.Parity.{IsPlace, end_at}
use Rattle.tree_repair.specs.Runs.{sector_at, size_at}

-- ---- hash blocks by their positions

module _ (s : ShapeRecord) where
  -- the blocks above a level are those of the next one and those above that
  above-step : (l : ℕ) → l + 1 < levels s → blocks_above s l ≡ level_blocks s (l + 1) + blocks_above s (l + 1)
  unfolding blocks_above
  above-step l low =
      let n : ℕ = levels s - (l + 1 + 1) in
      let count : levels s - (l + 1) ≡ suc n = omega (arith, low) in
      ap (λ (k : ℕ). sum_by (level_blocks s) (range_with_len (l + 1) k)) count ∙ sum_by-cons (level_blocks s) (l + 1) (range_with_len (l + 1 + 1) n)

  higher-before : (d l m a : ℕ) → m ≡ l + 1 + d → m < levels s → a < level_blocks s m → blocks_above s m + a < blocks_above s l
  higher-before zero l m a at low inside =
      let here : l + 1 ≡ m = omega (arith, at) in
      let step : blocks_above s l ≡ level_blocks s m + blocks_above s m =
      above-step l (omega (arith, here, low)) ∙ ap (λ (k : ℕ). level_blocks s k + blocks_above s k) here in
      omega (arith, step, inside)
  higher-before (suc d) l m a at low inside =
      let step : blocks_above s l ≡ level_blocks s (l + 1) + blocks_above s (l + 1) = above-step l (omega (arith, at, low)) in
      let rest : blocks_above s m + a < blocks_above s (l + 1) = higher-before d (l + 1) m a (omega (arith, at)) low inside in
      omega (arith, step, rest)

  -- a block of a higher level is before each of a lower one
  levels-order : (l m a b : ℕ) → l < m → m < levels s → b < level_blocks s m → position s m b < position s l a
  unfolding position
  levels-order l m a b up low inside =
      let before : blocks_above s m + b < blocks_above s l = higher-before (m - (l + 1)) l m b (omega (arith, up)) low inside in
      omega (arith, before)

  level-order : (l a b : ℕ) → a < b → position s l a < position s l b
  unfolding position
  level-order l a b less = omega (arith, less)

-- ---- blocks by their heights

-- n sectors from one on, and n from another on, have none in common
abbrev pub AreApart : ℕ → ℕ → ℕ → Type 0
AreApart a b n = (a + n ≤ b) ⊎ (b + n ≤ a)

-- two blocks have no sector in common
abbrev pub IsElsewhere : ShapeRecord → ℕ → ℕ → ℕ → ℕ → Type 0
IsElsewhere s zero i zero k = AreApart (sector_at s zero i) (sector_at s zero k) (size_at s zero / 512)
IsElsewhere s zero i (suc m) k = Unit {0}
IsElsewhere s (suc l) i zero k = Unit {0}
IsElsewhere s (suc l) i (suc m) k = AreApart (sector_at s (suc l) i) (sector_at s (suc m) k) (size_at s (suc l) / 512)

-- they are the same one
abbrev pub IsSamePlace : ShapeRecord → ℕ → ℕ → ℕ → ℕ → Type 0
IsSamePlace s h i g k = (g ≡ h) × (ancestor s h k ≡ ancestor s h i)

data-cases : (s : ShapeRecord) (i k : ℕ) → IsSamePlace s zero i zero k ⊎ IsElsewhere s zero i zero k
data-cases s i k =
    let n : ℕ = s.data_block / 512 in
    elim (cases_lt i k) [
      | inl less ↦ inr (inl (block-inside i k n less))
      | inr not ↦ elim (cases_lt k i) [
        | inl less ↦ inr (inr (block-inside k i n less))
        | inr nor ↦ let same : k ≡ i = omega (arith, not, nor) in inl (refl, ap (ancestor s 0) same)
      ]
    ]

level-cases : (s : ShapeRecord) (l i k : ℕ) → IsSamePlace s (suc l) i (suc l) k ⊎ IsElsewhere s (suc l) i (suc l) k
level-cases s l i k =
    let n : ℕ = s.hash_block / 512 in
    let a : ℕ = ancestor s (l + 1) i in
    let b : ℕ = ancestor s (l + 1) k in
    elim (cases_lt a b) [
      | inl less ↦ inr (inl (block-inside (position s l a) (position s l b) n (level-order s l a b less)))
      | inr not ↦ elim (cases_lt b a) [
        | inl less ↦ inr (inr (block-inside (position s l b) (position s l a) n (level-order s l b a less)))
        | inr nor ↦
            let same : b ≡ a = omega (arith, not, nor) in
            inl (refl, ap (λ (m : ℕ). ancestor s m k) (sym (add-one l)) ∙ same ∙ ap (λ (m : ℕ). ancestor s m i) (add-one l))
      ]
    ]

pub same-or-elsewhere : (s : ShapeRecord) (h i g k : ℕ) → IsPlace s h i → IsPlace s g k → IsSamePlace s h i g k ⊎ IsElsewhere s h i g k
same-or-elsewhere s zero i zero k here there = data-cases s i k
same-or-elsewhere s zero i (suc m) k here there = inr tt
same-or-elsewhere s (suc l) i zero k here there = inr tt
same-or-elsewhere s (suc l) i (suc m) k here there =
    let n : ℕ = s.hash_block / 512 in
    let a : ℕ = ancestor s (l + 1) i in
    let b : ℕ = ancestor s (m + 1) k in
    let low : l < levels s = omega (arith, here.high) in
    let low' : m < levels s = omega (arith, there.high) in
    elim (cases_lt l m) [
      | inl up ↦ inr (inr (block-inside (position s m b) (position s l a) n (levels-order s l m a b up low' (ancestor-lt s there.valid m k there.inside))))
      | inr not ↦ elim (cases_lt m l) [
        | inl down ↦ inr (inl (block-inside (position s l a) (position s m b) n (levels-order s m l b a down low (ancestor-lt s here.valid l i here.inside))))
        | inr nor ↦
            let same : l ≡ m = omega (arith, not, nor) in
            subst (λ (x : ℕ). IsSamePlace s (suc l) i (suc x) k ⊎ IsElsewhere s (suc l) i (suc x) k) same (level-cases s l i k)
      ]
    ]

-- a block lies before the end of the data, or of the tree
pub place-inside : (s : ShapeRecord) (h i : ℕ) → IsPlace s h i → sector_at s h i + size_at s h / 512 ≤ end_at s h
place-inside s zero i place = block-inside i s.blocks (s.data_block / 512) place.inside
place-inside s (suc l) i place =
    block-inside (position s l (ancestor s (l + 1) i)) (area_end s) (s.hash_block / 512)
    (position-lt s place.valid l (ancestor s (l + 1) i) (omega (arith, place.high)) (ancestor-lt s place.valid l i place.inside))

-- ---- what is above the same block is the same

pub above-from : (s : ShapeRecord) → IsShape s → (d h m i k : ℕ) → m ≡ h + d → ancestor s h k ≡ ancestor s h i → ancestor s m k ≡ ancestor s m i
above-from s valid zero h m i k at same = let here : h ≡ m = omega (arith, at) in subst (λ (x : ℕ). ancestor s x k ≡ ancestor s x i) here same
above-from s valid (suc d) h m i k at same =
    let here : (h + d) + 1 ≡ m = omega (arith, at) in
    let step : ancestor s ((h + d) + 1) k ≡ ancestor s ((h + d) + 1) i =
    ancestor-more s valid (h + d) k ∙ ap (λ (x : ℕ). x / per_block s) (above-from s valid d h (h + d) i k refl same) ∙ sym (ancestor-more s valid (h + d) i) in
    subst (λ (x : ℕ). ancestor s x k ≡ ancestor s x i) here step

pub above-same : (s : ShapeRecord) → IsShape s → (h i k : ℕ) → ancestor s h k ≡ ancestor s h i → (m : ℕ) → h < m → ancestor s m k ≡ ancestor s m i
above-same s valid h i k same m high = above-from s valid (m - h) h m i k (omega (arith, high)) same

-- and so are the first sectors
pub sector-same : (s : ShapeRecord) → IsShape s → (h i k : ℕ) → ancestor s h k ≡ ancestor s h i → sector_at s h k ≡ sector_at s h i
sector-same s valid zero i k same =
    let one : k ≡ i = sym (ancestor-none s valid k) ∙ same ∙ ancestor-none s valid i in
    ap (λ (n : ℕ). n * (s.data_block / 512)) one
sector-same s valid (suc l) i k same =
    let one : ancestor s (l + 1) k ≡ ancestor s (l + 1) i = ap (λ (m : ℕ). ancestor s m k) (add-one l) ∙ same ∙ ap (λ (m : ℕ). ancestor s m i) (sym (add-one l)) in
    ap (λ (n : ℕ). position s l n * (s.hash_block / 512)) one
