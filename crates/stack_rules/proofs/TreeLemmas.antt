-- Trees over any number of blocks, counted level by level.
use Rattle.std.proofs.Common.{◌≡◌, ◌+◌, ◌-◌, ◌*◌, ◌/◌, ◌^◌, ◌≤◌, ◌<◌, ℕ, zero, suc, refl, ap, arith, add-one}
use Rattle.tree_shape.specs.Shape.{ShapeRecord, per_block, levels, area_blocks, area_end, end_of}
use Rattle.tree_shape.proofs.lemmas.ShapeLemmas.{over, levels-one, levels-up, levels-le, area_blocks-one, thrice}

-- one level fewer is over the blocks of level 0
pub levels-step : (s : ShapeRecord) (n : ℕ) → 2 ≤ per_block s → 1 < n → levels (over s n) ≡ suc (levels (over s ((n - 1) / per_block s + 1)))
levels-step s zero two more = absurd (omega (arith, more))
levels-step s (suc zero) two more = absurd (omega (arith, more))
levels-step s (suc (suc m)) two more =
    let before : suc (suc m) - 1 ≡ suc m = omega arith in
    rw (before, add-one) (levels-up s two m)

levels-none : (s : ShapeRecord) → levels (over s 0) ≡ 0
unfolding levels
levels-none s = refl

area_blocks-none : (s : ShapeRecord) → area_blocks (over s 0) ≡ 0
unfolding area_blocks levels
area_blocks-none s = refl

-- at most one block has no tree
pub levels-end : (s : ShapeRecord) (n : ℕ) → 2 ≤ per_block s → n ≤ 1 → levels (over s n) ≡ 0
levels-end s zero two few = levels-none s
levels-end s (suc zero) two few = levels-one s two
levels-end s (suc (suc n)) two few = absurd (omega (arith, few))

pub area_blocks-few : (s : ShapeRecord) (n : ℕ) → 2 ≤ per_block s → n ≤ 1 → area_blocks (over s n) ≡ 0
area_blocks-few s zero two few = area_blocks-none s
area_blocks-few s (suc zero) two few = area_blocks-one s two
area_blocks-few s (suc (suc n)) two few = absurd (omega (arith, few))

-- a number of 64 bits has at most 16 digits to the base of 16
pub levels-few : (s : ShapeRecord) (n : ℕ) → 16 ≤ per_block s → n < 2 ^ 64 → levels (over s n) ≤ 16
levels-few s zero wide low = omega (arith, levels-none s)
levels-few s (suc m) wide low = levels-le s (omega (arith, wide)) 16 m wide (let power : 16 ^ 16 ≡ 2 ^ 64 = refl in omega (arith, power, low))

-- level 0 and the rest are fewer than the blocks beneath
pub fewer-blocks : (s : ShapeRecord) (n : ℕ) → 16 ≤ per_block s → 1 < n → ((n - 1) / per_block s + 1) + ((n - 1) / per_block s + 1) ≤ n
fewer-blocks s n wide more =
    let third : 3 * ((n - 1) / per_block s) ≤ n - 1 = thrice s (omega (arith, wide)) (n - 1) (omega (arith, wide)) in
    omega (arith, third, more)

-- where the tree ends
pub area_end-none : (s : ShapeRecord) → area_blocks s ≡ 0 → area_end s ≡ 0
unfolding area_end
area_end-none s none = ap (end_of s.start) none

end_of-some : (start n : ℕ) → (n ≡ 0 → ⊥) → end_of start n ≡ start + n
end_of-some start zero some = absurd (some refl)
end_of-some start (suc n) some = refl

pub area_end-some : (s : ShapeRecord) → (area_blocks s ≡ 0 → ⊥) → area_end s ≡ s.start + area_blocks s
unfolding area_end
area_end-some s some = end_of-some s.start (area_blocks s) some
