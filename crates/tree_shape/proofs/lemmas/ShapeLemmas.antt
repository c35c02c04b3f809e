-- How the shape over some blocks follows from the shape over the blocks of its level 0.
use Rattle.std.proofs.Common.{◌≡◌, ◌≤◌, ◌<◌, ◌/◌, ◌%◌, ◌*◌, ◌+◌, ◌-◌, ◌^◌, ℕ, zero, suc, refl, sym, ap, ◌∙◌, arith, min, add-one}
use Rattle.std.proofs.Math.Nat.{div-lt_self, div-div-eq-div-mul, mul-le-mul_left, zero-div, mul-lt-mul_of_pos_right, pow-suc, pow-succ', div-mul-le_self, pow-zero, mod-add-div}
use Rattle.std.proofs.lemmas.Nat.{div-mul-add, mod_below}
use Rattle.std.proofs.lemmas.List.Sums.{sum_by-cons}
use Rattle.std.specs.Prelude.{sum_by}
use Rattle.std.specs.Int.{div_ceil}
use Rattle.std.specs.List.{range_with_len}
use Rattle.tree_shape.specs.Shape.{ShapeRecord, per_block, divisions, levels, level_blocks, blocks_above, area_blocks}

-- the shape with that many data blocks
abbrev pub over : ShapeRecord → ℕ → ShapeRecord
over s n = record s { blocks = n }

pub pow_pos : (p k : ℕ) → 0 < p → 0 < p ^ k
pow_pos p zero some = rw (pow-zero p) (omega arith)
pow_pos p (suc k) some =
    let more : 0 * p < p ^ k * p = mul-lt-mul_of_pos_right (pow_pos p k some) some in
    omega (arith, more, pow-suc p k)

rounded : (n m r q : ℕ) → r + m * q ≡ suc n → r < m → q + min 1 r ≡ suc (n / m)
rounded n m zero zero e low = absurd (omega arith)
rounded n m zero (suc q) e low =
    let parts : n ≡ q * m + (m - 1) = grind arith in
    let whole : n / m ≡ q = ap (λ k. k / m) parts ∙ div-mul-add q m (m - 1) (omega arith) in
    omega (arith, whole)
rounded n m (suc r) q e low =
    let parts : n ≡ q * m + r = grind arith in
    let whole : n / m ≡ q = ap (λ k. k / m) parts ∙ div-mul-add q m r (omega arith) in
    omega (arith, whole)

-- the quotient rounded up
pub div_ceil-suc : (n m : ℕ) → 0 < m → div_ceil (suc n) m ≡ suc (n / m)
div_ceil-suc n m some = rounded n m (suc n % m) (suc n / m) (mod-add-div (suc n) m) (mod_below (suc n) m some)

pub none_left : (f p : ℕ) → divisions f p 0 ≡ 0
none_left zero p = refl
none_left (suc f) p = refl

smaller : (n p f : ℕ) → 2 ≤ p → suc n ≤ suc f → suc n / p ≤ f
smaller n p f two room = let less : suc n / p < suc n = div-lt_self (omega arith) (omega (arith, two)) in omega (arith, less, room)

-- divisions until 0 don't depend on the steps that are allowed, once they are enough
pub divisions-steps : (f g p n : ℕ) → 2 ≤ p → n ≤ f → n ≤ g → divisions f p n ≡ divisions g p n
divisions-steps f g p zero two hf hg = rw (none_left f p, none_left g p) refl
divisions-steps zero g p (suc n) two hf hg = let no_room : ⊥ = omega (arith, hf) in absurd no_room
divisions-steps (suc f) zero p (suc n) two hf hg = let no_room : ⊥ = omega (arith, hg) in absurd no_room
divisions-steps (suc f) (suc g) p (suc n) two hf hg = ap suc (divisions-steps f g p (suc n / p) two (smaller n p f two hf) (smaller n p g two hg))

-- one division fewer is left
pub divisions-step : (steps p n : ℕ) → 2 ≤ p → 0 < n → n / p ≤ steps → divisions n p n ≡ suc (divisions steps p (n / p))
divisions-step steps p zero two some room = let no_room : ⊥ = omega (arith, some) in absurd no_room
divisions-step steps p (suc n) two some room = ap suc (divisions-steps n steps p (suc n / p) two (smaller n p n two (omega arith)) room)

module _ (s : ShapeRecord) (two : 2 ≤ per_block s) where
  levels-suc : (m : ℕ) → levels (over s (suc m)) ≡ divisions m (per_block s) m
  unfolding levels
  levels-suc m =
      let less : suc m - 1 ≡ m = omega arith in
      rw less (divisions-steps (suc m) m (per_block s) m two (omega arith) (omega arith))

  -- one block needs no level
  pub levels-one : levels (over s 1) ≡ 0
  unfolding levels
  levels-one = refl

  -- each further level is over the blocks of the one below it
  pub levels-up : (m : ℕ) → levels (over s (suc (suc m))) ≡ suc (levels (over s (suc (suc m / per_block s))))
  levels-up m =
      levels-suc (suc m)
      ∙ divisions-step (suc m / per_block s) (per_block s) (suc m) two (omega arith) (omega arith)
      ∙ ap suc (sym (levels-suc (suc m / per_block s)))

  pub level_blocks-over : (m l : ℕ) → level_blocks (over s (suc m)) l ≡ suc (m / per_block s ^ (l + 1))
  unfolding level_blocks
  level_blocks-over m l = div_ceil-suc m (per_block s ^ (l + 1)) (pow_pos (per_block s) (l + 1) (omega arith))

  pub level_blocks-first : (m : ℕ) → level_blocks (over s (suc m)) 0 ≡ suc (m / per_block s)
  level_blocks-first m =
      let p = per_block s in
      let here : p ^ (0 + 1) ≡ p = grind (arith, pow-suc p 0, pow-zero p) in
      level_blocks-over m 0 ∙ ap (λ q. suc (m / q)) here

  pub level_blocks-up : (m l : ℕ) → level_blocks (over s (suc m)) (suc l) ≡ level_blocks (over s (suc (m / per_block s))) l
  level_blocks-up m l =
      let p = per_block s in
      let here : p ^ (suc l + 1) ≡ p * p ^ (l + 1) = rw (add-one (suc l), add-one l) (pow-succ' p (suc l)) in
      level_blocks-over m (suc l)
      ∙ ap (λ q. suc (m / q)) here
      ∙ ap suc (sym (div-div-eq-div-mul m p (p ^ (l + 1))))
      ∙ sym (level_blocks-over (m / p) l)

  shifted : (f g : ℕ → ℕ) → ((l : ℕ) → f (l + 1) ≡ g l) → (n l : ℕ) → sum_by f (range_with_len (l + 1) n) ≡ sum_by g (range_with_len l n)
  shifted f g same zero l = refl
  shifted f g same (suc n) l =
      sum_by-cons f (l + 1) (range_with_len (l + 1 + 1) n)
      ∙ (let here : f (l + 1) ≡ g l = same l in let rest : sum_by f (range_with_len (l + 1 + 1) n) ≡ sum_by g (range_with_len (l + 1) n) = shifted f g same n (l + 1) in cc)
      ∙ sym (sum_by-cons g l (range_with_len (l + 1) n))

  above-shifted : (m n l : ℕ) → sum_by (level_blocks (over s (suc m))) (range_with_len (l + 1) n) ≡ sum_by (level_blocks (over s (suc (m / per_block s)))) (range_with_len l n)
  above-shifted m = shifted (level_blocks (over s (suc m))) (level_blocks (over s (suc (m / per_block s)))) (λ l. rw (add-one l) (level_blocks-up m l))

  pub area_blocks-one : area_blocks (over s 1) ≡ 0
  unfolding area_blocks
  area_blocks-one = ap (λ n. sum_by (level_blocks (over s 1)) (range_with_len 0 n)) levels-one

  -- the tree has level 0 and the tree over it
  pub area_blocks-up : (m : ℕ) → area_blocks (over s (suc (suc m))) ≡ suc (suc m / per_block s) + area_blocks (over s (suc (suc m / per_block s)))
  unfolding area_blocks
  area_blocks-up m =
      let n = levels (over s (suc (suc m / per_block s))) in
      let f = level_blocks (over s (suc (suc m))) in
      ap (λ n. sum_by f (range_with_len 0 n)) (levels-up m)
      ∙ sum_by-cons f 0 (range_with_len (0 + 1) n)
      ∙ (let first : f 0 ≡ suc (suc m / per_block s) = level_blocks-first (suc m) in let rest = above-shifted (suc m) n 0 in cc)

  none_above : (l : ℕ) → blocks_above (over s 1) l ≡ 0
  unfolding blocks_above
  none_above l =
      let none : levels (over s 1) - (l + 1) ≡ 0 = omega (arith, levels-one) in
      ap (λ n. sum_by (level_blocks (over s 1)) (range_with_len (l + 1) n)) none

  pub blocks_above-first : (m : ℕ) → blocks_above (over s (suc (suc m))) 0 ≡ area_blocks (over s (suc (suc m / per_block s)))
  unfolding blocks_above area_blocks
  blocks_above-first m =
      let n = levels (over s (suc (suc m / per_block s))) in
      let count : levels (over s (suc (suc m))) - (0 + 1) ≡ n = omega (arith, levels-up m) in
      ap (λ n. sum_by (level_blocks (over s (suc (suc m)))) (range_with_len (0 + 1) n)) count
      ∙ above-shifted (suc m) n 0

  pub blocks_above-up : (m l : ℕ) → blocks_above (over s (suc (suc m))) (suc l) ≡ blocks_above (over s (suc (suc m / per_block s))) l
  unfolding blocks_above
  blocks_above-up m l =
      let n = levels (over s (suc (suc m / per_block s))) - (l + 1) in
      let f = level_blocks (over s (suc (suc m))) in
      let count : levels (over s (suc (suc m))) - (suc l + 1) ≡ n = omega (arith, levels-up m) in
      let from : suc l + 1 ≡ l + 1 + 1 = omega arith in
      ap (λ n. sum_by f (range_with_len (suc l + 1) n)) count
      ∙ ap (λ a. sum_by f (range_with_len a n)) from
      ∙ above-shifted (suc m) n (l + 1)

  -- the levels above l are the tree over the blocks of level l
  pub blocks_above-is : (m l : ℕ) → blocks_above (over s (suc m)) l ≡ area_blocks (over s (level_blocks (over s (suc m)) l))
  blocks_above-is zero l =
      let only : level_blocks (over s 1) l ≡ 1 = level_blocks-over 0 l ∙ ap suc (zero-div (per_block s ^ (l + 1))) in
      none_above l ∙ sym area_blocks-one ∙ ap (λ n. area_blocks (over s n)) (sym only)
  blocks_above-is (suc m) zero = blocks_above-first m ∙ ap (λ n. area_blocks (over s n)) (sym (level_blocks-first (suc m)))
  blocks_above-is (suc m) (suc l) =
      blocks_above-up m l
      ∙ blocks_above-is (suc m / per_block s) l
      ∙ ap (λ n. area_blocks (over s n)) (sym (level_blocks-up (suc m) l))

  -- every place lies in the area
  pub place-lt : (m l i : ℕ) → l < levels (over s (suc m)) → i < level_blocks (over s (suc m)) l → blocks_above (over s (suc m)) l + i < area_blocks (over s (suc m))
  place-lt zero l i below inside = absurd (omega (arith, levels-one))
  place-lt (suc m) zero i below inside = omega (arith, blocks_above-first m, area_blocks-up m, level_blocks-first (suc m))
  place-lt (suc m) (suc l) i below inside =
      let higher : blocks_above (over s (suc (suc m / per_block s))) l + i < area_blocks (over s (suc (suc m / per_block s))) =
      place-lt (suc m / per_block s) l i (omega (arith, levels-up m)) (omega (arith, level_blocks-up (suc m) l)) in
      omega (arith, higher, blocks_above-up m l, area_blocks-up m)

  pub thrice : (m : ℕ) → 3 ≤ per_block s → 3 * (m / per_block s) ≤ m
  thrice m three =
      let most : m / per_block s * 3 ≤ m / per_block s * per_block s = mul-le-mul_left (m / per_block s) three in
      omega (arith, most, div-mul-le_self m (per_block s))

  few_divisions : (f k m : ℕ) → 16 ≤ per_block s → m < 16 ^ k → divisions f (per_block s) m ≤ k
  few_divisions zero k m wide low = omega arith
  few_divisions (suc f) k zero wide low = omega arith
  few_divisions (suc f) zero (suc m) wide low = absurd (let one : 16 ^ 0 ≡ 1 = refl in omega arith)
  few_divisions (suc f) (suc k) (suc m) wide low =
      let less : suc m / per_block s * 16 ≤ suc m / per_block s * per_block s = mul-le-mul_left (suc m / per_block s) wide in
      let power : 16 ^ suc k ≡ 16 ^ k * 16 = pow-suc 16 k in
      let below : suc m / per_block s < 16 ^ k = omega (arith, less, power, low, div-mul-le_self (suc m) (per_block s)) in
      let rest : divisions f (per_block s) (suc m / per_block s) ≤ k = few_divisions f k (suc m / per_block s) wide below in
      omega (arith, rest)

  -- at most as many levels as the digits of the last data block's number to the base of 16
  pub levels-le : (k m : ℕ) → 16 ≤ per_block s → m < 16 ^ k → levels (over s (suc m)) ≤ k
  levels-le k m wide low = let few : divisions m (per_block s) m ≤ k = few_divisions m k m wide low in omega (arith, few, levels-suc m)

-- level 0 over more than one block, and the tree over it
pub area_blocks-step : (s : ShapeRecord) (n : ℕ) → 2 ≤ per_block s → 1 < n
    → area_blocks (over s n) ≡ ((n - 1) / per_block s + 1) + area_blocks (over s ((n - 1) / per_block s + 1))
area_blocks-step s zero two more = absurd (omega arith)
area_blocks-step s (suc zero) two more = absurd (omega arith)
area_blocks-step s (suc (suc m)) two more =
    let before : suc (suc m) - 1 ≡ suc m = omega arith in
    rw (before, add-one) (area_blocks-up s two m)

-- no hash block is over one block
pub area_blocks-end : (s : ShapeRecord) (n : ℕ) → 2 ≤ per_block s → n ≡ 1 → area_blocks (over s n) ≡ 0
area_blocks-end s n two one = ap (λ n. area_blocks (over s n)) one ∙ area_blocks-one s two

-- which levels a tree has doesn't depend on the data blocks' size, nor on where it begins
pub area_blocks-fields : (data_block hash_block blocks start : ℕ)
    → area_blocks (record { data_block = 512; hash_block = hash_block; blocks = blocks; start = 0 })
    ≡ area_blocks (record { data_block = data_block; hash_block = hash_block; blocks = blocks; start = start })
unfolding area_blocks levels level_blocks
area_blocks-fields data_block hash_block blocks start = refl
