-- Two masks at once, as the four halves of a vector.
use Rattle.std.proofs.Common.{◌≡◌, ℕ, zero, suc, ◌+◌, ◌-◌, ◌*◌, ◌/◌, ◌%◌, ◌^◌, ◌<◌, ◌≤◌, List, [], ◌∷◌, ◌++◌, length, get_or, take, drop, sym, ap, ◌∙◌, inl, inr, refl, arith, bit_xor, bit_and}
use Rattle.std.specs.Int.Bits.{xor_assoc, xor_zero_l, xor_zero_r}
use Rattle.std.specs.List.{range_with_len}
use Rattle.std.specs.Simd.Lanes.{chunk, pick_l, number_l, digits_l}
use Rattle.std.proofs.lemmas.Nat.{xor_block, xor_lt, and_mask, and_le_r}
use Rattle.std.proofs.lemmas.List.{length-append, drop-drop, get_or_past}
use Rattle.std.proofs.lemmas.Simd.{length-chunk, get_or-chunk, pick_l_left, pick_l-range_with_len}
use Rattle.std.proofs.lemmas.Bool.{cases_lt}
use Rattle.std.proofs.Math.Nat.{mul_assoc, pow-succ'}
use Rattle.std.proofs.Math.Seq.{take-add}
use Rattle.aes_block.specs.Blocks.{block, joined}
use Rattle.xts_sector.specs.Tweak.{number_block, times_alpha_power}
use Rattle.xts_sector.proofs.TweakLemmas.{digits_l-block_of}
use Rattle.xts_sector.proofs.PowerLemmas.{reduced, power, power_lt, times_alpha_power_is}

-- ---- numbers and their bytes

number_l-append : (xs ys : List ℕ) → number_l 256 (xs ++ ys) ≡ number_l 256 xs + 256 ^ length xs * number_l 256 ys
number_l-append [] ys = omega arith
number_l-append (x ∷ xs) ys =
    let more = pow-succ' 256 (length xs) in
    let order = mul_assoc 256 (256 ^ length xs) (number_l 256 ys) in
    rw more (omega (arith, order, number_l-append xs ys))

number_l-joined : (n : ℕ) (xs ys : List ℕ) → length xs ≡ n → number_l 256 (xs ++ ys) ≡ number_l 256 xs + 256 ^ n * number_l 256 ys
number_l-joined n xs ys long = number_l-append xs ys ∙ ap (λ m. number_l 256 xs + 256 ^ m * number_l 256 ys) long

number_l-lt : (xs : List ℕ) → ((i : ℕ) → get_or xs i 0 < 256) → number_l 256 xs < 256 ^ length xs
number_l-lt [] small = omega arith
number_l-lt (x ∷ xs) small =
    let more = pow-succ' 256 (length xs) in
    rw more (omega (arith, small 0, number_l-lt xs (λ i. small (suc i))))

digits_l-number_l : (xs : List ℕ) → ((i : ℕ) → get_or xs i 0 < 256) → digits_l 256 (length xs) (number_l 256 xs) ≡ xs
digits_l-number_l [] small = refl
digits_l-number_l (x ∷ xs) small =
    let low : (x + 256 * number_l 256 xs) % 256 ≡ x = omega (arith, small 0) in
    let rest : (x + 256 * number_l 256 xs) / 256 ≡ number_l 256 xs = omega (arith, small 0) in
    let more = digits_l-number_l xs (λ i. small (suc i)) in
    rw (low, rest) (ap (λ ys. x ∷ ys) more)

-- the bytes of two numbers, one above the other
digits_l-add : (m n x y : ℕ) → x < 256 ^ m → digits_l 256 (m + n) (x + 256 ^ m * y) ≡ digits_l 256 m x ++ digits_l 256 n y
digits_l-add zero n x y h =
    let none : x + 256 ^ 0 * y ≡ y = omega (arith, h) in
    let e : 0 + n ≡ n = omega arith in
    rw (none, e) refl
digits_l-add (suc m) n x y h =
    let e : suc m + n ≡ suc (m + n) = omega arith in
    let more = pow-succ' 256 m in
    let order = mul_assoc 256 (256 ^ m) y in
    let shape : x + 256 ^ suc m * y ≡ x + 256 * (256 ^ m * y) = rw more (omega (arith, order)) in
    let below : x < 256 * 256 ^ m = rw more at h in
    let low : (x + 256 * (256 ^ m * y)) % 256 ≡ x % 256 = omega arith in
    let high : (x + 256 * (256 ^ m * y)) / 256 ≡ x / 256 + 256 ^ m * y = omega arith in
    rw (e, shape, low, high) (ap (λ ys. x % 256 ∷ ys) (digits_l-add m n (x / 256) y (omega (arith, below))))

pub bytes_of_two : (a b : ℕ) → a < 2 ^ 128 → digits_l 256 32 (a + 2 ^ 128 * b) ≡ number_block a ++ number_block b
bytes_of_two a b h = digits_l-add 16 16 a b h ∙ ap (λ xs. xs ++ digits_l 256 16 b) (digits_l-block_of a) ∙ ap (λ xs. number_block a ++ xs) (digits_l-block_of b)

-- ---- the halves of one mask

-- a half whose bits under m are multiplied by x^7 + x^2 + x + 1
abbrev pub half : ℕ → ℕ → ℕ
half l m = bit_xor (bit_xor (bit_xor l (bit_and l m * 2 ^ 1 % 2 ^ 64)) (bit_and l m * 2 ^ 2 % 2 ^ 64)) (bit_and l m * 2 ^ 7 % 2 ^ 64)

half-none : (l : ℕ) → half l 0 ≡ l
half-none l =
    let none : bit_and l 0 ≡ 0 = omega (arith, and_le_r l 0) in
    let same = xor_zero_r l in
    rw none (cc same)

-- a mask of 120 low bits b and 8 high bits a, turned by 8 bits
product_is : (a b : ℕ) → a < 2 ^ 8 → b < 2 ^ 120 → half ((a + 2 ^ 8 * b) % 2 ^ 64) (2 ^ 8 - 1) + 2 ^ 64 * half ((a + 2 ^ 8 * b) / 2 ^ 64) 0 ≡ power 8 (b + 2 ^ 120 * a)
unfolding power reduced
product_is a b ha hb =
    let low : ℕ = (a + 2 ^ 8 * b) % 2 ^ 64 in
    let high : ℕ = (a + 2 ^ 8 * b) / 2 ^ 64 in
    let over : bit_and low (2 ^ 8 - 1) ≡ a = and_mask low 8 ∙ omega (arith, ha) in
    let one : a * 2 ^ 1 % 2 ^ 64 ≡ a * 2 = omega (arith, ha) in
    let two : a * 2 ^ 2 % 2 ^ 64 ≡ a * 4 = omega (arith, ha) in
    let seven : a * 2 ^ 7 % 2 ^ 64 ≡ a * 128 = omega (arith, ha) in
    let rest = bit_xor (bit_xor (a * 2) (a * 4)) (a * 128) in
    let rest_lt = xor_lt 64 (bit_xor (a * 2) (a * 4)) (a * 128) (xor_lt 64 (a * 2) (a * 4) (omega (arith, ha)) (omega (arith, ha))) (omega (arith, ha)) in
    let low_is : half low (2 ^ 8 - 1) ≡ bit_xor low rest = rw (over, one, two, seven)
    (let e1 = xor_assoc low (a * 2) (a * 4) in let e2 = xor_assoc low (bit_xor (a * 2) (a * 4)) (a * 128) in cc (e1, e2)) in
    let joint = xor_block 64 high 0 low rest (omega arith) rest_lt in
    let whole : high * 2 ^ 64 + low ≡ a + 2 ^ 8 * b = omega arith in
    let alone : 0 * 2 ^ 64 + rest ≡ rest = omega arith in
    let same = xor_zero_r high in
    let sum : bit_xor low rest + 2 ^ 64 * high ≡ bit_xor high 0 * 2 ^ 64 + bit_xor low rest = omega (arith, same) in
    let parts = xor_block 8 b 0 0 a (omega arith) ha in
    let up : b * 2 ^ 8 + 0 ≡ b * 2 ^ 8 = omega arith in
    let down : 0 * 2 ^ 8 + a ≡ a = omega arith in
    let b_same = xor_zero_r b in
    let a_same = xor_zero_l a in
    let turned : a + 2 ^ 8 * b ≡ bit_xor (b * 2 ^ 8) a = cc (parts, up, down, b_same, a_same, (let e : a + 2 ^ 8 * b ≡ b * 2 ^ 8 + a = omega arith in e)) in
    let shifted : (b + 2 ^ 120 * a) * 2 ^ 8 % 2 ^ 128 ≡ b * 2 ^ 8 = omega (arith, ha, hb) in
    let top : (b + 2 ^ 120 * a) / 2 ^ 120 ≡ a = omega (arith, ha, hb) in
    let e1 = xor_assoc (b * 2 ^ 8) a rest in
    let e2 = xor_assoc a (a * 2) (a * 4) in
    let e3 = xor_assoc a (bit_xor (a * 2) (a * 4)) (a * 128) in
    let answer : bit_xor (bit_xor (b * 2 ^ 8) a) rest ≡ bit_xor (b * 2 ^ 8) (bit_xor (bit_xor (bit_xor a (a * 2)) (a * 4)) (a * 128)) = cc (e1, e2, e3) in
    rw (low_is, half-none high, shifted, top) (sum ∙ sym joint ∙ rw (whole, alone, turned) answer)

-- ---- two masks

-- the places of the bytes of two masks, each turned by one
abbrev pub places : List ℕ
places = 15 ∷ 0 ∷ 1 ∷ 2 ∷ 3 ∷ 4 ∷ 5 ∷ 6 ∷ 7 ∷ 8 ∷ 9 ∷ 10 ∷ 11 ∷ 12 ∷ 13 ∷ 14 ∷ 31 ∷ 16 ∷ 17 ∷ 18 ∷ 19 ∷ 20 ∷ 21 ∷ 22 ∷ 23 ∷ 24 ∷ 25 ∷ 26 ∷ 27 ∷ 28 ∷ 29 ∷ 30 ∷ []

-- the bytes that the code makes of the number n of the turned ones
abbrev pub stepped : ℕ → List ℕ
stepped n = digits_l 256 32 (number_l (2 ^ 64) (half (n % 2 ^ 64) (2 ^ 8 - 1) ∷ half (n / 2 ^ 64 % 2 ^ 64) 0 ∷ half (n / 2 ^ 64 / 2 ^ 64 % 2 ^ 64) (2 ^ 8 - 1) ∷ half (n / 2 ^ 64 / 2 ^ 64 / 2 ^ 64 % 2 ^ 64) 0 ∷ []))

stepped_is : (a b c d : ℕ) → a < 2 ^ 8 → b < 2 ^ 120 → c < 2 ^ 8 → d < 2 ^ 120
    → stepped (a + 2 ^ 8 * (b + 2 ^ 120 * (c + 2 ^ 8 * d))) ≡ number_block (power 8 (b + 2 ^ 120 * a)) ++ number_block (power 8 (d + 2 ^ 120 * c))
stepped_is a b c d ha hb hc hd =
    let n : ℕ = a + 2 ^ 8 * (b + 2 ^ 120 * (c + 2 ^ 8 * d)) in
    let l0 : n % 2 ^ 64 ≡ (a + 2 ^ 8 * b) % 2 ^ 64 = omega (arith, ha, hb, hc, hd) in
    let l1 : n / 2 ^ 64 % 2 ^ 64 ≡ (a + 2 ^ 8 * b) / 2 ^ 64 = omega (arith, ha, hb, hc, hd) in
    let l2 : n / 2 ^ 64 / 2 ^ 64 % 2 ^ 64 ≡ (c + 2 ^ 8 * d) % 2 ^ 64 = omega (arith, ha, hb, hc, hd) in
    let l3 : n / 2 ^ 64 / 2 ^ 64 / 2 ^ 64 % 2 ^ 64 ≡ (c + 2 ^ 8 * d) / 2 ^ 64 = omega (arith, ha, hb, hc, hd) in
    let first = product_is a b ha hb in
    let second = product_is c d hc hd in
    let p = power 8 (b + 2 ^ 120 * a) in
    let q = power 8 (d + 2 ^ 120 * c) in
    let p_lt = power_lt 8 (b + 2 ^ 120 * a) (omega arith) (omega (arith, ha, hb)) in
    let halves = λ (w x y z : ℕ). number_l (2 ^ 64) (half w (2 ^ 8 - 1) ∷ half x 0 ∷ half y (2 ^ 8 - 1) ∷ half z 0 ∷ []) in
    let number : halves ((a + 2 ^ 8 * b) % 2 ^ 64) ((a + 2 ^ 8 * b) / 2 ^ 64) ((c + 2 ^ 8 * d) % 2 ^ 64) ((c + 2 ^ 8 * d) / 2 ^ 64) ≡ p + 2 ^ 128 * q = omega (arith, first, second) in
    ap (λ w. digits_l 256 32 (halves w (n / 2 ^ 64 % 2 ^ 64) (n / 2 ^ 64 / 2 ^ 64 % 2 ^ 64) (n / 2 ^ 64 / 2 ^ 64 / 2 ^ 64 % 2 ^ 64))) l0
    ∙ ap (λ w. digits_l 256 32 (halves ((a + 2 ^ 8 * b) % 2 ^ 64) w (n / 2 ^ 64 / 2 ^ 64 % 2 ^ 64) (n / 2 ^ 64 / 2 ^ 64 / 2 ^ 64 % 2 ^ 64))) l1
    ∙ ap (λ w. digits_l 256 32 (halves ((a + 2 ^ 8 * b) % 2 ^ 64) ((a + 2 ^ 8 * b) / 2 ^ 64) w (n / 2 ^ 64 / 2 ^ 64 / 2 ^ 64 % 2 ^ 64))) l2
    ∙ ap (λ w. digits_l 256 32 (halves ((a + 2 ^ 8 * b) % 2 ^ 64) ((a + 2 ^ 8 * b) / 2 ^ 64) ((c + 2 ^ 8 * d) % 2 ^ 64) w)) l3
    ∙ ap (digits_l 256 32) number
    ∙ bytes_of_two p q p_lt

small_append : (xs ys : List ℕ) → ((i : ℕ) → get_or xs i 0 < 256) → ((i : ℕ) → get_or ys i 0 < 256) → (i : ℕ) → get_or (xs ++ ys) i 0 < 256
small_append [] ys hx hy i = hy i
small_append (x ∷ xs) ys hx hy zero = hx 0
small_append (x ∷ xs) ys hx hy (suc i) = small_append xs ys (λ k. hx (suc k)) hy i

-- the product of the mask of these low and high bytes
mask_is : (low high : List ℕ) → ((i : ℕ) → get_or low i 0 < 256) → ((i : ℕ) → get_or high i 0 < 256) → length low ≡ 15 → length high ≡ 1
    → number_block (power 8 (number_l 256 low + 2 ^ 120 * number_l 256 high)) ≡ times_alpha_power 8 (low ++ high)
mask_is low high small_low small_high long_low long_high =
    let t = number_l 256 (low ++ high) in
    let small = small_append low high small_low small_high in
    let long : length (low ++ high) ≡ 16 = length-append low high ∙ omega (arith, long_low, long_high) in
    let is = number_l-joined 15 low high long_low in
    let t_lt : t < 2 ^ 128 = rw long at (number_l-lt (low ++ high) small) in
    let bytes : number_block t ≡ low ++ high = sym (digits_l-block_of t) ∙ ap (λ n. digits_l 256 n t) (sym long) ∙ digits_l-number_l (low ++ high) small in
    ap (λ n. number_block (power 8 n)) (sym is) ∙ sym (times_alpha_power_is 8 t (omega arith) t_lt) ∙ ap (times_alpha_power 8) bytes

module _ (xs : List ℕ) (long : length xs ≡ 32) (small : (i : ℕ) → get_or xs i 0 < 256) where
  length-part : (a n : ℕ) → a + n ≤ 32 → length (chunk a n xs) ≡ n
  length-part a n h = length-chunk a n xs (omega (arith, h, long))

  small-part : (a n : ℕ) → a + n ≤ 32 → (i : ℕ) → get_or (chunk a n xs) i 0 < 256
  small-part a n h i =
      elim (cases_lt i n) [
        | inl below ↦ rw (get_or-chunk a n xs i 0 below) (small (a + i))
        | inr above ↦ let past = get_or_past (chunk a n xs) i 0 (omega (arith, above, length-part a n h)) in omega (arith, past)
      ]

  part_lt : (a n : ℕ) → a + n ≤ 32 → number_l 256 (chunk a n xs) < 256 ^ n
  part_lt a n h = rw (length-part a n h) at (number_l-lt (chunk a n xs) (small-part a n h))

  places_are : pick_l 0 (xs ++ xs) places ≡ chunk 15 1 xs ++ (chunk 0 15 xs ++ (chunk 31 1 xs ++ chunk 16 15 xs))
  places_are =
      let p0 = pick_l_left 0 xs xs 32 (range_with_len 15 1) long tt ∙ pick_l-range_with_len 0 xs 15 1 (omega (arith, long)) in
      let p1 = pick_l_left 0 xs xs 32 (range_with_len 0 15) long tt ∙ pick_l-range_with_len 0 xs 0 15 (omega (arith, long)) in
      let p2 = pick_l_left 0 xs xs 32 (range_with_len 31 1) long tt ∙ pick_l-range_with_len 0 xs 31 1 (omega (arith, long)) in
      let p3 = pick_l_left 0 xs xs 32 (range_with_len 16 15) long tt ∙ pick_l-range_with_len 0 xs 16 15 (omega (arith, long)) in
      let all = λ (ks : List ℕ). pick_l 0 (xs ++ xs) ks in
      let whole : pick_l 0 (xs ++ xs) places ≡ all (range_with_len 15 1) ++ (all (range_with_len 0 15) ++ (all (range_with_len 31 1) ++ all (range_with_len 16 15))) = refl in
      whole ∙ ap (λ ys. ys ++ (all (range_with_len 0 15) ++ (all (range_with_len 31 1) ++ all (range_with_len 16 15)))) p0
      ∙ ap (λ ys. chunk 15 1 xs ++ (ys ++ (all (range_with_len 31 1) ++ all (range_with_len 16 15)))) p1
      ∙ ap (λ ys. chunk 15 1 xs ++ (chunk 0 15 xs ++ (ys ++ all (range_with_len 16 15)))) p2
      ∙ ap (λ ys. chunk 15 1 xs ++ (chunk 0 15 xs ++ (chunk 31 1 xs ++ ys))) p3

  pub two_masks : stepped (number_l 256 (pick_l 0 (xs ++ xs) places)) ≡ joined (λ j. times_alpha_power 8 (block xs j)) 2
  unfolding joined
  two_masks =
      let high0 = chunk 15 1 xs in
      let low0 = chunk 0 15 xs in
      let high1 = chunk 31 1 xs in
      let low1 = chunk 16 15 xs in
      let last = number_l-joined 1 high1 low1 (length-part 31 1 (omega arith)) in
      let middle = number_l-joined 15 low0 (high1 ++ low1) (length-part 0 15 (omega arith)) in
      let front = number_l-joined 1 high0 (low0 ++ (high1 ++ low1)) (length-part 15 1 (omega arith)) in
      let number = ap (number_l 256) places_are ∙ front ∙ ap (λ n. number_l 256 high0 + 256 ^ 1 * n) (middle ∙ ap (λ n. number_l 256 low0 + 256 ^ 15 * n) last) in
      let both = stepped_is (number_l 256 high0) (number_l 256 low0) (number_l 256 high1) (number_l 256 low1) (part_lt 15 1 (omega arith)) (part_lt 0 15 (omega arith)) (part_lt 31 1 (omega arith)) (part_lt 16 15 (omega arith)) in
      let first = mask_is low0 high0 (small-part 0 15 (omega arith)) (small-part 15 1 (omega arith)) (length-part 0 15 (omega arith)) (length-part 15 1 (omega arith)) in
      let second = mask_is low1 high1 (small-part 16 15 (omega arith)) (small-part 31 1 (omega arith)) (length-part 16 15 (omega arith)) (length-part 31 1 (omega arith)) in
      let bytes0 : low0 ++ high0 ≡ block xs 0 = sym (take-add 15 1 xs) in
      let bytes1 : low1 ++ high1 ≡ block xs 1 = ap (λ ys. low1 ++ take 1 ys) (sym (drop-drop 15 16 xs)) ∙ sym (take-add 15 1 (drop 16 xs)) in
      let one = first ∙ ap (times_alpha_power 8) bytes0 in
      let two = second ∙ ap (times_alpha_power 8) bytes1 in
      ap stepped number ∙ both ∙ ap (λ ys. ys ++ number_block (power 8 (number_l 256 low1 + 2 ^ 120 * number_l 256 high1))) one ∙ ap (λ ys. times_alpha_power 8 (block xs 0) ++ ys) two
