-- The number of a unit as bytes, and tweaks as numbers.
use Rattle.std.proofs.Common.{◌≡◌, ℕ, zero, suc, ◌+◌, ◌*◌, ◌/◌, ◌%◌, ◌^◌, ◌<◌, List, ◌++◌, length, get_or, replicate, sym, ap, ◌∙◌, refl, arith, bit_xor}
use Rattle.std.specs.Int.{w64, w128, to_le_bytes, from_le_bytes}
use Rattle.std.specs.Int.Bits.{xor_zero_l, xor_zero_r}
use Rattle.std.specs.Simd.Lanes.{digits_l}
use Rattle.std.proofs.lemmas.Nat.{shr-shr, xor_shr, xor_mod, xor_block}
use Rattle.std.proofs.lemmas.List.FromFn.{length-map-range_with_len, fill_by_all}
use Rattle.xts_sector.specs.Tweak.{unit_number, number_block, product_byte, times_alpha, times_alpha_power}

pub times_alpha_power_more : (j : ℕ) (a : List ℕ) → times_alpha_power (j + 1) a ≡ times_alpha (times_alpha_power j a)
times_alpha_power_more j a =
    let e : j + 1 ≡ suc j = omega arith in
    rw e refl

pub times_alpha_power-add : (i j : ℕ) (a : List ℕ) → times_alpha_power j (times_alpha_power i a) ≡ times_alpha_power (i + j) a
times_alpha_power-add i zero a = let e : i + 0 ≡ i = omega arith in rw e refl
times_alpha_power-add i (suc j) a =
    let e : i + suc j ≡ suc (i + j) = omega arith in
    rw e (ap times_alpha (times_alpha_power-add i j a))

pub length-times_alpha_power : (j : ℕ) (a : List ℕ) → length a ≡ 16 → length (times_alpha_power j a) ≡ 16
unfolding times_alpha
length-times_alpha_power zero a h = h
length-times_alpha_power (suc j) a h = length-map-range_with_len (product_byte (times_alpha_power j a)) 0 16

-- the number of 64 bits in 8 bytes, and 8 zeros
pub unit_number_is : (n : ℕ) → n < 2 ^ 64 → to_le_bytes w64 n ++ replicate 8 0 ≡ unit_number n
unfolding unit_number
unit_number_is n h =
    let b0 : n / 256 ^ 0 % 256 ≡ n % 256 = omega arith in
    let b8 : n / 256 ^ 8 % 256 ≡ 0 = omega arith in
    let b9 : n / 256 ^ 9 % 256 ≡ 0 = omega arith in
    let b10 : n / 256 ^ 10 % 256 ≡ 0 = omega arith in
    let b11 : n / 256 ^ 11 % 256 ≡ 0 = omega arith in
    let b12 : n / 256 ^ 12 % 256 ≡ 0 = omega arith in
    let b13 : n / 256 ^ 13 % 256 ≡ 0 = omega arith in
    let b14 : n / 256 ^ 14 % 256 ≡ 0 = omega arith in
    let b15 : n / 256 ^ 15 % 256 ≡ 0 = omega arith in
    cc

-- ---- the product by α of a number

pub xor_even : (x b : ℕ) → b < 2 → bit_xor (2 * x) b ≡ 2 * x + b
xor_even x b h =
    let e = xor_block 1 x 0 0 b (omega arith) (omega (arith, h)) in
    let l : x * 2 ^ 1 + 0 ≡ 2 * x = omega arith in
    let r : 0 * 2 ^ 1 + b ≡ b = omega arith in
    let xz = xor_zero_r x in
    let zb = xor_zero_l b in
    let out : x * 2 ^ 1 + b ≡ 2 * x + b = omega arith in
    cc (e, l, r, xz, zb, out)

-- a number of 8 bits reaches no higher byte
high_part : (x c s : ℕ) → c / 2 ^ s ≡ 0 → bit_xor x c / 2 ^ s ≡ x / 2 ^ s
high_part x c s none = xor_shr x c s ∙ ap (bit_xor (x / 2 ^ s)) none ∙ xor_zero_r (x / 2 ^ s)

byte_0 : (a : ℕ) → a < 2 ^ 128 → bit_xor (a * 2 ^ 1 % 2 ^ 128) (a / 2 ^ 127 * 135) % 256 ≡ bit_xor (2 * (a % 256 % 128)) (135 * (a / 256 ^ 15 % 256 / 128))
byte_0 a h =
    let low : (a * 2 ^ 1 % 2 ^ 128) % 256 ≡ 2 * (a % 256 % 128) = omega arith in
    let carry : a / 2 ^ 127 * 135 % 256 ≡ 135 * (a / 256 ^ 15 % 256 / 128) = omega arith in
    xor_mod (a * 2 ^ 1 % 2 ^ 128) (a / 2 ^ 127 * 135) 8 ∙ rw (low, carry) refl

byte_1 : (a : ℕ) → a < 2 ^ 128 → bit_xor (a * 2 ^ 1 % 2 ^ 128) (a / 2 ^ 127 * 135) / 256 ^ 1 % 256 ≡ bit_xor (2 * (a / 256 ^ 1 % 256 % 128)) (a % 256 / 128)
byte_1 a h =
    let sum : (a * 2 ^ 1 % 2 ^ 128) / 256 ^ 1 % 256 ≡ 2 * (a / 256 ^ 1 % 256 % 128) + a % 256 / 128 = omega arith in
    ap (λ x. x % 256) (high_part (a * 2 ^ 1 % 2 ^ 128) (a / 2 ^ 127 * 135) 8 (omega arith)) ∙ sum ∙ sym (xor_even (a / 256 ^ 1 % 256 % 128) (a % 256 / 128) (omega arith))

byte_2 : (a : ℕ) → a < 2 ^ 128 → bit_xor (a * 2 ^ 1 % 2 ^ 128) (a / 2 ^ 127 * 135) / 256 ^ 2 % 256 ≡ bit_xor (2 * (a / 256 ^ 2 % 256 % 128)) (a / 256 ^ 1 % 256 / 128)
byte_2 a h =
    let sum : (a * 2 ^ 1 % 2 ^ 128) / 256 ^ 2 % 256 ≡ 2 * (a / 256 ^ 2 % 256 % 128) + a / 256 ^ 1 % 256 / 128 = omega arith in
    ap (λ x. x % 256) (high_part (a * 2 ^ 1 % 2 ^ 128) (a / 2 ^ 127 * 135) 16 (omega arith)) ∙ sum ∙ sym (xor_even (a / 256 ^ 2 % 256 % 128) (a / 256 ^ 1 % 256 / 128) (omega arith))

byte_3 : (a : ℕ) → a < 2 ^ 128 → bit_xor (a * 2 ^ 1 % 2 ^ 128) (a / 2 ^ 127 * 135) / 256 ^ 3 % 256 ≡ bit_xor (2 * (a / 256 ^ 3 % 256 % 128)) (a / 256 ^ 2 % 256 / 128)
byte_3 a h =
    let sum : (a * 2 ^ 1 % 2 ^ 128) / 256 ^ 3 % 256 ≡ 2 * (a / 256 ^ 3 % 256 % 128) + a / 256 ^ 2 % 256 / 128 = omega arith in
    ap (λ x. x % 256) (high_part (a * 2 ^ 1 % 2 ^ 128) (a / 2 ^ 127 * 135) 24 (omega arith)) ∙ sum ∙ sym (xor_even (a / 256 ^ 3 % 256 % 128) (a / 256 ^ 2 % 256 / 128) (omega arith))

byte_4 : (a : ℕ) → a < 2 ^ 128 → bit_xor (a * 2 ^ 1 % 2 ^ 128) (a / 2 ^ 127 * 135) / 256 ^ 4 % 256 ≡ bit_xor (2 * (a / 256 ^ 4 % 256 % 128)) (a / 256 ^ 3 % 256 / 128)
byte_4 a h =
    let sum : (a * 2 ^ 1 % 2 ^ 128) / 256 ^ 4 % 256 ≡ 2 * (a / 256 ^ 4 % 256 % 128) + a / 256 ^ 3 % 256 / 128 = omega arith in
    ap (λ x. x % 256) (high_part (a * 2 ^ 1 % 2 ^ 128) (a / 2 ^ 127 * 135) 32 (omega arith)) ∙ sum ∙ sym (xor_even (a / 256 ^ 4 % 256 % 128) (a / 256 ^ 3 % 256 / 128) (omega arith))

byte_5 : (a : ℕ) → a < 2 ^ 128 → bit_xor (a * 2 ^ 1 % 2 ^ 128) (a / 2 ^ 127 * 135) / 256 ^ 5 % 256 ≡ bit_xor (2 * (a / 256 ^ 5 % 256 % 128)) (a / 256 ^ 4 % 256 / 128)
byte_5 a h =
    let sum : (a * 2 ^ 1 % 2 ^ 128) / 256 ^ 5 % 256 ≡ 2 * (a / 256 ^ 5 % 256 % 128) + a / 256 ^ 4 % 256 / 128 = omega arith in
    ap (λ x. x % 256) (high_part (a * 2 ^ 1 % 2 ^ 128) (a / 2 ^ 127 * 135) 40 (omega arith)) ∙ sum ∙ sym (xor_even (a / 256 ^ 5 % 256 % 128) (a / 256 ^ 4 % 256 / 128) (omega arith))

byte_6 : (a : ℕ) → a < 2 ^ 128 → bit_xor (a * 2 ^ 1 % 2 ^ 128) (a / 2 ^ 127 * 135) / 256 ^ 6 % 256 ≡ bit_xor (2 * (a / 256 ^ 6 % 256 % 128)) (a / 256 ^ 5 % 256 / 128)
byte_6 a h =
    let sum : (a * 2 ^ 1 % 2 ^ 128) / 256 ^ 6 % 256 ≡ 2 * (a / 256 ^ 6 % 256 % 128) + a / 256 ^ 5 % 256 / 128 = omega arith in
    ap (λ x. x % 256) (high_part (a * 2 ^ 1 % 2 ^ 128) (a / 2 ^ 127 * 135) 48 (omega arith)) ∙ sum ∙ sym (xor_even (a / 256 ^ 6 % 256 % 128) (a / 256 ^ 5 % 256 / 128) (omega arith))

byte_7 : (a : ℕ) → a < 2 ^ 128 → bit_xor (a * 2 ^ 1 % 2 ^ 128) (a / 2 ^ 127 * 135) / 256 ^ 7 % 256 ≡ bit_xor (2 * (a / 256 ^ 7 % 256 % 128)) (a / 256 ^ 6 % 256 / 128)
byte_7 a h =
    let sum : (a * 2 ^ 1 % 2 ^ 128) / 256 ^ 7 % 256 ≡ 2 * (a / 256 ^ 7 % 256 % 128) + a / 256 ^ 6 % 256 / 128 = omega arith in
    ap (λ x. x % 256) (high_part (a * 2 ^ 1 % 2 ^ 128) (a / 2 ^ 127 * 135) 56 (omega arith)) ∙ sum ∙ sym (xor_even (a / 256 ^ 7 % 256 % 128) (a / 256 ^ 6 % 256 / 128) (omega arith))

byte_8 : (a : ℕ) → a < 2 ^ 128 → bit_xor (a * 2 ^ 1 % 2 ^ 128) (a / 2 ^ 127 * 135) / 256 ^ 8 % 256 ≡ bit_xor (2 * (a / 256 ^ 8 % 256 % 128)) (a / 256 ^ 7 % 256 / 128)
byte_8 a h =
    let sum : (a * 2 ^ 1 % 2 ^ 128) / 256 ^ 8 % 256 ≡ 2 * (a / 256 ^ 8 % 256 % 128) + a / 256 ^ 7 % 256 / 128 = omega arith in
    ap (λ x. x % 256) (high_part (a * 2 ^ 1 % 2 ^ 128) (a / 2 ^ 127 * 135) 64 (omega arith)) ∙ sum ∙ sym (xor_even (a / 256 ^ 8 % 256 % 128) (a / 256 ^ 7 % 256 / 128) (omega arith))

byte_9 : (a : ℕ) → a < 2 ^ 128 → bit_xor (a * 2 ^ 1 % 2 ^ 128) (a / 2 ^ 127 * 135) / 256 ^ 9 % 256 ≡ bit_xor (2 * (a / 256 ^ 9 % 256 % 128)) (a / 256 ^ 8 % 256 / 128)
byte_9 a h =
    let sum : (a * 2 ^ 1 % 2 ^ 128) / 256 ^ 9 % 256 ≡ 2 * (a / 256 ^ 9 % 256 % 128) + a / 256 ^ 8 % 256 / 128 = omega arith in
    ap (λ x. x % 256) (high_part (a * 2 ^ 1 % 2 ^ 128) (a / 2 ^ 127 * 135) 72 (omega arith)) ∙ sum ∙ sym (xor_even (a / 256 ^ 9 % 256 % 128) (a / 256 ^ 8 % 256 / 128) (omega arith))

byte_10 : (a : ℕ) → a < 2 ^ 128 → bit_xor (a * 2 ^ 1 % 2 ^ 128) (a / 2 ^ 127 * 135) / 256 ^ 10 % 256 ≡ bit_xor (2 * (a / 256 ^ 10 % 256 % 128)) (a / 256 ^ 9 % 256 / 128)
byte_10 a h =
    let sum : (a * 2 ^ 1 % 2 ^ 128) / 256 ^ 10 % 256 ≡ 2 * (a / 256 ^ 10 % 256 % 128) + a / 256 ^ 9 % 256 / 128 = omega arith in
    ap (λ x. x % 256) (high_part (a * 2 ^ 1 % 2 ^ 128) (a / 2 ^ 127 * 135) 80 (omega arith)) ∙ sum ∙ sym (xor_even (a / 256 ^ 10 % 256 % 128) (a / 256 ^ 9 % 256 / 128) (omega arith))

byte_11 : (a : ℕ) → a < 2 ^ 128 → bit_xor (a * 2 ^ 1 % 2 ^ 128) (a / 2 ^ 127 * 135) / 256 ^ 11 % 256 ≡ bit_xor (2 * (a / 256 ^ 11 % 256 % 128)) (a / 256 ^ 10 % 256 / 128)
byte_11 a h =
    let sum : (a * 2 ^ 1 % 2 ^ 128) / 256 ^ 11 % 256 ≡ 2 * (a / 256 ^ 11 % 256 % 128) + a / 256 ^ 10 % 256 / 128 = omega arith in
    ap (λ x. x % 256) (high_part (a * 2 ^ 1 % 2 ^ 128) (a / 2 ^ 127 * 135) 88 (omega arith)) ∙ sum ∙ sym (xor_even (a / 256 ^ 11 % 256 % 128) (a / 256 ^ 10 % 256 / 128) (omega arith))

byte_12 : (a : ℕ) → a < 2 ^ 128 → bit_xor (a * 2 ^ 1 % 2 ^ 128) (a / 2 ^ 127 * 135) / 256 ^ 12 % 256 ≡ bit_xor (2 * (a / 256 ^ 12 % 256 % 128)) (a / 256 ^ 11 % 256 / 128)
byte_12 a h =
    let sum : (a * 2 ^ 1 % 2 ^ 128) / 256 ^ 12 % 256 ≡ 2 * (a / 256 ^ 12 % 256 % 128) + a / 256 ^ 11 % 256 / 128 = omega arith in
    ap (λ x. x % 256) (high_part (a * 2 ^ 1 % 2 ^ 128) (a / 2 ^ 127 * 135) 96 (omega arith)) ∙ sum ∙ sym (xor_even (a / 256 ^ 12 % 256 % 128) (a / 256 ^ 11 % 256 / 128) (omega arith))

byte_13 : (a : ℕ) → a < 2 ^ 128 → bit_xor (a * 2 ^ 1 % 2 ^ 128) (a / 2 ^ 127 * 135) / 256 ^ 13 % 256 ≡ bit_xor (2 * (a / 256 ^ 13 % 256 % 128)) (a / 256 ^ 12 % 256 / 128)
byte_13 a h =
    let sum : (a * 2 ^ 1 % 2 ^ 128) / 256 ^ 13 % 256 ≡ 2 * (a / 256 ^ 13 % 256 % 128) + a / 256 ^ 12 % 256 / 128 = omega arith in
    ap (λ x. x % 256) (high_part (a * 2 ^ 1 % 2 ^ 128) (a / 2 ^ 127 * 135) 104 (omega arith)) ∙ sum ∙ sym (xor_even (a / 256 ^ 13 % 256 % 128) (a / 256 ^ 12 % 256 / 128) (omega arith))

byte_14 : (a : ℕ) → a < 2 ^ 128 → bit_xor (a * 2 ^ 1 % 2 ^ 128) (a / 2 ^ 127 * 135) / 256 ^ 14 % 256 ≡ bit_xor (2 * (a / 256 ^ 14 % 256 % 128)) (a / 256 ^ 13 % 256 / 128)
byte_14 a h =
    let sum : (a * 2 ^ 1 % 2 ^ 128) / 256 ^ 14 % 256 ≡ 2 * (a / 256 ^ 14 % 256 % 128) + a / 256 ^ 13 % 256 / 128 = omega arith in
    ap (λ x. x % 256) (high_part (a * 2 ^ 1 % 2 ^ 128) (a / 2 ^ 127 * 135) 112 (omega arith)) ∙ sum ∙ sym (xor_even (a / 256 ^ 14 % 256 % 128) (a / 256 ^ 13 % 256 / 128) (omega arith))

byte_15 : (a : ℕ) → a < 2 ^ 128 → bit_xor (a * 2 ^ 1 % 2 ^ 128) (a / 2 ^ 127 * 135) / 256 ^ 15 % 256 ≡ bit_xor (2 * (a / 256 ^ 15 % 256 % 128)) (a / 256 ^ 14 % 256 / 128)
byte_15 a h =
    let sum : (a * 2 ^ 1 % 2 ^ 128) / 256 ^ 15 % 256 ≡ 2 * (a / 256 ^ 15 % 256 % 128) + a / 256 ^ 14 % 256 / 128 = omega arith in
    ap (λ x. x % 256) (high_part (a * 2 ^ 1 % 2 ^ 128) (a / 2 ^ 127 * 135) 120 (omega arith)) ∙ sum ∙ sym (xor_even (a / 256 ^ 15 % 256 % 128) (a / 256 ^ 14 % 256 / 128) (omega arith))

-- the bytes of the product are those of the number's product
pub times_alpha_is : (a : ℕ) → a < 2 ^ 128 → number_block (bit_xor (a * 2 ^ 1 % 2 ^ 128) (a / 2 ^ 127 * 135)) ≡ times_alpha (number_block a)
unfolding number_block times_alpha
times_alpha_is a h = cc (byte_0 a h, byte_1 a h, byte_2 a h, byte_3 a h, byte_4 a h, byte_5 a h, byte_6 a h, byte_7 a h, byte_8 a h, byte_9 a h, byte_10 a h, byte_11 a h, byte_12 a h, byte_13 a h, byte_14 a h, byte_15 a h)

-- ---- a block as a number

-- the number of n bytes from byte k on
horner : (ℕ → ℕ) → ℕ → ℕ → ℕ
horner b k zero = 0
horner b k (suc n) = b k + 256 * horner b (k + 1) n

byte-horner : (b : ℕ → ℕ) → ((i : ℕ) → b i < 256) → (n k i : ℕ) → i < n → horner b k n / 2 ^ (8 * i) % 256 ≡ b (k + i)
unfolding horner
byte-horner b small zero k i h = absurd (omega arith)
byte-horner b small (suc n) k zero h =
    let e : (b k + 256 * horner b (k + 1) n) / 2 ^ (8 * 0) % 256 ≡ b k = omega (arith, small k) in
    e ∙ ap b (omega arith)
byte-horner b small (suc n) k (suc i) h =
    let whole = b k + 256 * horner b (k + 1) n in
    let rest : whole / 2 ^ 8 ≡ horner b (k + 1) n = omega (arith, small k) in
    let more : 8 * suc i ≡ 8 + 8 * i = omega arith in
    ap (λ s. whole / 2 ^ s % 256) more ∙ ap (λ x. x % 256) (sym (shr-shr whole 8 (8 * i)) ∙ ap (λ x. x / 2 ^ (8 * i)) rest)
    ∙ byte-horner b small n (k + 1) i (omega arith) ∙ ap b (omega arith)

-- the bytes of the number of 16 bytes
pub block_of-from_le_bytes : (bytes : List ℕ) → length bytes ≡ 16 → ((i : ℕ) → get_or bytes i 0 < 256) → number_block (from_le_bytes w128 bytes) ≡ bytes
unfolding horner number_block
block_of-from_le_bytes bytes len small =
    let b = λ (i : ℕ). get_or bytes i 0 in
    let n = horner b 0 16 in
    let is : from_le_bytes w128 bytes ≡ n = omega arith in
    let first : n / 2 ^ (8 * 0) % 256 ≡ n % 256 = omega arith in
    let all = fill_by_all (λ i. n / 2 ^ (8 * i) % 256) bytes 16 0 len (λ i h. sym (byte-horner b small 16 0 i h ∙ ap b (omega arith))) in
    ap (to_le_bytes w128) is ∙ sym (all ∙ rw first refl)

pub length-block_of : (n : ℕ) → length (number_block n) ≡ 16
unfolding number_block
length-block_of n = refl

-- the bytes of a number, by divisions one after the other
pub digits_l-block_of : (n : ℕ) → digits_l 256 16 n ≡ number_block n
unfolding number_block
digits_l-block_of n =
    let d2 : n / 256 / 256 ≡ n / 256 ^ 2 = omega arith in
    let d3 : n / 256 ^ 2 / 256 ≡ n / 256 ^ 3 = omega arith in
    let d4 : n / 256 ^ 3 / 256 ≡ n / 256 ^ 4 = omega arith in
    let d5 : n / 256 ^ 4 / 256 ≡ n / 256 ^ 5 = omega arith in
    let d6 : n / 256 ^ 5 / 256 ≡ n / 256 ^ 6 = omega arith in
    let d7 : n / 256 ^ 6 / 256 ≡ n / 256 ^ 7 = omega arith in
    let d8 : n / 256 ^ 7 / 256 ≡ n / 256 ^ 8 = omega arith in
    let d9 : n / 256 ^ 8 / 256 ≡ n / 256 ^ 9 = omega arith in
    let d10 : n / 256 ^ 9 / 256 ≡ n / 256 ^ 10 = omega arith in
    let d11 : n / 256 ^ 10 / 256 ≡ n / 256 ^ 11 = omega arith in
    let d12 : n / 256 ^ 11 / 256 ≡ n / 256 ^ 12 = omega arith in
    let d13 : n / 256 ^ 12 / 256 ≡ n / 256 ^ 13 = omega arith in
    let d14 : n / 256 ^ 13 / 256 ≡ n / 256 ^ 14 = omega arith in
    let d15 : n / 256 ^ 14 / 256 ≡ n / 256 ^ 15 = omega arith in
    cc (d2, d3, d4, d5, d6, d7, d8, d9, d10, d11, d12, d13, d14, d15)
