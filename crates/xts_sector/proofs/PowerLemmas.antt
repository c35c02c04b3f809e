-- Products of numbers by powers of α.
use Rattle.std.proofs.Common.{◌≡◌, ℕ, zero, suc, ◌+◌, ◌-◌, ◌*◌, ◌/◌, ◌%◌, ◌^◌, ◌<◌, ◌≤◌, sym, ap, ◌∙◌, refl, arith, bit_xor}
use Rattle.std.specs.Int.Bits.{xor_assoc, xor_zero_r}
use Rattle.std.proofs.lemmas.Nat.{shl-shr, shr-shr, field_of, mul-mod_first, xor_lt, xor_comm, xor_shr, xor_mod, xor_block, shr_below, pow_below}
use Rattle.std.proofs.Math.Nat.{mul_assoc, pow-suc}
use Rattle.xts_sector.specs.Tweak.{number_block, times_alpha, times_alpha_power}
use Rattle.xts_sector.proofs.TweakLemmas.{xor_even, times_alpha_is}

-- the product by x^7 + x^2 + x + 1 of the bits that leave at the top
unfoldable pub reduced : ℕ → ℕ
reduced c = bit_xor (bit_xor (bit_xor c (c * 2)) (c * 4)) (c * 128)

-- the product of a number below 2^128 by the power k of α, for k up to 120
unfoldable pub power : ℕ → ℕ → ℕ
power k a = bit_xor (a * 2 ^ k % 2 ^ 128) (reduced (a / 2 ^ (128 - k)))

xor_shl : (k a b : ℕ) → 0 < 2 ^ k → bit_xor a b * 2 ^ k ≡ bit_xor (a * 2 ^ k) (b * 2 ^ k)
xor_shl k a b some =
    let e = xor_block k a b 0 0 some some in
    let l : a * 2 ^ k + 0 ≡ a * 2 ^ k = omega arith in
    let r : b * 2 ^ k + 0 ≡ b * 2 ^ k = omega arith in
    let out : bit_xor a b * 2 ^ k + bit_xor 0 0 ≡ bit_xor a b * 2 ^ k = omega arith in
    cc (e, l, r, out)

xor_swap : (a b c d : ℕ) → bit_xor (bit_xor a b) (bit_xor c d) ≡ bit_xor (bit_xor a c) (bit_xor b d)
xor_swap a b c d =
    let e1 = xor_assoc a b (bit_xor c d) in
    let e2 = xor_assoc b c d in
    let e3 = xor_comm b c in
    let e4 = xor_assoc c b d in
    let e5 = xor_assoc a c (bit_xor b d) in
    cc (e1, e2, e3, e4, e5)

reduced-xor : (x y : ℕ) → reduced (bit_xor x y) ≡ bit_xor (reduced x) (reduced y)
unfolding reduced
reduced-xor x y =
    let one = xor_shl 1 x y (omega arith) in
    let two = xor_shl 2 x y (omega arith) in
    let seven = xor_shl 7 x y (omega arith) in
    let s1 = xor_swap x y (x * 2) (y * 2) in
    let s2 = xor_swap (bit_xor x (x * 2)) (bit_xor y (y * 2)) (x * 4) (y * 4) in
    let s3 = xor_swap (bit_xor (bit_xor x (x * 2)) (x * 4)) (bit_xor (bit_xor y (y * 2)) (y * 4)) (x * 128) (y * 128) in
    cc (one, two, seven, s1, s2, s3)

reduced-double : (c : ℕ) → reduced (c * 2) ≡ reduced c * 2
unfolding reduced
reduced-double c =
    let s1 = xor_shl 1 c (c * 2) (omega arith) in
    let s2 = xor_shl 1 (bit_xor c (c * 2)) (c * 4) (omega arith) in
    let s3 = xor_shl 1 (bit_xor (bit_xor c (c * 2)) (c * 4)) (c * 128) (omega arith) in
    let four : c * 2 * 4 ≡ c * 4 * 2 = omega arith in
    let more : c * 2 * 128 ≡ c * 128 * 2 = omega arith in
    cc (s1, s2, s3, four, more)

reduced-bit : (b : ℕ) → b < 2 → reduced b ≡ b * 135
unfolding reduced
reduced-bit zero h = refl
reduced-bit (suc zero) h = refl
reduced-bit (suc (suc n)) h = absurd (omega arith)

-- one bit more
reduced-more : (c b : ℕ) → b < 2 → reduced (c * 2 + b) ≡ bit_xor (reduced c * 2) (b * 135)
reduced-more c b h =
    let e0 : c * 2 ≡ 2 * c = omega arith in
    let e1 = xor_even c b h in
    let e2 = reduced-xor (c * 2) b in
    let e3 = reduced-double c in
    let e4 = reduced-bit b h in
    cc (e0, e1, e2, e3, e4)

reduced_lt : (c : ℕ) → c < 2 ^ 120 → reduced c < 2 ^ 127
unfolding reduced
reduced_lt c h =
    let one = xor_lt 127 c (c * 2) (omega (arith, h)) (omega (arith, h)) in
    let two = xor_lt 127 (bit_xor c (c * 2)) (c * 4) one (omega (arith, h)) in
    xor_lt 127 (bit_xor (bit_xor c (c * 2)) (c * 4)) (c * 128) two (omega (arith, h))

-- the bits that leave at the top
top_lt : (k a : ℕ) → k < 120 → a < 2 ^ 128 → a / 2 ^ (128 - k) < 2 ^ 120
top_lt k a low h =
    let e : 128 ≡ k + (128 - k) = omega arith in
    let some : a < 2 ^ (k + (128 - k)) = rw (← e) h in
    let top = shr_below a k (128 - k) some in
    let more = pow_below k 120 low in
    omega (arith, top, more)

pub power_lt : (k a : ℕ) → k < 120 → a < 2 ^ 128 → power k a < 2 ^ 128
unfolding power
power_lt k a low h =
    let top = reduced_lt (a / 2 ^ (128 - k)) (top_lt k a low h) in
    xor_lt 128 (a * 2 ^ k % 2 ^ 128) (reduced (a / 2 ^ (128 - k))) (omega arith) (omega (arith, top))

-- the product by α of a sum whose second part has no top bit
doubled-sum : (x y : ℕ) → y < 2 ^ 127 → bit_xor (bit_xor x y * 2 ^ 1 % 2 ^ 128) (bit_xor x y / 2 ^ 127 * 135) ≡ bit_xor (x * 2 % 2 ^ 128) (bit_xor (y * 2) (x / 2 ^ 127 * 135))
doubled-sum x y h =
    let both = xor_shl 1 x y (omega arith) in
    let low = xor_mod (x * 2) (y * 2) 128 in
    let whole : y * 2 % 2 ^ 128 ≡ y * 2 = omega (arith, h) in
    let top = xor_shr x y 127 in
    let none : y / 2 ^ 127 ≡ 0 = omega (arith, h) in
    let same = xor_zero_r (x / 2 ^ 127) in
    let sum = xor_assoc (x * 2 % 2 ^ 128) (y * 2) (x / 2 ^ 127 * 135) in
    cc (both, low, whole, top, none, same, sum)

power-more : (k a : ℕ) → k < 120 → a < 2 ^ 128 → bit_xor (power k a * 2 ^ 1 % 2 ^ 128) (power k a / 2 ^ 127 * 135) ≡ power (suc k) a
unfolding power
power-more k a low h =
    let x = a * 2 ^ k % 2 ^ 128 in
    let c = a / 2 ^ (128 - k) in
    let rest = 127 - k in
    let y = a / 2 ^ rest in
    let doubled = doubled-sum x (reduced c) (reduced_lt c (top_lt k a low h)) in
    let shifted : x * 2 % 2 ^ 128 ≡ a * 2 ^ suc k % 2 ^ 128 = mul-mod_first (a * 2 ^ k) 2 (2 ^ 128) ∙ ap (λ n. n % 2 ^ 128) (mul_assoc a (2 ^ k) 2 ∙ ap (λ n. a * n) (sym (pow-suc 2 k))) in
    let split : 127 ≡ k + rest = omega arith in
    let next : 128 - k ≡ rest + 1 = omega arith in
    let last : 128 - suc k ≡ rest = omega arith in
    let at : a * 2 ^ k / 2 ^ 127 ≡ y = ap (λ n. a * 2 ^ k / 2 ^ n) split ∙ sym (shr-shr (a * 2 ^ k) k rest) ∙ ap (λ n. n / 2 ^ rest) (shl-shr a k) in
    let bit : x / 2 ^ 127 ≡ y % 2 = field_of (a * 2 ^ k) 1 127 ∙ ap (λ n. n % 2) at in
    let top : c ≡ y / 2 = ap (λ n. a / 2 ^ n) next ∙ sym (shr-shr a rest 1) in
    let is : c * 2 + x / 2 ^ 127 ≡ a / 2 ^ (128 - suc k) = rw (bit, top) (omega arith) ∙ ap (λ n. a / 2 ^ n) (sym last) in
    doubled ∙ ap (bit_xor (x * 2 % 2 ^ 128)) (sym (reduced-more c (x / 2 ^ 127) (omega (arith, bit))) ∙ ap reduced is) ∙ ap (λ n. bit_xor n (reduced (a / 2 ^ (128 - suc k)))) shifted

power-none : (a : ℕ) → a < 2 ^ 128 → power 0 a ≡ a
unfolding power reduced
power-none a h =
    let low : a * 2 ^ 0 % 2 ^ 128 ≡ a = omega (arith, h) in
    let none : a / 2 ^ 128 ≡ 0 = omega (arith, h) in
    rw (low, none) (xor_zero_r a)

-- the bytes of the product are those of the number's product
pub times_alpha_power_is : (k a : ℕ) → k ≤ 120 → a < 2 ^ 128 → times_alpha_power k (number_block a) ≡ number_block (power k a)
times_alpha_power_is zero a low h = ap number_block (sym (power-none a h))
times_alpha_power_is (suc k) a low h =
    ap times_alpha (times_alpha_power_is k a (omega arith) h)
    ∙ sym (times_alpha_is (power k a) (power_lt k a (omega arith) h))
    ∙ ap number_block (power-more k a (omega arith) h)
