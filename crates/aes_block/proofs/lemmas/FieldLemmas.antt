-- The field: products are bytes, and the product by a fixed byte is linear.
use Rattle.std.proofs.Common.{◌≡◌, ℕ, zero, suc, ◌+◌, ◌-◌, ◌≤◌, ◌*◌, ◌/◌, ◌%◌, ◌^◌, ◌<◌, refl, arith, bit_xor}
use Rattle.std.proofs.lemmas.Nat.{xor_comm, xor_mod, xor_shr, xor_block, xor_lt}
use Rattle.std.specs.Int.Bits.{xor_assoc, xor_self, xor_zero_l, xor_zero_r}
use Rattle.aes_block.specs.Field.{xtimes, product_low, product, power_of_x}

inner : (b c d : ℕ) → bit_xor b (bit_xor c d) ≡ bit_xor c (bit_xor b d)
inner b c d =
    let e1 = xor_assoc b c d in
    let e2 = xor_assoc c b d in
    let e3 = xor_comm b c in
    cc (e1, e2, e3)

-- (a + b) + (c + d) is (a + c) + (b + d)
pub xor_swap : (a b c d : ℕ) → bit_xor (bit_xor a b) (bit_xor c d) ≡ bit_xor (bit_xor a c) (bit_xor b d)
xor_swap a b c d =
    let e1 = xor_assoc a b (bit_xor c d) in
    let e2 = xor_assoc a c (bit_xor b d) in
    let e3 = inner b c d in
    cc (e1, e2, e3)

-- what is added twice is gone
pub xor_twice : (a b : ℕ) → bit_xor (bit_xor a b) b ≡ a
xor_twice a b =
    let e1 = xor_assoc a b b in
    let e2 = xor_self b in
    let e3 = xor_zero_r a in
    cc (e1, e2, e3)

bit_times_27 : (u v : ℕ) → u < 2 → v < 2 → bit_xor (u * 27) (v * 27) ≡ bit_xor u v * 27
bit_times_27 zero zero hu hv = refl
bit_times_27 zero (suc zero) hu hv = refl
bit_times_27 (suc zero) zero hu hv = refl
bit_times_27 (suc zero) (suc zero) hu hv = refl
bit_times_27 (suc (suc u)) v hu hv = omega arith
bit_times_27 zero (suc (suc v)) hu hv = omega arith
bit_times_27 (suc zero) (suc (suc v)) hu hv = omega arith

times_bit : (u a b : ℕ) → u < 2 → u * bit_xor a b ≡ bit_xor (u * a) (u * b)
times_bit zero a b hu =
    let ea : 0 * a ≡ 0 = omega arith in
    let eb : 0 * b ≡ 0 = omega arith in
    let ec : 0 * bit_xor a b ≡ 0 = omega arith in
    let e0 : bit_xor 0 0 ≡ 0 = refl in
    cc (ea, eb, ec, e0)
times_bit (suc zero) a b hu =
    let ea : 1 * a ≡ a = omega arith in
    let eb : 1 * b ≡ b = omega arith in
    let ec : 1 * bit_xor a b ≡ bit_xor a b = omega arith in
    cc (ea, eb, ec)
times_bit (suc (suc u)) a b hu = omega arith

doubled : (a b : ℕ) → bit_xor a b * 2 ≡ bit_xor (a * 2) (b * 2)
doubled a b =
    let e = xor_block 1 a b 0 0 (omega arith) (omega arith) in
    let ea : a * 2 ^ 1 + 0 ≡ a * 2 = omega arith in
    let eb : b * 2 ^ 1 + 0 ≡ b * 2 = omega arith in
    let ec : bit_xor a b * 2 ^ 1 + 0 ≡ bit_xor a b * 2 = omega arith in
    cc (e, ea, eb, ec)

pub xtimes-xor : (a b : ℕ) → a < 256 → b < 256 → xtimes (bit_xor a b) ≡ bit_xor (xtimes a) (xtimes b)
xtimes-xor a b ha hb =
    let low : bit_xor a b * 2 % 256 ≡ bit_xor (a * 2 % 256) (b * 2 % 256) = rw (doubled a b) (xor_mod (a * 2) (b * 2) 8) in
    let top : bit_xor a b / 128 ≡ bit_xor (a / 128) (b / 128) = xor_shr a b 7 in
    let times = bit_times_27 (a / 128) (b / 128) (omega arith) (omega arith) in
    let high : bit_xor a b / 128 * 27 ≡ bit_xor (a / 128 * 27) (b / 128 * 27) = cc (top, times) in
    rw (low, high) (xor_swap (a * 2 % 256) (b * 2 % 256) (a / 128 * 27) (b / 128 * 27))

pub xtimes_lt : (a : ℕ) → a < 256 → xtimes a < 256
xtimes_lt a ha =
    let h1 : a * 2 % 256 < 256 = omega arith in
    let h2 : a / 128 * 27 < 256 = omega arith in
    xor_lt 8 (a * 2 % 256) (a / 128 * 27) h1 h2

product_low-xor : (n a b c : ℕ) → a < 256 → b < 256
    → product_low n (bit_xor a b) c ≡ bit_xor (product_low n a c) (product_low n b c)
unfolding product_low
product_low-xor zero a b c ha hb = refl
product_low-xor (suc n) a b c ha hb =
    let e1 = xtimes-xor a b ha hb in
    let e2 = product_low-xor n (xtimes a) (xtimes b) (c / 2) (xtimes_lt a ha) (xtimes_lt b hb) in
    let e3 = times_bit (c % 2) a b (omega arith) in
    rw (e1, e2, e3) (xor_swap (c % 2 * a) (c % 2 * b) (product_low n (xtimes a) (c / 2)) (product_low n (xtimes b) (c / 2)))

bit_times_lt : (u a : ℕ) → u < 2 → a < 256 → u * a < 256
bit_times_lt zero a hu ha = omega arith
bit_times_lt (suc zero) a hu ha = omega arith
bit_times_lt (suc (suc u)) a hu ha = omega arith

product_low_lt : (n a c : ℕ) → a < 256 → product_low n a c < 256
unfolding product_low
product_low_lt zero a c ha = omega arith
product_low_lt (suc n) a c ha =
    xor_lt 8 (c % 2 * a) (product_low n (xtimes a) (c / 2)) (bit_times_lt (c % 2) a (omega arith) ha) (product_low_lt n (xtimes a) (c / 2) (xtimes_lt a ha))

-- the product by c is linear
pub product-xor : (a b c : ℕ) → a < 256 → b < 256 → product (bit_xor a b) c ≡ bit_xor (product a c) (product b c)
unfolding product
product-xor a b c ha hb = product_low-xor 8 a b c ha hb

pub product_lt : (a c : ℕ) → a < 256 → product a c < 256
unfolding product
product_lt a c ha = product_low_lt 8 a c ha

pub xor_byte : (a b : ℕ) → a < 256 → b < 256 → bit_xor a b < 256
xor_byte a b ha hb = xor_lt 8 a b ha hb

-- a power of x is a byte
pub power_of_x_lt : (n : ℕ) → power_of_x n < 256
power_of_x_lt zero = omega arith
power_of_x_lt (suc n) = xtimes_lt (power_of_x n) (power_of_x_lt n)

-- one bit of a factor, and the product by those above it
pub product_low_more : (k a b : ℕ) → k < 8 → product_low (8 - k) a b ≡ bit_xor (b % 2 * a) (product_low (8 - (k + 1)) (xtimes a) (b / 2))
unfolding product_low
product_low_more k a b h =
    let e : 8 - k ≡ suc (8 - (k + 1)) = omega arith in
    rw e refl

-- a sum and the product that is left, after a bit that is set
pub product_low_set : (k sum a b : ℕ) → k < 8 → b % 2 ≡ 1 → bit_xor sum (product_low (8 - k) a b) ≡ bit_xor (bit_xor sum a) (product_low (8 - (k + 1)) (xtimes a) (b / 2))
product_low_set k sum a b h set =
    let more = product_low_more k a b h in
    let once : b % 2 * a ≡ a = rw set (omega arith) in
    let assoc = xor_assoc sum a (product_low (8 - (k + 1)) (xtimes a) (b / 2)) in
    cc (more, once, assoc)

-- and after one that is not
pub product_low_clear : (k sum a b : ℕ) → k < 8 → b % 2 ≡ 0 → bit_xor sum (product_low (8 - k) a b) ≡ bit_xor sum (product_low (8 - (k + 1)) (xtimes a) (b / 2))
product_low_clear k sum a b h clear =
    let more = product_low_more k a b h in
    let none : b % 2 * a ≡ 0 = rw clear (omega arith) in
    let zero_l = xor_zero_l (product_low (8 - (k + 1)) (xtimes a) (b / 2)) in
    cc (more, none, zero_l)

-- and after all eight
pub product_low_none : (k sum a b : ℕ) → 8 ≤ k → bit_xor sum (product_low (8 - k) a b) ≡ sum
unfolding product_low
product_low_none k sum a b h =
    let e : 8 - k ≡ 0 = omega arith in
    rw e (xor_zero_r sum)
