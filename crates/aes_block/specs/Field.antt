-- The field of 256 elements (FIPS 197, section 4): bit i of a byte is the coefficient of x^i.
-- Sections are those of FIPS 197 as updated in 2023.
use Rattle.std.specs.Prelude.{ℕ, zero, suc, ◌+◌, ◌*◌, ◌/◌, ◌%◌, ◌^◌, ◌==◌, bit_xor, if◌then◌else◌}
use Rattle.std.specs.Int.{bit_at}

-- 4.2: the product by x, modulo x^8 + x^4 + x^3 + x + 1
abbrev pub xtimes : ℕ → ℕ
xtimes a = bit_xor (a * 2 % 256) (a / 128 * 0x1b)

-- the product of a by the polynomial of the low n bits of b
unfoldable pub product_low : ℕ → ℕ → ℕ → ℕ
product_low zero a b = 0
product_low (suc n) a b = bit_xor (b % 2 * a) (product_low n (xtimes a) (b / 2))

-- 4.2: the product of two bytes
unfoldable pub product : ℕ → ℕ → ℕ
product a b = product_low 8 a b

-- the first of the n numbers from k on whose product with a is 1; 0 if there is none
abbrev pub inverse_from : ℕ → ℕ → ℕ → ℕ
inverse_from zero k a = 0
inverse_from (suc n) k a = if product a k == 1 then k else inverse_from n (k + 1) a

-- 4.4: the multiplicative inverse of a byte; that of 0 is 0
unfoldable pub inverse : ℕ → ℕ
inverse a = inverse_from 255 1 a

-- 4.2: x to the power n
abbrev pub power_of_x : ℕ → ℕ
power_of_x zero = 1
power_of_x (suc n) = xtimes (power_of_x n)

-- the low n bits of the number whose bit i is the parity of `f i`
abbrev pub parities : (ℕ → ℕ) → ℕ → ℕ
parities f zero = 0
parities f (suc n) = parities f n + f n % 2 * 2 ^ n

-- 5.1.1: the affine map of SubBytes: bit i is the sum of five bits of b and bit i of 0x63; indices are modulo 8
unfoldable pub affine : ℕ → ℕ
affine b = parities (λ i. bit_at b i + bit_at b ((i + 4) % 8) + bit_at b ((i + 5) % 8) + bit_at b ((i + 6) % 8) + bit_at b ((i + 7) % 8) + bit_at 0x63 i) 8

-- 5.3.2: the inverse of the affine map: bit i is the sum of three bits of b and bit i of 0x05; indices are modulo 8
unfoldable pub inv_affine : ℕ → ℕ
inv_affine b = parities (λ i. bit_at b ((i + 2) % 8) + bit_at b ((i + 5) % 8) + bit_at b ((i + 7) % 8) + bit_at 0x05 i) 8

-- 5.1.1: the map of SubBytes
unfoldable pub sub_byte : ℕ → ℕ
sub_byte b = affine (inverse b)

-- 5.3.2: the map of InvSubBytes
unfoldable pub inv_sub_byte : ℕ → ℕ
inv_sub_byte b = inverse (inv_affine b)
