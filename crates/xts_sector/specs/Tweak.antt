-- The tweaks of a data unit (IEEE 1619-2007, 5.1 and 5.2).
use Rattle.std.specs.Prelude.{ℕ, zero, suc, ◌-◌, ◌*◌, ◌/◌, ◌%◌, ◌^◌, ◌==◌, List, map, slice_index, bit_xor, if◌then◌else◌}
use Rattle.std.specs.Int.{to_le_bytes, w128}
use Rattle.std.specs.List.{range_with_len}

-- 5.1: the number of a data unit, as 16 bytes in little-endian order
unfoldable pub unit_number : ℕ → List ℕ
unit_number n = map (λ k. n / 256 ^ k % 256) (range_with_len 0 16)

-- a number as a block, in little-endian order
unfoldable pub number_block : ℕ → List ℕ
number_block n = to_le_bytes w128 n

-- 5.2: byte k of the product of a block by α
abbrev pub product_byte : List ℕ → ℕ → ℕ
product_byte a k = bit_xor (2 * (slice_index a k % 128)) (if k == 0 then 135 * (slice_index a 15 / 128) else slice_index a (k - 1) / 128)

-- 5.2: the product of a block by α, the polynomial x
unfoldable pub times_alpha : List ℕ → List ℕ
times_alpha a = map (product_byte a) (range_with_len 0 16)

-- the product of a block by α^j
abbrev pub times_alpha_power : ℕ → List ℕ → List ℕ
times_alpha_power zero a = a
times_alpha_power (suc j) a = times_alpha (times_alpha_power j a)
