-- Sixteen blocks as eight planes of 32 lanes: plane k holds bit k of each byte. Byte i of block j is in lane 16 * (j
-- % 2) + i, in bit j / 2.
use Rattle.std.specs.Prelude.{◌≡◌, ℕ, zero, suc, ◌+◌, ◌-◌, ◌*◌, ◌/◌, ◌%◌, ◌^◌, ◌<◌, List, [], length, slice_index, slice_index_or, bit_xor, bit_and}
use Rattle.std.specs.Int.{bit_at}
use Rattle.aes_block.specs.Field.{parities}
use Rattle.aes_block.specs.Rounds.{shift_rows}
use Rattle.aes_block.specs.State.{state_of}

abbrev pub plane : List (List ℕ) → ℕ → List ℕ
plane planes k = slice_index_or planes k []

-- the byte in lane p of plane k
abbrev pub lane : List (List ℕ) → ℕ → ℕ → ℕ
lane planes k p = slice_index (plane planes k) p

-- each of eight planes has 32 lanes
abbrev pub ArePlanes : List (List ℕ) → Type 0
ArePlanes planes = (k : ℕ) → k < 8 → length (plane planes k) ≡ 32

-- a vector of 32 bytes
pub record IsVector (x : List ℕ) : Type 0 where
  pub len : length x ≡ 32
  pub bytes : (p : ℕ) → p < 32 → slice_index x p < 256

-- the byte with its bits in bit b of lane p
unfoldable pub byte_of : List (List ℕ) → ℕ → ℕ → ℕ
byte_of planes p b = parities (λ k. bit_at (lane planes k p) b) 8

-- block j of the planes
unfoldable pub lane_block : List (List ℕ) → ℕ → List ℕ
lane_block planes j = state_of (λ r c. byte_of planes (16 * (j % 2) + (4 * c + r)) (j / 2))

-- a block after n ShiftRows (FIPS 197, 5.1.2)
unfoldable pub shifted : ℕ → List ℕ → List ℕ
shifted zero s = s
shifted (suc n) s = shift_rows (shifted n s)

-- ---- conversion between vectors of bytes and planes

-- where the mask has ones: the bits in which b differs from a shifted right
abbrev pub differing_bits : ℕ → ℕ → ℕ → ℕ → ℕ
differing_bits by mask a b = bit_and (bit_xor (a / 2 ^ by) b) mask

abbrev pub first_swapped : ℕ → ℕ → ℕ → ℕ → ℕ
first_swapped by mask a b = bit_xor a (differing_bits by mask a b * 2 ^ by % 2 ^ 8)

abbrev pub second_swapped : ℕ → ℕ → ℕ → ℕ → ℕ
second_swapped by mask a b = bit_xor b (differing_bits by mask a b)

-- m with its bit of weight s replaced by that of n
abbrev pub exchanged : ℕ → ℕ → ℕ → ℕ
exchanged s m n = m - m / s % 2 * s + n / s % 2 * s

-- in each lane, bit i of vector k is the old bit whose indices have their bits of weight s exchanged
pub record AreExchanged (s : ℕ) (old new : List (List ℕ)) : Type 0 where
  pub vectors : (k : ℕ) → k < 8 → IsVector (plane new k)
  pub bits : (p k i : ℕ) → p < 32 → k < 8 → i < 8 → bit_at (lane new k p) i ≡ bit_at (lane old (exchanged s k i) p) (exchanged s i k)

-- the bits of each lane are transposed: bit i of vector k is the old bit k of vector i
pub record AreTurned (old new : List (List ℕ)) : Type 0 where
  pub vectors : (k : ℕ) → k < 8 → IsVector (plane new k)
  pub bits : (p k i : ℕ) → p < 32 → k < 8 → i < 8 → bit_at (lane new k p) i ≡ bit_at (lane old i p) k

-- ---- sums and permutations of lanes

-- each plane is the sum of two planes
pub record AreSums (a b sums : List (List ℕ)) : Type 0 where
  pub planes : ArePlanes sums
  pub lanes : (k p : ℕ) → k < 8 → p < 32 → lane sums k p ≡ bit_xor (lane a k p) (lane b k p)

-- in each plane, lane p holds what lane `from p` held
pub record AreMoved (from : ℕ → ℕ) (old new : List (List ℕ)) : Type 0 where
  pub planes : ArePlanes new
  pub lanes : (k p : ℕ) → k < 8 → p < 32 → lane new k p ≡ lane old k (from p)

-- the lane of the byte n rows below in the same column, in a block stored with s ShiftRows pending
abbrev pub lane_below : ℕ → ℕ → ℕ → ℕ
lane_below n s p = 16 * (p / 16) + (4 * ((p / 4 + s * n) % 4) + (p + n) % 4)

-- the lane that ShiftRows moves to lane p
abbrev pub lane_shifted : ℕ → ℕ
lane_shifted p = 16 * (p / 16) + (p + 4 * (p % 4)) % 16

-- the lane that InvShiftRows moves to lane p
abbrev pub lane_unshifted : ℕ → ℕ
lane_unshifted p = 16 * (p / 16) + (p + 12 * (p % 4)) % 16
