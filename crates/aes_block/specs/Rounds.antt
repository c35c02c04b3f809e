-- The transformations of a round (FIPS 197, 5.1.1 to 5.1.4) and their inverses (5.3.1 to 5.3.4).
use Rattle.std.specs.Prelude.{ℕ, ◌+◌, ◌-◌, ◌%◌, List, bit_xor}
use Rattle.aes_block.specs.Field.{product, sub_byte, inv_sub_byte}
use Rattle.aes_block.specs.State.{byte_at, state_of}

-- 5.1.1: the map of SubBytes applied to each byte
unfoldable pub sub_bytes : List ℕ → List ℕ
sub_bytes s = state_of (λ r c. sub_byte (byte_at s r c))

-- 5.1.2: row r is rotated left by r
unfoldable pub shift_rows : List ℕ → List ℕ
shift_rows s = state_of (λ r c. byte_at s r ((c + r) % 4))

-- 5.1.3: a byte of a mixed column, where a is the column's byte in the same row and b, c, d are those in the next
-- rows
abbrev pub mixed_byte : ℕ → ℕ → ℕ → ℕ → ℕ
mixed_byte a b c d = bit_xor (bit_xor (product a 2) (product b 3)) (bit_xor c d)

-- 5.1.3: MixColumns
unfoldable pub mix_columns : List ℕ → List ℕ
mix_columns s = state_of (λ r c. mixed_byte (byte_at s r c) (byte_at s ((r + 1) % 4) c) (byte_at s ((r + 2) % 4) c) (byte_at s ((r + 3) % 4) c))

-- 5.1.4: the round key is added; this is its own inverse (5.3.4)
unfoldable pub add_round_key : List ℕ → List ℕ → List ℕ
add_round_key s k = state_of (λ r c. bit_xor (byte_at s r c) (byte_at k r c))

-- 5.3.1: row r is rotated right by r
unfoldable pub inv_shift_rows : List ℕ → List ℕ
inv_shift_rows s = state_of (λ r c. byte_at s r ((c + 4 - r) % 4))

-- 5.3.2: the map of InvSubBytes applied to each byte
unfoldable pub inv_sub_bytes : List ℕ → List ℕ
inv_sub_bytes s = state_of (λ r c. inv_sub_byte (byte_at s r c))

-- 5.3.3: a byte after InvMixColumns, where a is the column's byte in the same row and b, c, d are those in the next
-- rows
abbrev pub unmixed_byte : ℕ → ℕ → ℕ → ℕ → ℕ
unmixed_byte a b c d = bit_xor (bit_xor (product a 14) (product b 11)) (bit_xor (product c 13) (product d 9))

-- 5.3.3: InvMixColumns
unfoldable pub inv_mix_columns : List ℕ → List ℕ
inv_mix_columns s = state_of (λ r c. unmixed_byte (byte_at s r c) (byte_at s ((r + 1) % 4) c) (byte_at s ((r + 2) % 4) c) (byte_at s ((r + 3) % 4) c))

-- 5.1: a round
abbrev pub round : List ℕ → List ℕ → List ℕ
round s k = add_round_key (mix_columns (shift_rows (sub_bytes s))) k

-- 5.1: the last round, which has no MixColumns
abbrev pub last_round : List ℕ → List ℕ → List ℕ
last_round s k = add_round_key (shift_rows (sub_bytes s)) k

-- 5.3: a round of the inverse cipher
abbrev pub inverse_round : List ℕ → List ℕ → List ℕ
inverse_round s k = inv_mix_columns (add_round_key (inv_sub_bytes (inv_shift_rows s)) k)

-- 5.3: the last round of the inverse cipher, which has no InvMixColumns
abbrev pub last_inverse_round : List ℕ → List ℕ → List ℕ
last_inverse_round s k = add_round_key (inv_sub_bytes (inv_shift_rows s)) k

-- 5.3.5: a round of the equivalent inverse cipher, with a round key after InvMixColumns
abbrev pub unmixed_round : List ℕ → List ℕ → List ℕ
unmixed_round s k = add_round_key (inv_mix_columns (inv_sub_bytes (inv_shift_rows s))) k
