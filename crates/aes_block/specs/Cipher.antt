-- The cipher (FIPS 197, 5.1) and its inverse (5.3).
use Rattle.std.specs.Prelude.{ℕ, zero, suc, ◌-◌, List}
use Rattle.aes_block.specs.Rounds.{sub_bytes, shift_rows, mix_columns, add_round_key, inv_shift_rows, inv_sub_bytes, inv_mix_columns}
use Rattle.aes_block.specs.KeyExpansion.{rounds, key_schedule, round_key}

-- 5.1: the state after the first AddRoundKey and n rounds
abbrev pub state_after : List ℕ → List ℕ → ℕ → List ℕ
state_after w block zero = add_round_key block (round_key w 0)
state_after w block (suc n) = add_round_key (mix_columns (shift_rows (sub_bytes (state_after w block n)))) (round_key w (suc n))

-- 5.1: CIPHER with the key schedule w and nr rounds; the last has no MixColumns
unfoldable pub cipher_with : ℕ → List ℕ → List ℕ → List ℕ
cipher_with nr w block = add_round_key (shift_rows (sub_bytes (state_after w block (nr - 1)))) (round_key w nr)

-- 5.1: the encryption of a block with a key of 16 or 32 bytes
unfoldable pub cipher : List ℕ → List ℕ → List ℕ
cipher key block = cipher_with (rounds key) (key_schedule key) block

-- 5.3: rounds n to 1 of INVCIPHER on the state s, followed by its last round, which has no InvMixColumns
abbrev pub inverse_rounds : List ℕ → ℕ → List ℕ → List ℕ
inverse_rounds w zero s = add_round_key (inv_sub_bytes (inv_shift_rows s)) (round_key w 0)
inverse_rounds w (suc n) s = inverse_rounds w n (inv_mix_columns (add_round_key (inv_sub_bytes (inv_shift_rows s)) (round_key w (suc n))))

-- 5.3: INVCIPHER with the key schedule w and nr rounds
unfoldable pub inverse_cipher_with : ℕ → List ℕ → List ℕ → List ℕ
inverse_cipher_with nr w block = inverse_rounds w (nr - 1) (add_round_key block (round_key w nr))

-- 5.3: the decryption of a block with a key of 16 or 32 bytes
unfoldable pub inverse_cipher : List ℕ → List ℕ → List ℕ
inverse_cipher key block = inverse_cipher_with (rounds key) (key_schedule key) block
