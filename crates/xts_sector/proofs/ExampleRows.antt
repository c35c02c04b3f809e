-- Worked values of IEEE 1619, computed by the definitions.
use Rattle.std.proofs.Common.{◌≡◌, [], ◌∷◌, ◌++◌, replicate, refl}
use Rattle.aes_block.specs.Field.{product_low, product, inverse, affine, inv_affine, sub_byte, inv_sub_byte}
use Rattle.aes_block.specs.State.{state_of}
use Rattle.aes_block.specs.Rounds.{sub_bytes, shift_rows, mix_columns, add_round_key, inv_shift_rows, inv_sub_bytes, inv_mix_columns}
use Rattle.aes_block.specs.KeyExpansion.{key_term, with_word, key_schedule}
use Rattle.aes_block.specs.Cipher.{cipher_with, cipher, inverse_cipher_with, inverse_cipher}
use Rattle.aes_block.specs.Blocks.{joined}
use Rattle.xts_sector.specs.Blocks.{add_blocks}
use Rattle.xts_sector.specs.Tweak.{unit_number, times_alpha}
use Rattle.xts_sector.specs.Xts.{tweak, encrypted_block, decrypted_block, encrypted_blocks, decrypted_blocks, encrypted, decrypted}

-- x^127 times x is x^7 + x^2 + x + 1
pub times_alpha_example : times_alpha (0 ∷ 0 ∷ 0 ∷ 0 ∷ 0 ∷ 0 ∷ 0 ∷ 0 ∷ 0 ∷ 0 ∷ 0 ∷ 0 ∷ 0 ∷ 0 ∷ 0 ∷ 128 ∷ []) ≡ 135 ∷ 0 ∷ 0 ∷ 0 ∷ 0 ∷ 0 ∷ 0 ∷ 0 ∷ 0 ∷ 0 ∷ 0 ∷ 0 ∷ 0 ∷ 0 ∷ 0 ∷ 0 ∷ []
unfolding times_alpha
times_alpha_example = refl

-- the bit at the top of a byte moves to the next one
pub times_alpha_example_carry : times_alpha (128 ∷ 0 ∷ 0 ∷ 0 ∷ 0 ∷ 0 ∷ 0 ∷ 0 ∷ 0 ∷ 0 ∷ 0 ∷ 0 ∷ 0 ∷ 0 ∷ 0 ∷ 0 ∷ []) ≡ 0 ∷ 1 ∷ 0 ∷ 0 ∷ 0 ∷ 0 ∷ 0 ∷ 0 ∷ 0 ∷ 0 ∷ 0 ∷ 0 ∷ 0 ∷ 0 ∷ 0 ∷ 0 ∷ []
unfolding times_alpha
times_alpha_example_carry = refl

-- annex B, vector 1: two blocks
pub encrypted_example : encrypted (replicate 32 0) 0 (replicate 32 0) ≡ 145 ∷ 124 ∷ 246 ∷ 158 ∷ 189 ∷ 104 ∷ 178 ∷ 236 ∷ 155 ∷ 159 ∷ 233 ∷ 163 ∷ 234 ∷ 221 ∷ 166 ∷ 146 ∷ 205 ∷ 67 ∷ 210 ∷ 245 ∷ 149 ∷ 152 ∷ 237 ∷ 133 ∷ 140 ∷ 2 ∷ 194 ∷ 101 ∷ 47 ∷ 191 ∷ 146 ∷ 46 ∷ []
unfolding product product_low state_of inverse affine sub_byte sub_bytes shift_rows mix_columns add_round_key key_term with_word key_schedule cipher_with cipher unit_number times_alpha joined add_blocks tweak encrypted_block encrypted_blocks encrypted
encrypted_example = refl

-- annex B, vector 1, decrypted
pub decrypted_example : decrypted (replicate 32 0) 0 (145 ∷ 124 ∷ 246 ∷ 158 ∷ 189 ∷ 104 ∷ 178 ∷ 236 ∷ 155 ∷ 159 ∷ 233 ∷ 163 ∷ 234 ∷ 221 ∷ 166 ∷ 146 ∷ 205 ∷ 67 ∷ 210 ∷ 245 ∷ 149 ∷ 152 ∷ 237 ∷ 133 ∷ 140 ∷ 2 ∷ 194 ∷ 101 ∷ 47 ∷ 191 ∷ 146 ∷ 46 ∷ []) ≡ replicate 32 0
unfolding product product_low state_of inverse affine inv_affine sub_byte inv_sub_byte inv_sub_bytes inv_shift_rows inv_mix_columns sub_bytes shift_rows mix_columns add_round_key key_term with_word key_schedule cipher_with cipher inverse_cipher_with inverse_cipher unit_number times_alpha joined add_blocks tweak decrypted_block decrypted_blocks decrypted
decrypted_example = refl

-- annex B, vector 2: a unit number of five bytes
pub encrypted_example_number : encrypted (replicate 16 0x11 ++ replicate 16 0x22) 0x3333333333 (replicate 32 0x44) ≡ 196 ∷ 84 ∷ 24 ∷ 94 ∷ 106 ∷ 22 ∷ 147 ∷ 110 ∷ 57 ∷ 51 ∷ 64 ∷ 56 ∷ 172 ∷ 239 ∷ 131 ∷ 139 ∷ 251 ∷ 24 ∷ 111 ∷ 255 ∷ 116 ∷ 128 ∷ 173 ∷ 196 ∷ 40 ∷ 147 ∷ 130 ∷ 236 ∷ 214 ∷ 211 ∷ 148 ∷ 240 ∷ []
unfolding product product_low state_of inverse affine sub_byte sub_bytes shift_rows mix_columns add_round_key key_term with_word key_schedule cipher_with cipher unit_number times_alpha joined add_blocks tweak encrypted_block encrypted_blocks encrypted
encrypted_example_number = refl

-- annex B, vector 2, decrypted
pub decrypted_example_number : decrypted (replicate 16 0x11 ++ replicate 16 0x22) 0x3333333333 (196 ∷ 84 ∷ 24 ∷ 94 ∷ 106 ∷ 22 ∷ 147 ∷ 110 ∷ 57 ∷ 51 ∷ 64 ∷ 56 ∷ 172 ∷ 239 ∷ 131 ∷ 139 ∷ 251 ∷ 24 ∷ 111 ∷ 255 ∷ 116 ∷ 128 ∷ 173 ∷ 196 ∷ 40 ∷ 147 ∷ 130 ∷ 236 ∷ 214 ∷ 211 ∷ 148 ∷ 240 ∷ []) ≡ replicate 32 0x44
unfolding product product_low state_of inverse affine inv_affine sub_byte inv_sub_byte inv_sub_bytes inv_shift_rows inv_mix_columns sub_bytes shift_rows mix_columns add_round_key key_term with_word key_schedule cipher_with cipher inverse_cipher_with inverse_cipher unit_number times_alpha joined add_blocks tweak decrypted_block decrypted_blocks decrypted
decrypted_example_number = refl
