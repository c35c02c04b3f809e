-- Worked values of the standard, computed by the definitions (FIPS 197, 4.2, 5.1.1 and the appendices A and C).
use Rattle.std.proofs.Common.{◌≡◌, [], ◌∷◌, refl}
use Rattle.aes_block.specs.Field.{product_low, product, inverse, affine, inv_affine, sub_byte, inv_sub_byte}
use Rattle.aes_block.specs.State.{state_of}
use Rattle.aes_block.specs.Rounds.{sub_bytes, shift_rows, mix_columns, add_round_key, inv_shift_rows, inv_sub_bytes, inv_mix_columns}
use Rattle.aes_block.specs.KeyExpansion.{word, key_term, with_word, key_schedule}
use Rattle.aes_block.specs.Cipher.{cipher_with, cipher, inverse_cipher_with, inverse_cipher}

-- 4.2: the standard's worked product
pub product_example : product 0x57 0x13 ≡ 0xfe
unfolding product product_low
product_example = refl

-- 5.1.1: the standard's worked byte
pub sub_byte_example : sub_byte 0x53 ≡ 0xed
unfolding product product_low inverse affine sub_byte
sub_byte_example = refl

-- appendix C.1: a key of 128 bits
pub cipher_example_128 : cipher (0 ∷ 1 ∷ 2 ∷ 3 ∷ 4 ∷ 5 ∷ 6 ∷ 7 ∷ 8 ∷ 9 ∷ 10 ∷ 11 ∷ 12 ∷ 13 ∷ 14 ∷ 15 ∷ []) (0 ∷ 17 ∷ 34 ∷ 51 ∷ 68 ∷ 85 ∷ 102 ∷ 119 ∷ 136 ∷ 153 ∷ 170 ∷ 187 ∷ 204 ∷ 221 ∷ 238 ∷ 255 ∷ []) ≡ 105 ∷ 196 ∷ 224 ∷ 216 ∷ 106 ∷ 123 ∷ 4 ∷ 48 ∷ 216 ∷ 205 ∷ 183 ∷ 128 ∷ 112 ∷ 180 ∷ 197 ∷ 90 ∷ []
unfolding product product_low state_of inverse affine sub_byte sub_bytes shift_rows mix_columns add_round_key key_term with_word key_schedule cipher_with cipher
cipher_example_128 = refl

-- appendix C.3: a key of 256 bits
pub cipher_example_256 : cipher (0 ∷ 1 ∷ 2 ∷ 3 ∷ 4 ∷ 5 ∷ 6 ∷ 7 ∷ 8 ∷ 9 ∷ 10 ∷ 11 ∷ 12 ∷ 13 ∷ 14 ∷ 15 ∷ 16 ∷ 17 ∷ 18 ∷ 19 ∷ 20 ∷ 21 ∷ 22 ∷ 23 ∷ 24 ∷ 25 ∷ 26 ∷ 27 ∷ 28 ∷ 29 ∷ 30 ∷ 31 ∷ []) (0 ∷ 17 ∷ 34 ∷ 51 ∷ 68 ∷ 85 ∷ 102 ∷ 119 ∷ 136 ∷ 153 ∷ 170 ∷ 187 ∷ 204 ∷ 221 ∷ 238 ∷ 255 ∷ []) ≡ 142 ∷ 162 ∷ 183 ∷ 202 ∷ 81 ∷ 103 ∷ 69 ∷ 191 ∷ 234 ∷ 252 ∷ 73 ∷ 144 ∷ 75 ∷ 73 ∷ 96 ∷ 137 ∷ []
unfolding product product_low state_of inverse affine sub_byte sub_bytes shift_rows mix_columns add_round_key key_term with_word key_schedule cipher_with cipher
cipher_example_256 = refl

-- appendix C.1, deciphered
pub inverse_cipher_example_128 : inverse_cipher (0 ∷ 1 ∷ 2 ∷ 3 ∷ 4 ∷ 5 ∷ 6 ∷ 7 ∷ 8 ∷ 9 ∷ 10 ∷ 11 ∷ 12 ∷ 13 ∷ 14 ∷ 15 ∷ []) (105 ∷ 196 ∷ 224 ∷ 216 ∷ 106 ∷ 123 ∷ 4 ∷ 48 ∷ 216 ∷ 205 ∷ 183 ∷ 128 ∷ 112 ∷ 180 ∷ 197 ∷ 90 ∷ []) ≡ 0 ∷ 17 ∷ 34 ∷ 51 ∷ 68 ∷ 85 ∷ 102 ∷ 119 ∷ 136 ∷ 153 ∷ 170 ∷ 187 ∷ 204 ∷ 221 ∷ 238 ∷ 255 ∷ []
unfolding product product_low state_of inverse affine inv_affine sub_byte inv_sub_byte inv_sub_bytes inv_shift_rows inv_mix_columns add_round_key key_term with_word key_schedule inverse_cipher_with inverse_cipher
inverse_cipher_example_128 = refl

-- appendix C.3, deciphered
pub inverse_cipher_example_256 : inverse_cipher (0 ∷ 1 ∷ 2 ∷ 3 ∷ 4 ∷ 5 ∷ 6 ∷ 7 ∷ 8 ∷ 9 ∷ 10 ∷ 11 ∷ 12 ∷ 13 ∷ 14 ∷ 15 ∷ 16 ∷ 17 ∷ 18 ∷ 19 ∷ 20 ∷ 21 ∷ 22 ∷ 23 ∷ 24 ∷ 25 ∷ 26 ∷ 27 ∷ 28 ∷ 29 ∷ 30 ∷ 31 ∷ []) (142 ∷ 162 ∷ 183 ∷ 202 ∷ 81 ∷ 103 ∷ 69 ∷ 191 ∷ 234 ∷ 252 ∷ 73 ∷ 144 ∷ 75 ∷ 73 ∷ 96 ∷ 137 ∷ []) ≡ 0 ∷ 17 ∷ 34 ∷ 51 ∷ 68 ∷ 85 ∷ 102 ∷ 119 ∷ 136 ∷ 153 ∷ 170 ∷ 187 ∷ 204 ∷ 221 ∷ 238 ∷ 255 ∷ []
unfolding product product_low state_of inverse affine inv_affine sub_byte inv_sub_byte inv_sub_bytes inv_shift_rows inv_mix_columns add_round_key key_term with_word key_schedule inverse_cipher_with inverse_cipher
inverse_cipher_example_256 = refl

-- appendix A.1: the last word of a key of 128 bits
pub key_schedule_example_128 : word (key_schedule (43 ∷ 126 ∷ 21 ∷ 22 ∷ 40 ∷ 174 ∷ 210 ∷ 166 ∷ 171 ∷ 247 ∷ 21 ∷ 136 ∷ 9 ∷ 207 ∷ 79 ∷ 60 ∷ [])) 43 ≡ 182 ∷ 99 ∷ 12 ∷ 166 ∷ []
unfolding product product_low inverse affine sub_byte key_term with_word key_schedule
key_schedule_example_128 = refl

-- appendix A.3: the last word of a key of 256 bits
pub key_schedule_example_256 : word (key_schedule (96 ∷ 61 ∷ 235 ∷ 16 ∷ 21 ∷ 202 ∷ 113 ∷ 190 ∷ 43 ∷ 115 ∷ 174 ∷ 240 ∷ 133 ∷ 125 ∷ 119 ∷ 129 ∷ 31 ∷ 53 ∷ 44 ∷ 7 ∷ 59 ∷ 97 ∷ 8 ∷ 215 ∷ 45 ∷ 152 ∷ 16 ∷ 163 ∷ 9 ∷ 20 ∷ 223 ∷ 244 ∷ [])) 59 ≡ 112 ∷ 108 ∷ 99 ∷ 30 ∷ []
unfolding product product_low inverse affine sub_byte key_term with_word key_schedule
key_schedule_example_256 = refl
