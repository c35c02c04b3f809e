-- Sequences of blocks of 16 bytes.
use Rattle.std.specs.Prelude.{ℕ, zero, suc, ◌*◌, ◌/◌, List, [], ◌++◌, length, take, drop}
use Rattle.aes_block.specs.Cipher.{cipher, inverse_cipher}

-- block j of a list of bytes
abbrev pub block : List ℕ → ℕ → List ℕ
block bytes j = take 16 (drop (16 * j) bytes)

-- the first m blocks of a sequence, concatenated
unfoldable pub joined : (ℕ → List ℕ) → ℕ → List ℕ
joined blocks zero = []
joined blocks (suc m) = joined blocks m ++ blocks m

-- each 16-byte block encrypted
unfoldable pub cipher_blocks : List ℕ → List ℕ → List ℕ
cipher_blocks key bytes = joined (λ j. cipher key (block bytes j)) (length bytes / 16)

-- each 16-byte block decrypted
unfoldable pub inverse_cipher_blocks : List ℕ → List ℕ → List ℕ
inverse_cipher_blocks key bytes = joined (λ j. inverse_cipher key (block bytes j)) (length bytes / 16)
