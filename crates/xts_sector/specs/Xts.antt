-- XTS-AES on data units of whole blocks (IEEE 1619-2007, 5.3 and 5.4).
use Rattle.std.specs.Prelude.{◌≡◌, ℕ, ◌/◌, ◌⊎◌, List, length, take, drop}
use Rattle.aes_block.specs.Cipher.{cipher, inverse_cipher}
use Rattle.aes_block.specs.Blocks.{block, joined}
use Rattle.xts_sector.specs.Blocks.{add_blocks}
use Rattle.xts_sector.specs.Tweak.{unit_number, times_alpha_power}

-- the length of a key in bytes: that of two AES keys
abbrev pub IsXtsKeyLength : ℕ → Type 0
IsXtsKeyLength n = (n ≡ 32) ⊎ (n ≡ 64)

-- Key1, for the data
abbrev pub data_key : List ℕ → List ℕ
data_key key = take (length key / 2) key

-- Key2, for the tweak
abbrev pub tweak_key : List ℕ → List ℕ
tweak_key key = drop (length key / 2) key

-- 5.3.1: the tweak T of block j of unit n
unfoldable pub tweak : List ℕ → ℕ → ℕ → List ℕ
tweak key n j = times_alpha_power j (cipher (tweak_key key) (unit_number n))

-- 5.3.1: a block encrypted with Key1 and the tweak t
unfoldable pub encrypted_block : List ℕ → List ℕ → List ℕ → List ℕ
encrypted_block key1 t p = add_blocks (cipher key1 (add_blocks p t)) t

-- 5.4.1: a block decrypted with Key1 and the tweak t
unfoldable pub decrypted_block : List ℕ → List ℕ → List ℕ → List ℕ
decrypted_block key1 t c = add_blocks (inverse_cipher key1 (add_blocks c t)) t

-- 5.3.2: a unit of whole blocks encrypted with Key1, block j with the tweak `tweaks j`
unfoldable pub encrypted_blocks : List ℕ → (ℕ → List ℕ) → List ℕ → List ℕ
encrypted_blocks key1 tweaks unit = joined (λ j. encrypted_block key1 (tweaks j) (block unit j)) (length unit / 16)

-- 5.4.2: a unit of whole blocks decrypted with Key1, block j with the tweak `tweaks j`
unfoldable pub decrypted_blocks : List ℕ → (ℕ → List ℕ) → List ℕ → List ℕ
decrypted_blocks key1 tweaks unit = joined (λ j. decrypted_block key1 (tweaks j) (block unit j)) (length unit / 16)

-- 5.3.2: unit n, of whole blocks, encrypted
unfoldable pub encrypted : List ℕ → ℕ → List ℕ → List ℕ
encrypted key n unit = encrypted_blocks (data_key key) (tweak key n) unit

-- 5.4.2: unit n, of whole blocks, decrypted
unfoldable pub decrypted : List ℕ → ℕ → List ℕ → List ℕ
decrypted key n unit = decrypted_blocks (data_key key) (tweak key n) unit
