-- The arguments of a line in their printed form.
use Rattle.std.specs.Prelude.{ℕ, Bool, if◌then◌else◌, List, [], ◌∷◌, length, decimal, ◌*◌, replicate, codes}
use Rattle.dm_table.specs.Words.{Word}
use Rattle.hex.specs.Hex.{encode_lower}
use Rattle.tree_shape.specs.declared.algorithm.Algorithm.TheVariants.{Sha256}
use Rattle.tree_shape.specs.Algorithms.{algorithm_name}
use Rattle.dm_table.specs.declared.crypt.Crypt.{Crypt}
use Rattle.dm_table.specs.declared.verity.Verity.{Verity}
use Rattle.dm_table.specs.Crypt.{cipher_name}
use Rattle.dm_table.specs.Verity.{verity_options}

-- the options after their number; nothing if there are no options
abbrev pub options_words : List Word → List Word
options_words [] = []
options_words (word ∷ more) = decimal (length (word ∷ more)) ∷ word ∷ more

-- a key in hexadecimal, or as many zeros if it isn't shown
abbrev pub key_word : Bool → List ℕ → Word
key_word show key = if show then encode_lower key else replicate (2 * length key) 48

-- the arguments of a `crypt` line
unfoldable pub crypt_words : Bool → Crypt → List Word
crypt_words show crypt =
    cipher_name ∷ key_word show crypt.key ∷ decimal crypt.iv_offset ∷ crypt.base.device ∷ decimal crypt.base.offset ∷ options_words crypt.options

-- a salt in hexadecimal, or `-` if it is empty
abbrev pub salt_word : List ℕ → Word
salt_word [] = codes "-"
salt_word (byte ∷ more) = encode_lower (byte ∷ more)

-- the arguments of a `verity` line
unfoldable pub verity_words : Verity → List Word
verity_words verity =
    codes "1" ∷ verity.data ∷ verity.hash ∷ decimal verity.data_block ∷ decimal verity.hash_block ∷ decimal verity.blocks ∷ decimal verity.start
    ∷ algorithm_name Sha256 ∷ encode_lower verity.root ∷ salt_word verity.salt ∷ options_words (verity_options verity)
