-- The key that holds the signature of a `verity` line's root hash, as documented on the kernel's dm-verity page. It changes no
-- byte that is read.
use Rattle.std.specs.Prelude.{Bool, if◌then◌else◌, List, [], ◌∷◌, Option, Some, None, Ok, Err}
use Rattle.dm_table.specs.declared.fault.TextKind.TheVariants as kinds
use Rattle.dm_table.specs.Words.{Word}
use Rattle.dm_table.specs.Names.{is_leaf_byte, is_name_of, most_name}
use Rattle.dm_table.specs.Reading.{Read, ◌>>=◌}
use Rattle.dm_table.specs.Options.{is_one_of}
use Rattle.dm_table.specs.ValuedOptions.{option_value, root_hash_sig_key_desc}

-- the description by which the kernel looks up the key: 1 to 255 printing characters other than the comma and the semicolon
abbrev pub is_key_description : Word → Bool
is_key_description word = is_name_of most_name is_leaf_byte word

-- `root_hash_sig_key_desc <description>` among other options
unfoldable pub description_at : List Word → Read Word
description_at words = do
  word ← option_value root_hash_sig_key_desc words
  if is_key_description word then Ok word else Err kinds.Option

-- the key description of a line with these options, from its options and their values
unfoldable pub signature_key_at : List Word → List Word → Read (Option Word)
signature_key_at options words =
    if is_one_of root_hash_sig_key_desc options then (description_at words >>= (λ key. Ok (Some key))) else Ok None

-- the option and its value
abbrev pub signature_words : Option Word → List Word
signature_words None = []
signature_words (Some key) = root_hash_sig_key_desc ∷ key ∷ []
