-- The options of a `verity` line that have a value, as documented on the kernel's dm-verity page.
use Rattle.std.specs.Prelude.{false, List, [], ◌∷◌, codes}
use Rattle.dm_table.specs.Words.{Word}
use Rattle.dm_table.specs.Reading.{Read}
use Rattle.dm_table.specs.Options.{value_of}

-- the options of parity
abbrev pub use_fec_from_device : Word
use_fec_from_device = codes "use_fec_from_device"

abbrev pub fec_roots : Word
fec_roots = codes "fec_roots"

abbrev pub fec_blocks : Word
fec_blocks = codes "fec_blocks"

abbrev pub fec_start : Word
fec_start = codes "fec_start"

abbrev pub parity_options : List Word
parity_options = use_fec_from_device ∷ fec_roots ∷ fec_blocks ∷ fec_start ∷ []

-- the key that holds the signature of the root hash
abbrev pub root_hash_sig_key_desc : Word
root_hash_sig_key_desc = codes "root_hash_sig_key_desc"

abbrev pub valued_options : List Word
valued_options = root_hash_sig_key_desc ∷ parity_options

-- the value of an option that has one
abbrev pub option_value : Word → List Word → Read Word
option_value name words = value_of valued_options name false words
