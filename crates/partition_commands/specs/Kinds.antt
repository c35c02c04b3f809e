-- The types of the Discoverable Partitions Specification, by their names in systemd.
use Rattle.std.specs.Prelude.{ℕ, Bool, List, codes, find, is_some}
use Rattle.std.specs.Option.{option_map_or}
use Rattle.std.specs.Str.{bytes_eq}
use Rattle.uuid.specs.Text.{hyphenated_text, lower}
use Rattle.partition_commands.specs.declared.kinds.TheConstants.{COMMON_TYPES}
use Rattle.partition_commands.specs.declared.root_types.TheConstants.{ROOT_TYPES}
use Rattle.partition_commands.specs.declared.signature_types.TheConstants.{SIGNATURE_TYPES}
use Rattle.partition_commands.specs.declared.usr_types.TheConstants.{USR_TYPES}

-- the name of the type with that UUID among these, or else that other name; `uuid` and `name` are those of a row
unfoldable pub name_in : {A : Type 0} → List A → (A → List ℕ) → (A → List ℕ) → List ℕ → List ℕ → List ℕ
name_in types uuid name text other = option_map_or name (find (λ row. bytes_eq (uuid row) text) types) other

-- of the types that no architecture has of its own
unfoldable pub common_name : List ℕ → List ℕ
common_name text = name_in COMMON_TYPES.now (λ row. row.0.now) (λ row. row.1.now) text (codes "-")

-- of signatures, or one of those
unfoldable pub signature_name : List ℕ → List ℕ
signature_name text = name_in SIGNATURE_TYPES.now (λ row. row.0.now) (λ row. row.1.now) text (common_name text)

-- of /usr and its hash trees, or one of those
unfoldable pub usr_name : List ℕ → List ℕ
usr_name text = name_in USR_TYPES.now (λ row. row.0.now) (λ row. row.1.now) text (signature_name text)

-- the name of the type with that UUID, and a dash for any other
unfoldable pub type_name : List ℕ → List ℕ
type_name text = name_in ROOT_TYPES.now (λ row. row.0.now) (λ row. row.1.now) text (usr_name text)

abbrev pub partition_type_name : List ℕ → List ℕ
partition_type_name kind = type_name (hyphenated_text lower kind)

-- a type among these has that UUID
unfoldable pub has_type : {A : Type 0} → List A → (A → List ℕ) → List ℕ → Bool
has_type types uuid text = is_some (find (λ row. bytes_eq (uuid row) text) types)

-- the UUID is that of a type whose partitions hold the signature of a root hash
unfoldable pub is_signature_text : List ℕ → Bool
is_signature_text text = has_type SIGNATURE_TYPES.now (λ row. row.0.now) text

abbrev pub is_signature_type : List ℕ → Bool
is_signature_type kind = is_signature_text (hyphenated_text lower kind)
