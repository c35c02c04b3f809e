-- The types of root and /usr file systems and of their hash trees, by their names.
use Rattle.std.specs.Prelude.{ℕ, List, Option, codes}
use Rattle.uuid.specs.Text.{parsed}
use Rattle.partition_commands.specs.Kinds.{name_in}
use Rattle.partition_commands.specs.declared.root_types.TheConstants.{ROOT_TYPES}
use Rattle.partition_commands.specs.declared.usr_types.TheConstants.{USR_TYPES}

-- the text of the UUID of the type with that name, and a dash for any other: of /usr, or of these and root
unfoldable pub usr_uuid : List ℕ → List ℕ
usr_uuid name = name_in USR_TYPES.now (λ row. row.1.now) (λ row. row.0.now) name (codes "-")

unfoldable pub root_uuid : List ℕ → List ℕ
root_uuid name = name_in ROOT_TYPES.now (λ row. row.1.now) (λ row. row.0.now) name (usr_uuid name)

-- the UUID of the type with that name
unfoldable pub kind_named : List ℕ → Option (List ℕ)
kind_named name = parsed (root_uuid name)
