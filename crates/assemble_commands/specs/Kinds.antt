-- The types of the partitions of a verity image, by the words of `--type` and `--arch`.
use Rattle.std.specs.Prelude.{ℕ, List, ◌++◌, Option, None, Some, codes}
use Rattle.partition_commands.specs.NamedKinds.{kind_named}
use Rattle.assemble_commands.specs.declared.kinds.DiskKinds.{DiskKinds}

-- the name of the data partition's type
unfoldable pub kind_text : List ℕ → List ℕ → List ℕ
kind_text kind arch = kind ++ (codes "-" ++ arch)

-- both types, if both are there
abbrev pub both_kinds : Option (List ℕ) → Option (List ℕ) → Option DiskKinds
both_kinds (Some data_kind) (Some hash_kind) = Some (record { «data» = data_kind; hash = hash_kind })
both_kinds (Some data_kind) None = None
both_kinds None hash = None

-- the types of data and tree
unfoldable pub disk_kinds : List ℕ → List ℕ → Option DiskKinds
disk_kinds kind arch = both_kinds (kind_named (kind_text kind arch)) (kind_named (kind_text kind arch ++ codes "-verity"))
