-- What the mapped device over a partition is called.
use Rattle.std.specs.Prelude.{ℕ, ◌==◌, ◌&&◌, ◌||◌, not, Bool, List, ◌++◌, codes, decimal, if◌then◌else◌}
use Rattle.std.specs.List.{list_any, starts_with}
use Rattle.std.specs.Str.{bytes_eq}
use Rattle.dm_table.specs.Names.{is_mapped_name}
use Rattle.partition_table.specs.declared.partition.Partition.{Partition}
use Rattle.partition_table.specs.Labels.{label_text}

-- `p` and the number
unfoldable pub numbered_name : ℕ → List ℕ
numbered_name number = codes "p" ++ decimal number

-- another partition has that label, or that name by its number
unfoldable pub is_taken_by : ℕ → List ℕ → Partition → Bool
is_taken_by number name q = not (q.number == number) && (bytes_eq (label_text q.label) name || bytes_eq (numbered_name q.number) name)

abbrev pub is_taken : List Partition → ℕ → List ℕ → Bool
is_taken partitions number name = list_any (is_taken_by number name) partitions

-- a name that begins with `-` could be read as an option
unfoldable pub is_option_like : List ℕ → Bool
is_option_like name = starts_with ◌==◌ name (codes "-")

-- the label, if it is a name, doesn't look like an option and isn't another partition's, else the name by its number
unfoldable pub partition_name : List Partition → Partition → List ℕ
partition_name partitions p =
    if is_mapped_name (label_text p.label) && (not (is_option_like (label_text p.label)) && not (is_taken partitions p.number (label_text p.label))) then label_text p.label
    else numbered_name p.number
