-- The only partition that an argument names, found one after the other.
use Rattle.std.proofs.Common.{◌≡◌, ◌++◌, [], None, Some, option_to_list, refl}
use Rattle.std.specs.Prelude.{Option}
use Rattle.partition_table.specs.declared.partition.Partition.{Partition}
use Rattle.image_files.specs.Partitions.{single}

-- no further one
pub single-found : (found : Option Partition) → single (option_to_list found ++ []) ≡ found
single-found None = refl
single-found (Some p) = refl
