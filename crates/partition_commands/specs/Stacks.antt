-- The stack texts that are printed of a table: an entry for each partition, over the leaf DISK.
use Rattle.std.specs.Prelude.{ℕ, Bool, List}
use Rattle.std.specs.List.{flat_map}
use Rattle.partition_table.specs.declared.partition.Partition.{Partition}
use Rattle.partition_table.specs.declared.sector_size.SectorSize.{SectorSize}
use Rattle.partition_table.specs.declared.table.PartitionTable.{PartitionTable}
use Rattle.partition_commands.specs.Names.{partition_name}
use Rattle.image_files.specs.Partitions.{part_of}
use Rattle.stack_files.specs.DiskEntries.{entry_text, linear_line}

-- the entry of a partition
unfoldable pub partition_entry : Bool → SectorSize → List Partition → Partition → List ℕ
partition_entry writable size partitions p = entry_text writable (partition_name partitions p) (linear_line (part_of size p))

abbrev pub stack_text : Bool → SectorSize → List Partition → List ℕ
stack_text writable size partitions = flat_map (partition_entry writable size partitions) partitions

abbrev pub entries_text : Bool → PartitionTable → List ℕ
entries_text writable table = stack_text writable table.size table.partitions.items
