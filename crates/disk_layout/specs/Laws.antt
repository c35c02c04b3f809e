-- What is read of a table that was written.
use Rattle.std.specs.Prelude.{◌≡◌, ℕ, ◌*◌, ◌≤◌, IsTrue, List, [], ◌∷◌}
use Rattle.block_device.specs.Device.{Device, IsWhole}
use Rattle.partition_table.specs.declared.partition.Partition.{Partition}
use Rattle.partition_table.specs.declared.sector_size.Disk.{Disk}
use Rattle.partition_table.specs.declared.sector_size.SectorSize.{SectorSize}
use Rattle.partition_table.specs.declared.sector_size.SectorSize.TheVariants.{Bytes4096}
use Rattle.partition_table.specs.declared.table.NoTable.{NoTable}
use Rattle.partition_table.specs.declared.table.PartitionTable.{PartitionTable}
use Rattle.partition_table.specs.Disks.{disk_of, unit_of}
use Rattle.partition_table.specs.Tables.{IsEitherTable, IsNoSizedTable, IsNoTable, IsSizedTable, IsTable}
use Rattle.disk_layout.specs.declared.parts.DiskParts.{DiskParts}
use Rattle.disk_layout.specs.Ends.{back_bytes, back_sector, front_bytes}
use Rattle.disk_layout.specs.Parts.{disk_parts}
use Rattle.disk_layout.specs.Usable.{HasParts, IsName, PartitionName, partition_named}
use Rattle.disk_layout.specs.Writing.{PutsEnds}
use Rattle.disk_layout.specs.Written.{HoldsTable, IsField, IsMadeTable, IsReadBack, IsUnreadTable}

-- a steady device of whole sectors holds a table after both its ends were written
abbrev pub WrittenTableIsHeld : Type 0
WrittenTableIsHeld = (old new : Device) (size : SectorSize) (disk_id : List ℕ) (partitions : List Partition) → IsTrue old.steady → IsWhole old → IsMadeTable (disk_of old size) disk_id partitions
    → PutsEnds old (front_bytes (disk_of old size) disk_id partitions) (back_sector (disk_of old size)) (back_bytes (disk_of old size) disk_id partitions) new
    → HoldsTable new (disk_of new size) disk_id partitions

-- `read_table` returns the partitions that were written, whichever copies were read, and no table only if neither copy was read
abbrev pub WrittenTableIsRead : Type 0
WrittenTableIsRead = (old new : Device) (size : SectorSize) (disk_id : List ℕ) (partitions : List Partition) → HoldsTable old (disk_of old size) disk_id partitions
    → ((table : PartitionTable) → IsTable old new size table → IsReadBack partitions table) × ((fault : NoTable) → IsNoTable old new size fault → IsUnreadTable fault)

-- so does `find_table`
abbrev pub WrittenTableIsFound : Type 0
WrittenTableIsFound = (old new : Device) (size : SectorSize) (disk_id : List ℕ) (partitions : List Partition) → HoldsTable old (disk_of old size) disk_id partitions
    → ((table : PartitionTable) → IsSizedTable old new size table → IsReadBack partitions table) × ((fault : NoTable) → IsNoSizedTable old new size fault → IsUnreadTable fault)

-- a table with sectors of 4,096 bytes is the one that `find_table` returns that first looks for sectors of 512 bytes
abbrev pub LargeTableIsFound : Type 0
LargeTableIsFound = (old new : Device) (disk_id : List ℕ) (partitions : List Partition) → HoldsTable old (disk_of old Bytes4096) disk_id partitions → 8 * (disk_of old Bytes4096).sectors ≡ old.size
    → (table : PartitionTable) → IsEitherTable old new table → IsReadBack partitions table

-- data and hash image, each over its part of a disk
abbrev pub two_partitions : DiskParts → SectorSize → PartitionName → PartitionName → List Partition
two_partitions parts size data_name hash_name = partition_named data_name size 1 parts.«data» ∷ partition_named hash_name size 2 parts.hash ∷ []

-- and the parity
abbrev pub three_partitions : DiskParts → SectorSize → PartitionName → PartitionName → PartitionName → List Partition
three_partitions parts size data_name hash_name parity_name =
    partition_named data_name size 1 parts.«data» ∷ partition_named hash_name size 2 parts.hash ∷ partition_named parity_name size 3 parts.parity ∷ []

-- partitions over the parts of a large enough disk make a table, if each part has a sector of the disk
abbrev pub DiskPartsMakeTables : Type 0
DiskPartsMakeTables = (disk : Disk) (disk_id : List ℕ) (data_name hash_name parity_name : PartitionName) (data_count hash_count parity_count : ℕ)
    → HasParts disk (disk_parts data_count hash_count parity_count) → IsField 16 disk_id → IsName data_name → IsName hash_name → IsName parity_name
    → IsMadeTable disk disk_id (two_partitions (disk_parts data_count hash_count parity_count) disk.size data_name hash_name)
    × (unit_of disk.size ≤ parity_count → IsMadeTable disk disk_id (three_partitions (disk_parts data_count hash_count parity_count) disk.size data_name hash_name parity_name))
