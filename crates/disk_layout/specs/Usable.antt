-- Partitions over the parts of a disk.
use Rattle.std.specs.Prelude.{◌≡◌, ℕ, ◌-◌, ◌*◌, ◌^◌, ◌≤◌, not, true, List, replicate}
use Rattle.std.specs.Str.{bytes_eq}
use Rattle.device_adapters.specs.declared.part.Part.{Part}
use Rattle.partition_table.specs.declared.partition.Partition.{Partition}
use Rattle.partition_table.specs.declared.sector_size.Disk.{Disk}
use Rattle.partition_table.specs.declared.sector_size.SectorSize.{SectorSize}
use Rattle.partition_table.specs.Disks.{unit_of}
use Rattle.disk_layout.specs.declared.parts.DiskParts.{DiskParts}
use Rattle.disk_layout.specs.Made.{partition_at}
use Rattle.disk_layout.specs.Written.{AreInOrder, IsField, table_sectors}

-- what an entry has beside its sectors
pub record PartitionName : Type 0 where
  pub kind : List ℕ
  pub uuid : List ℕ
  pub label : List ℕ

-- the fields have their sizes, and the type isn't that of an unused entry
pub record IsName (name : PartitionName) : Type 0 where
  pub kind : IsField 16 name.kind
  pub uuid : IsField 16 name.uuid
  pub label : IsField 72 name.label
  pub used : not (bytes_eq name.kind (replicate 16 0)) ≡ true

abbrev pub partition_named : PartitionName → SectorSize → ℕ → Part → Partition
partition_named name size number part = partition_at name.kind name.uuid name.label size number part

-- the partitions are in order in the usable sectors of the disk
abbrev pub AreUsable : Disk → List Partition → Type 0
AreUsable disk partitions = AreInOrder 1 (table_sectors disk) (disk.sectors - table_sectors disk) partitions

-- the disk is as large as its parts need, and those of data and hash image have a sector of the disk at least
pub record HasParts (disk : Disk) (parts : DiskParts) : Type 0 where
  pub sectors : parts.sectors ≤ disk.sectors * unit_of disk.size
  pub few : disk.sectors * unit_of disk.size ≤ 2 ^ 54
  pub data_count : unit_of disk.size ≤ parts.«data».count
  pub hash_count : unit_of disk.size ≤ parts.hash.count
