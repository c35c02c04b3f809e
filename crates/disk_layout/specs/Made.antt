-- The partition over a part of a disk.
use Rattle.std.specs.Prelude.{ℕ, ◌+◌, ◌-◌, ◌/◌, List}
use Rattle.block_device.specs.Device.{capped}
use Rattle.device_adapters.specs.declared.part.Part.{Part}
use Rattle.partition_table.specs.declared.partition.Partition.{Partition}
use Rattle.partition_table.specs.declared.sector_size.SectorSize.{SectorSize}
use Rattle.partition_table.specs.Disks.{unit_of}

-- its first and last sector are those of the disk, of that size
abbrev pub partition_at : List ℕ → List ℕ → List ℕ → SectorSize → ℕ → Part → Partition
partition_at kind uuid label size number part = record {
  number = number;
  kind = kind;
  uuid = uuid;
  first = part.first / unit_of size;
  last = capped (part.first + part.count) / unit_of size - 1;
  label = label;
}
