-- Where a partition lies on the device, in sectors of 512 bytes.
use Rattle.std.specs.Prelude.{ℕ, ◌+◌, nat_le, Bool, List}
use Rattle.std.specs.List.{list_all}
use Rattle.block_device.specs.Device.{Device}
use Rattle.device_adapters.specs.declared.part.Part.{Part}
use Rattle.partition_table.specs.declared.partition.Partition.{Partition}
use Rattle.partition_table.specs.declared.sector_size.SectorSize.{SectorSize}
use Rattle.image_files.specs.Partitions.{part_of}

-- the part ends within so many sectors
abbrev pub ends_by : ℕ → Part → Bool
ends_by sectors part = nat_le (part.first + part.count) sectors

-- the part ends on the device, as on a disk that wasn't cut short
abbrev pub is_within : Device → Part → Bool
is_within device part = ends_by device.size part

-- all partitions do
abbrev pub are_within : Device → SectorSize → List Partition → Bool
are_within device size partitions = list_all (λ p. is_within device (part_of size p)) partitions
