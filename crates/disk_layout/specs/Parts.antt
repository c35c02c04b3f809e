-- Where the partitions of a disk with a verity image lie, in sectors of 512 bytes.
use Rattle.std.specs.Prelude.{ℕ, ◌+◌, ◌*◌, ◌/◌}
use Rattle.block_device.specs.Device.{capped}
use Rattle.device_adapters.specs.declared.part.Part.{Part}
use Rattle.disk_layout.specs.declared.parts.DiskParts.{DiskParts}

-- the next multiple of 1 MiB
abbrev pub aligned : ℕ → ℕ
aligned sector = capped (sector + 2047) / 2048 * 2048

abbrev pub end_of : Part → ℕ
end_of part = capped (part.first + part.count)

abbrev pub part_of : ℕ → ℕ → Part
part_of first count = record { first = first; count = count }

-- a part of so many sectors after another one
abbrev pub part_after : Part → ℕ → Part
part_after before count = part_of (aligned (end_of before)) count

-- parts one after the other, with a MiB before and after them
abbrev pub disk_of_parts : Part → Part → Part → DiskParts
disk_of_parts data_part hash_part parity_part = record {
  «data» = data_part;
  hash = hash_part;
  parity = parity_part;
  sectors = capped (aligned (end_of parity_part) + 2048);
}

abbrev pub disk_parts : ℕ → ℕ → ℕ → DiskParts
disk_parts data_count hash_count parity_count =
    disk_of_parts (part_of 2048 data_count) (part_after (part_of 2048 data_count) hash_count) (part_after (part_after (part_of 2048 data_count) hash_count) parity_count)
