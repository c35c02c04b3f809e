-- Both ends of a disk with a partition table: the primary copy after a protective master boot record, and the backup, whose header is in
-- the last sector. It is what `read_table` of `partition_table` reads.
use Rattle.std.specs.Prelude.{ℕ, ◌+◌, ◌-◌, ◌*◌, List, ◌++◌}
use Rattle.partition_table.specs.declared.partition.Partition.{Partition}
use Rattle.partition_table.specs.declared.sector_size.Disk.{Disk}
use Rattle.partition_table.specs.declared.sector_size.SectorSize.{SectorSize}
use Rattle.partition_table.specs.declared.sector_size.SectorSize.TheVariants.{Bytes512, Bytes4096}
use Rattle.partition_table.specs.Crc.{crc32}
use Rattle.disk_layout.specs.declared.header.TableHeader.{TableHeader}
use Rattle.disk_layout.specs.Entries.{entries_array}
use Rattle.disk_layout.specs.Headers.{header_sector}
use Rattle.disk_layout.specs.Mbrs.{mbr_sector}

-- how many sectors 128 entries take
abbrev pub entries_sectors : SectorSize → ℕ
entries_sectors Bytes512 = 32
entries_sectors Bytes4096 = 4

-- the sectors between both copies are usable
abbrev pub header_at : Disk → List ℕ → ℕ → ℕ → ℕ → ℕ → TableHeader
header_at disk disk_id checksum own other entries = record {
  own = own;
  other = other;
  first_usable = 2 + entries_sectors disk.size;
  last_usable = disk.sectors - (2 + entries_sectors disk.size);
  disk_id = disk_id;
  entries = entries;
  entries_checksum = checksum;
}

-- the header in sector 1, before its entries
abbrev pub primary_header : Disk → List ℕ → ℕ → TableHeader
primary_header disk disk_id checksum = header_at disk disk_id checksum 1 (disk.sectors - 1) 2

-- the header in the last sector, after its entries
abbrev pub backup_header : Disk → List ℕ → ℕ → TableHeader
backup_header disk disk_id checksum = header_at disk disk_id checksum (disk.sectors - 1) 1 (disk.sectors - (1 + entries_sectors disk.size))

-- the sector of 512 bytes at which the backup's entries begin, before its header in the last sector
abbrev pub back_of : SectorSize → ℕ → ℕ
back_of Bytes512 sectors = sectors - 33
back_of Bytes4096 sectors = (sectors - 5) * 8

abbrev pub back_sector : Disk → ℕ
back_sector disk = back_of disk.size disk.sectors

unfoldable pub front_bytes : Disk → List ℕ → List Partition → List ℕ
front_bytes disk disk_id partitions =
    mbr_sector disk ++ (header_sector disk.size (primary_header disk disk_id (crc32 (entries_array partitions))) ++ entries_array partitions)

unfoldable pub back_bytes : Disk → List ℕ → List Partition → List ℕ
back_bytes disk disk_id partitions = entries_array partitions ++ header_sector disk.size (backup_header disk disk_id (crc32 (entries_array partitions)))
