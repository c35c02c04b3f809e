-- The header of a GUID partition table (UEFI 2.10, 5.3.2, table 5.5) as bytes: what `table_header` of `partition_table` reads.
use Rattle.std.specs.Prelude.{ℕ, List, ◌++◌, codes}
use Rattle.partition_table.specs.declared.sector_size.SectorSize.{SectorSize}
use Rattle.partition_table.specs.Crc.{crc32}
use Rattle.partition_table.specs.Disks.{bytes_of_size}
use Rattle.disk_layout.specs.declared.header.TableHeader.{TableHeader}
use Rattle.disk_layout.specs.Numbers.{bytes32, bytes64, padded, stored_uuid}

-- the signature, revision 1.0, the size of the header in bytes, and its checksum
unfoldable pub start_fields : ℕ → List ℕ
start_fields checksum = codes "EFI PART" ++ (bytes32 0x10000 ++ (bytes32 92 ++ bytes32 checksum))

-- a reserved field, the sectors of this header and of the other copy's, and the first usable sector
unfoldable pub place_fields : TableHeader → List ℕ
place_fields h = bytes32 0 ++ (bytes64 h.own ++ (bytes64 h.other ++ bytes64 h.first_usable))

-- the last usable sector, the identifier of the disk, the first sector of the entries, and their number
unfoldable pub usable_fields : TableHeader → List ℕ
usable_fields h = bytes64 h.last_usable ++ (stored_uuid h.disk_id ++ (bytes64 h.entries ++ bytes32 128))

-- the size of an entry in bytes, and the checksum of the entries
unfoldable pub entries_fields : TableHeader → List ℕ
entries_fields h = bytes32 128 ++ bytes32 h.entries_checksum

-- the fields in their order
unfoldable pub header_bytes : TableHeader → ℕ → List ℕ
header_bytes h checksum = start_fields checksum ++ (place_fields h ++ (usable_fields h ++ entries_fields h))

-- the sector of a header: the checksum is computed with its own field set to zero, and zeros follow the fields
unfoldable pub header_sector : SectorSize → TableHeader → List ℕ
header_sector size h = padded (bytes_of_size size) (header_bytes h (crc32 (header_bytes h 0)))
