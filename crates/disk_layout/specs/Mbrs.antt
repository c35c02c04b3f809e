-- A protective master boot record (UEFI 2.10, 5.2.3, tables 5.3 and 5.4) as bytes: what `is_protective` of `partition_table` reads.
use Rattle.std.specs.Prelude.{ℕ, ◌-◌, List, ◌++◌, min, replicate}
use Rattle.partition_table.specs.declared.sector_size.Disk.{Disk}
use Rattle.partition_table.specs.Disks.{bytes_of_size}
use Rattle.disk_layout.specs.Numbers.{bytes32, padded}

-- Not bootable, beginning at cylinder 0, head 0, sector 2; type 0xEE, with the last place by cylinder; the first sector is 1, and it has
-- so many.
unfoldable pub protective_record : ℕ → List ℕ
protective_record sectors = bytes32 0x20000 ++ (bytes32 0xffffffee ++ (bytes32 1 ++ bytes32 sectors))

-- the record, three unused ones, and the signature in the last two bytes
unfoldable pub mbr_bytes : ℕ → List ℕ
mbr_bytes sectors = replicate 446 0 ++ (protective_record sectors ++ (replicate 46 0 ++ bytes32 0xaa550000))

-- the sectors after sector 0, as far as 4 bytes can state them
abbrev pub protected_sectors : Disk → ℕ
protected_sectors disk = min (disk.sectors - 1) 0xffffffff

-- sector 0
unfoldable pub mbr_sector : Disk → List ℕ
mbr_sector disk = padded (bytes_of_size disk.size) (mbr_bytes (protected_sectors disk))
