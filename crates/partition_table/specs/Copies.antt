-- A copy of a partition table on a device: its header in one sector, and its entries at the sector that the header
-- names.
use Rattle.std.specs.Prelude.{◌≡◌, ◌==◌, ◌&&◌, ℕ, Bool, List, take, Option, Some, None}
use Rattle.std.specs.Str.{bytes_eq}
use Rattle.allocation.specs.Refusal.{IsOutOfMemory}
use Rattle.block_device.specs.Device.{Device}
use Rattle.partition_table.specs.declared.copy.TableCopy.{TableCopy}
use Rattle.partition_table.specs.declared.header.Header.{Header}
use Rattle.partition_table.specs.declared.read_fault.ReadFault.{ReadFault}
use Rattle.partition_table.specs.declared.read_fault.ReadFault.TheVariants.{Device as DeviceFailed, NoMemory, Table}
use Rattle.partition_table.specs.declared.sector_size.Disk.{Disk}
use Rattle.partition_table.specs.declared.table_fault.TableFault.{TableFault}
use Rattle.partition_table.specs.Headers.{array_bytes, array_sectors, header_fault, table_header}
use Rattle.partition_table.specs.Partitions.{array_fault, or_fault, partitions_in}
use Rattle.partition_table.specs.Reads.{AreSectorsRead, HasFailedCall}

-- the header's sector and, if the header is valid, the sectors of the entries, as they were read
pub record IsCopyRead (device : Device) (disk : Disk) (sector : ℕ) (header array : List ℕ) : Type 0 where
  pub first : AreSectorsRead device disk sector 1 header
  pub rest : header_fault disk sector header ≡ None → AreSectorsRead device disk (table_header header).entries_sector (array_sectors disk.size (table_header header)) array

-- the bytes of the entries, without the rest of their last sector
abbrev pub array_of : List ℕ → List ℕ → List ℕ
array_of header array = take (array_bytes (table_header header)) array

-- the first fault of a copy: of its header, then of its entries
abbrev pub copy_fault : Disk → ℕ → List ℕ → List ℕ → Option TableFault
copy_fault disk sector header array = or_fault (header_fault disk sector header) (array_fault (table_header header) (array_of header array))

-- a copy that was read is valid, and has these contents
pub record IsGoodCopy (device : Device) (disk : Disk) (sector : ℕ) (copy : TableCopy) : Type 0 where
  pub header : List ℕ
  pub array : List ℕ
  pub read : IsCopyRead device disk sector header array
  pub good : copy_fault disk sector header array ≡ None
  pub fields : copy.header ≡ table_header header
  pub entries : copy.array.items ≡ array_of header array
  pub partitions : copy.partitions.items ≡ partitions_in (table_header header) (array_of header array)

-- two headers have the same usable sectors, the same number and size of entries, and the same disk identifier; UEFI
-- requires all fields to be equal except the sectors of the headers and of the entries, and the checksum of the
-- header
abbrev pub are_like : Header → Header → Bool
are_like h g =
    h.first_usable == g.first_usable && (h.last_usable == g.last_usable
    && (h.entry_count == g.entry_count && (h.entry_size == g.entry_size && bytes_eq h.disk_id g.disk_id)))

-- two copies agree (UEFI 2.10, 5.3.2): their headers do, and their entries are equal
abbrev pub are_equal : TableCopy → TableCopy → Bool
are_equal p q = are_like p.header q.header && bytes_eq p.array.items q.array.items

-- a copy that was read has this fault
pub record IsBadCopy (device : Device) (disk : Disk) (sector : ℕ) (fault : TableFault) : Type 0 where
  pub header : List ℕ
  pub array : List ℕ
  pub read : IsCopyRead device disk sector header array
  pub is : copy_fault disk sector header array ≡ Some fault

-- the largest allocation: the bytes of the largest array of entries
abbrev pub largest_allocation : ℕ
largest_allocation = 0x100000

-- why a copy isn't used: a device call failed, an allocation failed, or the copy that was read has a fault
abbrev pub IsCopyCause : Device → Device → Disk → ℕ → ReadFault → Type 0
IsCopyCause old new disk sector DeviceFailed = HasFailedCall old new
IsCopyCause old new disk sector NoMemory = (new.failures ≡ old.failures) × IsOutOfMemory largest_allocation
IsCopyCause old new disk sector (Table fault) = IsBadCopy old disk sector fault

-- a valid header was read
pub record IsHeaderRead (device : Device) (disk : Disk) (sector : ℕ) (header : Header) : Type 0 where
  pub sector_bytes : List ℕ
  pub read : AreSectorsRead device disk sector 1 sector_bytes
  pub good : header_fault disk sector sector_bytes ≡ None
  pub value : header ≡ table_header sector_bytes

-- why entries that were read aren't used
abbrev pub IsArrayCause : Header → List ℕ → ReadFault → Type 0
IsArrayCause header array DeviceFailed = ⊥
IsArrayCause header array NoMemory = IsOutOfMemory largest_allocation
IsArrayCause header array (Table fault) = array_fault header array ≡ Some fault
