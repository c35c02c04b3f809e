-- The calls that read a partition table, in order, and what was answered of each copy: at most one for its header, and then one for
-- its entries.
use Rattle.std.specs.Prelude.{◌≡◌, ◌⊎◌, ℕ, ◌*◌, Bool, true, false, List, take, Option, Some, None, Result, Ok, Err}
use Rattle.block_device.specs.Call.{Call, Read}
use Rattle.block_device.specs.Device.{Device}
use Rattle.partition_table.specs.declared.copy.TableCopy.{TableCopy}
use Rattle.partition_table.specs.declared.header.Header.{Header}
use Rattle.partition_table.specs.declared.mbr.Mbr.{Mbr}
use Rattle.partition_table.specs.declared.mbr.Mbr.TheVariants.{Unread}
use Rattle.partition_table.specs.declared.read_fault.ReadFault.{ReadFault}
use Rattle.partition_table.specs.declared.read_fault.ReadFault.TheVariants.{Device as DeviceFailed, NoMemory, Table}
use Rattle.partition_table.specs.declared.sector_size.Disk.{Disk}
use Rattle.partition_table.specs.declared.sector_size.SectorSize.{SectorSize}
use Rattle.partition_table.specs.declared.sector_size.SectorSize.TheVariants.{Bytes4096, Bytes512}
use Rattle.partition_table.specs.declared.table.DamagedCopies.{DamagedCopies}
use Rattle.partition_table.specs.declared.table.FoundCopies.{FoundCopies}
use Rattle.partition_table.specs.declared.table.NoTable.{NoTable}
use Rattle.partition_table.specs.declared.table.NoTable.TheVariants.{TooSmall, Damaged}
use Rattle.partition_table.specs.declared.table.PartitionTable.{PartitionTable}
use Rattle.partition_table.specs.declared.table.Source.{Source}
use Rattle.partition_table.specs.declared.table.Source.TheVariants.{Both, Differ, Primary, Backup}
use Rattle.partition_table.specs.Disks.{disk_of, unit_of}
use Rattle.partition_table.specs.Headers.{array_bytes, header_fault, table_header}
use Rattle.partition_table.specs.Mbrs.{mbr_of}
use Rattle.partition_table.specs.Partitions.{array_fault, partitions_in}
use Rattle.partition_table.specs.Tables.{backup_sector, may_hide_table, primary_sector}

-- a read from that sector of the disk on
abbrev pub read_at : Disk → ℕ → List ℕ → Bool → Call
read_at disk first bytes ok = Read (first * unit_of disk.size) bytes ok

-- sectors were read, by one call
abbrev pub CallsAt : {D : Type 0} → (D → Call → D → Type 0) → Disk → ℕ → D → D → List ℕ → Type 0
CallsAt does disk first old new bytes = does old (read_at disk first bytes true) new

-- why sectors weren't read: the one call failed, or none was made since memory was refused
abbrev pub MissesAt : {D : Type 0} → (D → Call → D → Type 0) → Disk → ℕ → D → D → ReadFault → Type 0
MissesAt does disk first old new DeviceFailed = (bytes : List ℕ) × does old (read_at disk first bytes false) new
MissesAt does disk first old new NoMemory = new ≡ old
MissesAt does disk first old new (Table fault) = ⊥

-- a valid header was read, by one call
pub record CallsHeader {D : Type 0} (does : D → Call → D → Type 0) (disk : Disk) (sector : ℕ) (old new : D) (header : Header) : Type 0 where
  pub bytes : List ℕ
  pub made : does old (read_at disk sector bytes true) new
  pub good : header_fault disk sector bytes ≡ None
  pub value : header ≡ table_header bytes

-- no valid header was read, by at most one call
abbrev pub CallsNoHeader : {D : Type 0} → (D → Call → D → Type 0) → Disk → ℕ → D → D → ReadFault → Type 0
CallsNoHeader does disk sector old new DeviceFailed = (bytes : List ℕ) × does old (read_at disk sector bytes false) new
CallsNoHeader does disk sector old new NoMemory = new ≡ old
CallsNoHeader does disk sector old new (Table fault) = (bytes : List ℕ) × does old (read_at disk sector bytes true) new × (header_fault disk sector bytes ≡ Some fault)

abbrev pub CallsOfHeader : {D : Type 0} → (D → Call → D → Type 0) → Disk → ℕ → D → D → Result Header ReadFault → Type 0
CallsOfHeader does disk sector old new (Ok header) = CallsHeader does disk sector old new header
CallsOfHeader does disk sector old new (Err fault) = CallsNoHeader does disk sector old new fault

-- a valid copy was read, by two calls
pub record CallsGoodCopy {D : Type 0} (does : D → Call → D → Type 0) (disk : Disk) (sector : ℕ) (old new : D) (copy : TableCopy) : Type 0 where
  pub mid : D
  pub array : List ℕ
  pub first : CallsHeader does disk sector old mid copy.header
  pub rest : does mid (read_at disk copy.header.entries_sector array true) new
  pub good : array_fault copy.header (take (array_bytes copy.header) array) ≡ None
  pub partitions : copy.partitions.items ≡ partitions_in copy.header (take (array_bytes copy.header) array)

-- why the entries of a header aren't used, after at most one call
abbrev pub CallsNoEntries : {D : Type 0} → (D → Call → D → Type 0) → Disk → Header → D → D → ReadFault → Type 0
CallsNoEntries does disk header old new DeviceFailed = (array : List ℕ) × does old (read_at disk header.entries_sector array false) new
CallsNoEntries does disk header old new NoMemory = (new ≡ old) ⊎ ((array : List ℕ) × does old (read_at disk header.entries_sector array true) new)
CallsNoEntries does disk header old new (Table fault) =
    (array : List ℕ) × does old (read_at disk header.entries_sector array true) new × (array_fault header (take (array_bytes header) array) ≡ Some fault)

-- a valid header was read, and then its entries aren't used
pub record CallsBadEntries {D : Type 0} (does : D → Call → D → Type 0) (disk : Disk) (sector : ℕ) (old new : D) (fault : ReadFault) : Type 0 where
  pub mid : D
  pub header : Header
  pub first : CallsHeader does disk sector old mid header
  pub rest : CallsNoEntries does disk header mid new fault

-- the copy isn't used
abbrev pub CallsBadCopy : {D : Type 0} → (D → Call → D → Type 0) → Disk → ℕ → D → D → ReadFault → Type 0
CallsBadCopy does disk sector old new fault = CallsNoHeader does disk sector old new fault ⊎ CallsBadEntries does disk sector old new fault

abbrev pub CallsOfCopy : {D : Type 0} → (D → Call → D → Type 0) → Disk → ℕ → D → D → Result TableCopy ReadFault → Type 0
CallsOfCopy does disk sector old new (Ok copy) = CallsGoodCopy does disk sector old new copy
CallsOfCopy does disk sector old new (Err fault) = CallsBadCopy does disk sector old new fault

-- the copy is valid, or isn't used for that fault
abbrev pub CallsCopy : {D : Type 0} → (D → Call → D → Type 0) → Disk → ℕ → D → D → Option ReadFault → Type 0
CallsCopy does disk sector old new None = (copy : TableCopy) × CallsGoodCopy does disk sector old new copy
CallsCopy does disk sector old new (Some fault) = CallsBadCopy does disk sector old new fault

-- the primary copy was read, and then the backup; the faults are each copy's own
pub record CallsCopies {D : Type 0} (does : D → Call → D → Type 0) (disk : Disk) (old new : D) (primary backup : Option ReadFault) : Type 0 where
  pub mid : D
  pub first : CallsCopy does disk primary_sector old mid primary
  pub second : CallsCopy does disk (backup_sector disk) mid new backup

-- why a copy isn't used, if it isn't
abbrev pub primary_fault : Source → Option ReadFault
primary_fault Both = None
primary_fault Differ = None
primary_fault (Primary fault) = None
primary_fault (Backup fault) = Some fault

abbrev pub backup_fault : Source → Option ReadFault
backup_fault Both = None
backup_fault Differ = None
backup_fault (Primary fault) = Some fault
backup_fault (Backup fault) = None

abbrev pub CallsOfCopies : {D : Type 0} → (D → Call → D → Type 0) → Disk → D → D → Result FoundCopies DamagedCopies → Type 0
CallsOfCopies does disk old new (Ok found) = CallsCopies does disk old new (primary_fault found.source) (backup_fault found.source)
CallsOfCopies does disk old new (Err faults) = CallsCopies does disk old new (Some faults.primary) (Some faults.backup)

-- the master boot record was read, by one call, or wasn't, by at most one
abbrev pub CallsMbr : {D : Type 0} → (D → Call → D → Type 0) → Disk → D → D → Mbr → Type 0
CallsMbr does disk old new mbr =
    ((bytes : List ℕ) × does old (read_at disk 0 bytes true) new × (mbr ≡ mbr_of bytes))
    ⊎ ((mbr ≡ Unread) × ((new ≡ old) ⊎ ((bytes : List ℕ) × does old (read_at disk 0 bytes false) new)))

-- both copies were read, and one is used; then the master boot record
pub record CallsTable {D : Type 0} (does : D → Call → D → Type 0) (disk : Disk) (old new : D) (table : PartitionTable) : Type 0 where
  pub last : D
  pub copies : CallsCopies does disk old last (primary_fault table.source) (backup_fault table.source)
  pub mbr : CallsMbr does disk last new table.warnings.mbr

-- that; or nothing was read of a disk that is too small, or both copies were read and neither is used
abbrev pub CallsOfTable : {D : Type 0} → (D → Call → D → Type 0) → Disk → D → D → Result PartitionTable NoTable → Type 0
CallsOfTable does disk old new (Ok table) = CallsTable does disk old new table
CallsOfTable does disk old new (Err TooSmall) = new ≡ old
CallsOfTable does disk old new (Err (Damaged primary backup)) = CallsCopies does disk old new (Some primary) (Some backup)

-- both copies for sectors of 512 bytes were read, or the disk is too small, and there is no such table; then the table with
-- sectors of 4,096 bytes was read
pub record CallsBothSizes {D : Type 0} (state : D → Device) (does : D → Call → D → Type 0) (old new : D) (fault : NoTable) (result : Result PartitionTable NoTable) : Type 0 where
  pub mid : D
  pub first : CallsOfTable does (disk_of (state old) Bytes512) old mid (Err fault)
  pub sure : may_hide_table fault ≡ false
  pub second : CallsOfTable does (disk_of (state mid) Bytes4096) mid new result

-- the table with sectors of 512 bytes was read, or both were
abbrev pub CallsOfEither : {D : Type 0} → (D → Device) → (D → Call → D → Type 0) → D → D → Result PartitionTable NoTable → Type 0
CallsOfEither state does old new (Ok table) = CallsTable does (disk_of (state old) Bytes512) old new table ⊎ ((fault : NoTable) × CallsBothSizes state does old new fault (Ok table))
CallsOfEither state does old new (Err fault) =
    ((may_hide_table fault ≡ true) × CallsOfTable does (disk_of (state old) Bytes512) old new (Err fault)) ⊎ ((other : NoTable) × CallsBothSizes state does old new fault (Err other))

-- by the size of sectors that is looked for
abbrev pub CallsOfSized : {D : Type 0} → (D → Device) → (D → Call → D → Type 0) → SectorSize → D → D → Result PartitionTable NoTable → Type 0
CallsOfSized state does Bytes4096 old new result = CallsOfTable does (disk_of (state old) Bytes4096) old new result
CallsOfSized state does Bytes512 old new result = CallsOfEither state does old new result
