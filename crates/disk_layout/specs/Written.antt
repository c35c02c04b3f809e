-- A device with a table at both ends, and what is read of it.
use Rattle.std.specs.Prelude.{◌≡◌, ℕ, ◌+◌, ◌-◌, ◌*◌, ◌/◌, ◌^◌, ◌<◌, ◌≤◌, true, IsTrue, List, [], ◌∷◌, length, ⊤}
use Rattle.std.specs.List.{All}
use Rattle.block_device.specs.Device.{Device, run_of, sectors_of}
use Rattle.partition_table.specs.declared.mbr.Mbr.{Mbr}
use Rattle.partition_table.specs.declared.mbr.Mbr.TheVariants.{Foreign, Missing, Protective, Unread}
use Rattle.partition_table.specs.declared.partition.Partition.{Partition}
use Rattle.partition_table.specs.declared.sector_size.Disk.{Disk}
use Rattle.partition_table.specs.declared.table.NoTable.{NoTable}
use Rattle.partition_table.specs.declared.table.NoTable.TheVariants.{Damaged, TooSmall}
use Rattle.partition_table.specs.declared.table.PartitionTable.{PartitionTable}
use Rattle.partition_table.specs.declared.table.Source.{Source}
use Rattle.partition_table.specs.declared.table.Source.TheVariants.{Backup, Both, Differ, Primary}
use Rattle.partition_table.specs.Partitions.{is_used}
use Rattle.partition_table.specs.Reads.{is_unread}
use Rattle.partition_table.specs.Tables.{no_warnings}
use Rattle.disk_layout.specs.Ends.{back_bytes, back_sector, entries_sectors, front_bytes}

-- each is a byte
abbrev pub AreBytes : List ℕ → Type 0
AreBytes bytes = All (λ b. b < 256) bytes

-- so many bytes
abbrev pub IsField : ℕ → List ℕ → Type 0
IsField n bytes = (length bytes ≡ n) × AreBytes bytes

-- an entry can state the partition, and its type isn't that of an unused entry
pub record IsStatable (p : Partition) : Type 0 where
  pub kind : IsField 16 p.kind
  pub uuid : IsField 16 p.uuid
  pub label : IsField 72 p.label
  pub last : p.last < 2 ^ 64
  pub used : is_used p ≡ true

-- the partitions are numbered from n on, and lie one after the other from a sector on, up to a last one
abbrev pub AreInOrder : ℕ → ℕ → ℕ → List Partition → Type 0
AreInOrder n from last [] = ⊤
AreInOrder n from last (p ∷ ps) = (p.number ≡ n) × (from ≤ p.first) × (p.first ≤ p.last) × (p.last ≤ last) × IsStatable p × AreInOrder (n + 1) (p.last + 1) last ps

-- the first usable sector; the last one is as many sectors before the end of the disk
abbrev pub table_sectors : Disk → ℕ
table_sectors disk = 2 + entries_sectors disk.size

-- at most 128 partitions in the usable sectors of a disk
pub record IsMadeTable (disk : Disk) (disk_id : List ℕ) (partitions : List Partition) : Type 0 where
  pub room : 2 * table_sectors disk ≤ disk.sectors
  pub few : disk.sectors < 2 ^ 64
  pub id : IsField 16 disk_id
  pub count : length partitions ≤ 128
  pub order : AreInOrder 1 (table_sectors disk) (disk.sectors - table_sectors disk) partitions

-- these bytes are stored from a sector of 512 bytes on
abbrev pub Holds : Device → ℕ → List ℕ → Type 0
Holds device first bytes = run_of device.image first (length bytes / 512) ≡ sectors_of (length bytes / 512) bytes

-- a steady device with a table at both ends
pub record HoldsTable (device : Device) (disk : Disk) (disk_id : List ℕ) (partitions : List Partition) : Type 0 where
  pub steady : IsTrue device.steady
  pub made : IsMadeTable disk disk_id partitions
  pub front : Holds device 0 (front_bytes disk disk_id partitions)
  pub back : Holds device (back_sector disk) (back_bytes disk disk_id partitions)

-- both copies are valid and agree, or the one that isn't used wasn't read
abbrev pub IsReadSource : Source → Type 0
IsReadSource Both = ⊤
IsReadSource Differ = ⊥
IsReadSource (Primary fault) = is_unread fault ≡ true
IsReadSource (Backup fault) = is_unread fault ≡ true

-- the master boot record is protective, or wasn't read
abbrev pub IsReadMbr : Mbr → Type 0
IsReadMbr Protective = ⊤
IsReadMbr Unread = ⊤
IsReadMbr Missing = ⊥
IsReadMbr Foreign = ⊥

-- a table that was read has these partitions, and causes no warning
pub record IsReadBack (partitions : List Partition) (table : PartitionTable) : Type 0 where
  pub entries : table.partitions.items ≡ partitions
  pub source : IsReadSource table.source
  pub of_primary : table.warnings.primary ≡ no_warnings
  pub of_backup : table.warnings.backup ≡ no_warnings
  pub mbr : IsReadMbr table.warnings.mbr

-- no copy was read
abbrev pub IsUnreadTable : NoTable → Type 0
IsUnreadTable TooSmall = ⊥
IsUnreadTable (Damaged primary backup) = (is_unread primary ≡ true) × (is_unread backup ≡ true)
