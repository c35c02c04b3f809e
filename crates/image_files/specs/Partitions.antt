-- Partitions of disks, as parts of their files, in sectors of 512 bytes.
use Rattle.std.specs.Prelude.{◌≡◌, ◌⊎◌, ◌*◌, ◌-◌, ◌^◌, ◌==◌, ◌&&◌, ℕ, Bool, List, [], ◌∷◌, filter, min, Option, None, Some, is_some, if◌then◌else◌}
use Rattle.std.specs.Option.{option_or}
use Rattle.allocation.specs.Refusal.{IsOutOfMemory}
use Rattle.block_device.specs.Device.{Device}
use Rattle.block_device.specs.declared.open_fault.OpenFault.{OpenFault}
use Rattle.block_device.specs.declared.open_fault.OpenFault.TheVariants.{NoMemory, NotAllowed, NotFound, OtherFault}
use Rattle.command_line.specs.FilePlaces.{NamedPartitionRecord, of_label, of_number, of_uuid}
use Rattle.device_adapters.specs.declared.part.Part.{Part}
use Rattle.partition_table.specs.declared.mbr.Mbr.{Mbr}
use Rattle.partition_table.specs.declared.mbr.Mbr.TheVariants.{Foreign, Missing, Protective, Unread}
use Rattle.partition_table.specs.declared.partition.Partition.{Partition}
use Rattle.partition_table.specs.declared.read_fault.ReadFault.{ReadFault}
use Rattle.partition_table.specs.declared.read_fault.ReadFault.TheVariants as copy
use Rattle.partition_table.specs.declared.sector_size.SectorSize.{SectorSize}
use Rattle.partition_table.specs.declared.table.NoTable.{NoTable}
use Rattle.partition_table.specs.declared.table.NoTable.TheVariants.{Damaged, TooSmall}
use Rattle.partition_table.specs.declared.table.PartitionTable.{PartitionTable}
use Rattle.partition_table.specs.declared.table.Source.{Source}
use Rattle.partition_table.specs.declared.table.Source.TheVariants.{Backup, Both, Differ, Primary}
use Rattle.partition_table.specs.Disks.{unit_of}
use Rattle.partition_table.specs.Labels.{has_label, name_room}
use Rattle.partition_table.specs.Partitions.{has_uuid, partition_sectors}
use Rattle.partition_table.specs.Tables.{IsEitherTable, IsNoEitherTable}

-- so many sectors of the disk in sectors of the device, or 2^64 - 1: a disk that was cut short has fewer
abbrev pub units : SectorSize → ℕ → ℕ
units size sectors = min (sectors * unit_of size) (2 ^ 64 - 1)

abbrev pub part_of : SectorSize → Partition → Part
part_of size p = record { first = units size p.first; count = units size (partition_sectors p) }

-- a partition that an argument names, by its number, its UUID or its label
abbrev pub is_named : NamedPartitionRecord → Partition → Bool
is_named (of_number number) p = p.number == number
is_named (of_uuid uuid) p = has_uuid uuid p
is_named (of_label label) p = has_label label p

-- the only one of a list
abbrev pub single : List Partition → Option Partition
single [] = None
single (p ∷ []) = Some p
single (p ∷ (q ∷ more)) = None

-- the partition that an argument names: one that two partitions have in common names none
abbrev pub only_named : NamedPartitionRecord → List Partition → Option Partition
only_named named partitions = single (filter (is_named named) partitions)

-- a named partition comes after the one that was found
abbrev pub is_second : Option Partition → Bool → Bool
is_second found fits = fits && is_some found

-- the one found so far, and a further partition that is named or not
abbrev pub latest : Option Partition → Partition → Bool → Option Partition
latest found p fits = if fits then Some p else found

-- the partition of a table that an argument names is this part
pub record HasNamed (table : PartitionTable) (named : NamedPartitionRecord) (part : Part) : Type 0 where
  pub partition : Partition
  pub found : only_named named table.partitions.items ≡ Some partition
  pub is : part ≡ part_of table.size partition

-- the argument names none of its partitions, or more than one
pub record LacksNamed (table : PartitionTable) (named : NamedPartitionRecord) (fault : OpenFault) : Type 0 where
  pub lacks : only_named named table.partitions.items ≡ None
  pub is : fault ≡ NotFound

-- that, or memory for a label ran out
abbrev pub IsUnnamed : PartitionTable → NamedPartitionRecord → OpenFault → Type 0
IsUnnamed table named fault = LacksNamed table named fault ⊎ ((fault ≡ NoMemory) × IsOutOfMemory name_room)

-- why no partition is written if the backup isn't used: it wasn't read and may differ; nobody uses one that was read and isn't valid
abbrev pub backup_refusal : ReadFault → Option OpenFault
backup_refusal copy.NoMemory = Some NoMemory
backup_refusal copy.Device = Some OtherFault
backup_refusal (copy.Table fault) = None

-- why none is written if the primary copy isn't used
abbrev pub primary_refusal : ReadFault → Option OpenFault
primary_refusal copy.NoMemory = Some NoMemory
primary_refusal copy.Device = Some OtherFault
primary_refusal (copy.Table fault) = Some NotAllowed

-- why none is written, by the copies of the table
abbrev pub copies_refusal : Source → Option OpenFault
copies_refusal Both = None
copies_refusal Differ = Some NotAllowed
copies_refusal (Primary fault) = backup_refusal fault
copies_refusal (Backup fault) = primary_refusal fault

-- why none is written, by the master boot record: it isn't a protective one (UEFI 2.10, 5.2.3), or wasn't read
abbrev pub mbr_refusal : Mbr → Option OpenFault
mbr_refusal Protective = None
mbr_refusal Missing = Some NotAllowed
mbr_refusal Foreign = Some NotAllowed
mbr_refusal Unread = Some OtherFault

-- why none is written, if there is a reason: the first of these two
abbrev pub write_refusal : Source → Mbr → Option OpenFault
write_refusal source mbr = option_or (copies_refusal source) (mbr_refusal mbr)

-- why no partition of a table is opened with this right: any valid copy will do for reading
abbrev pub use_refusal : PartitionTable → Bool → Option OpenFault
use_refusal table writable = if writable then write_refusal table.source table.warnings.mbr else None

-- the argument names a partition of the table that may be opened with this right
pub record HasUsable (table : PartitionTable) (named : NamedPartitionRecord) (writable : Bool) (part : Part) : Type 0 where
  pub has : HasNamed table named part
  pub usable : use_refusal table writable ≡ None

-- it names a partition that may not be opened so
pub record IsUnusable (table : PartitionTable) (named : NamedPartitionRecord) (writable : Bool) (fault : OpenFault) : Type 0 where
  pub part : Part
  pub has : HasNamed table named part
  pub refused : use_refusal table writable ≡ Some fault

abbrev pub LacksUsable : PartitionTable → NamedPartitionRecord → Bool → OpenFault → Type 0
LacksUsable table named writable fault = IsUnnamed table named fault ⊎ IsUnusable table named writable fault

-- the disk's partition table was read, and the argument names a partition of it that may be opened with this right
pub record IsPartition (disk disk' : Device) (named : NamedPartitionRecord) (writable : Bool) (part : Part) : Type 0 where
  pub table : PartitionTable
  pub read : IsEitherTable disk disk' table
  pub has : HasUsable table named writable part

-- why neither copy of a table is used: memory ran out, the disk failed, or both aren't valid
abbrev pub copies_fault : ReadFault → ReadFault → OpenFault
copies_fault copy.NoMemory backup = NoMemory
copies_fault copy.Device copy.NoMemory = NoMemory
copies_fault copy.Device copy.Device = OtherFault
copies_fault copy.Device (copy.Table fault) = OtherFault
copies_fault (copy.Table fault) copy.NoMemory = NoMemory
copies_fault (copy.Table fault) copy.Device = OtherFault
copies_fault (copy.Table fault) (copy.Table other) = NotFound

abbrev pub table_fault : NoTable → OpenFault
table_fault TooSmall = NotFound
table_fault (Damaged primary backup) = copies_fault primary backup

-- there is no table
pub record HasNoTable (disk disk' : Device) (fault : OpenFault) : Type 0 where
  pub cause : NoTable
  pub none : IsNoEitherTable disk disk' cause
  pub is : fault ≡ table_fault cause

-- there is one, and no partition of it is found that may be opened so
pub record LacksPartition (disk disk' : Device) (named : NamedPartitionRecord) (writable : Bool) (fault : OpenFault) : Type 0 where
  pub table : PartitionTable
  pub read : IsEitherTable disk disk' table
  pub lacks : LacksUsable table named writable fault

abbrev pub IsNoPartition : Device → Device → NamedPartitionRecord → Bool → OpenFault → Type 0
IsNoPartition disk disk' named writable fault = HasNoTable disk disk' fault ⊎ LacksPartition disk disk' named writable fault
