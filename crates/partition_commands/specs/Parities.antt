-- The parity of a verity image, in a partition of its disk.
use Rattle.std.specs.Prelude.{◌≡◌, ◌⊎◌, ◌==◌, ◌||◌, ℕ, Bool, true, false, List, Option, None, Some}
use Rattle.std.specs.Option.{option_and_then}
use Rattle.allocation.specs.Refusal.{IsOutOfMemory}
use Rattle.block_device.specs.declared.open_fault.OpenFault.{OpenFault}
use Rattle.block_device.specs.declared.open_fault.OpenFault.TheVariants.{NotFound, SameFile}
use Rattle.command_line.specs.FecFiles.{FecRecord}
use Rattle.command_line.specs.FilePlaces.{named_partition}
use Rattle.device_adapters.specs.declared.part.Part.{Part}
use Rattle.fec_commands.specs.declared.fault.FecFault.{FecFault}
use Rattle.fec_commands.specs.Coverings.{Covers, IsUncovered}
use Rattle.image_files.specs.Partitions.{only_named, part_of}
use Rattle.partition_table.specs.declared.partition.Partition.{Partition}
use Rattle.partition_table.specs.declared.sector_size.SectorSize.{SectorSize}
use Rattle.partition_table.specs.declared.table.PartitionTable.{PartitionTable}
use Rattle.partition_table.specs.Labels.{name_room}
use Rattle.verity_format.specs.Superblock.{SuperRecord, shape_of}
use Rattle.partition_commands.specs.declared.fault.PartitionsFault.{PartitionsFault}
use Rattle.partition_commands.specs.declared.fault.PartitionsFault.TheVariants.{Fec, NoMemory, Open, Refused}
use Rattle.partition_commands.specs.declared.parity.ImageParity.{ImageParity}
use Rattle.partition_commands.specs.declared.refusal.PartitionRefusal.TheVariants.{OutsideDevice}
use Rattle.partition_commands.specs.declared.root.ImagePartitions.{ImagePartitions}
use Rattle.partition_commands.specs.Parts.{ends_by}

-- the only partition that a word names, as in `FILE#PARTITION`
abbrev pub partition_named : List ℕ → PartitionTable → Option Partition
partition_named word table = option_and_then (λ named. only_named named table.partitions.items) (named_partition word)

-- it isn't opened, by that fault
abbrev pub IsOf : List ℕ → OpenFault → PartitionsFault → Type 0
IsOf word fault (Open file) = (file.path.now ≡ word) × (file.fault ≡ fault)
IsOf word fault other = ⊥

-- the word names none or more than one, or memory for a label ran out
abbrev pub IsUnnamed : List ℕ → PartitionTable → PartitionsFault → Type 0
IsUnnamed word table NoMemory = IsOutOfMemory name_room
IsUnnamed word table fault = IsOf word NotFound fault × (partition_named word table ≡ None)

-- whether a part of a disk begins as the image's data or as its tree
abbrev pub is_image_part : SectorSize → ImagePartitions → Part → Bool
is_image_part size both part = (part.first == (part_of size both.data).first) || (part.first == (part_of size both.verity).first)

-- the parity is in the partition that is named, which ends on the disk of so many sectors and isn't one of the image's two, and covers the
-- image
pub record IsParityIn (sectors : ℕ) (table : PartitionTable) (both : ImagePartitions) (super : SuperRecord) (fec : FecRecord) (parity : ImageParity) : Type 0 where
  pub partition : Partition
  pub named : partition_named fec.path table ≡ Some partition
  pub part : parity.part ≡ part_of table.size partition
  pub within : ends_by sectors parity.part ≡ true
  pub apart : is_image_part table.size both parity.part ≡ false
  pub roots : parity.roots ≡ fec.roots
  pub covers : Covers (shape_of super) (part_of table.size both.verity).count parity.part.count fec.roots parity.blocks

-- the partition ends past the end of the disk
pub record IsParityOutside (sectors : ℕ) (table : PartitionTable) (fec : FecRecord) : Type 0 where
  pub partition : Partition
  pub named : partition_named fec.path table ≡ Some partition
  pub outside : ends_by sectors (part_of table.size partition) ≡ false

-- the partition is one of the image's two
pub record IsParityInUse (sectors : ℕ) (table : PartitionTable) (both : ImagePartitions) (fec : FecRecord) : Type 0 where
  pub partition : Partition
  pub named : partition_named fec.path table ≡ Some partition
  pub within : ends_by sectors (part_of table.size partition) ≡ true
  pub used : is_image_part table.size both (part_of table.size partition) ≡ true

-- the parity doesn't cover the image
pub record IsParityShort (table : PartitionTable) (both : ImagePartitions) (super : SuperRecord) (fec : FecRecord) (fault : FecFault) : Type 0 where
  pub partition : Partition
  pub named : partition_named fec.path table ≡ Some partition
  pub short : IsUncovered (shape_of super) (part_of table.size both.verity).count (part_of table.size partition).count fec.roots fault

-- why there is no parity in that partition
abbrev pub IsParityEnd : ℕ → PartitionTable → ImagePartitions → SuperRecord → FecRecord → PartitionsFault → Type 0
IsParityEnd sectors table both super fec (Refused OutsideDevice) = IsParityOutside sectors table fec
IsParityEnd sectors table both super fec (Fec fault) = IsParityShort table both super fec fault
IsParityEnd sectors table both super fec fault = IsUnnamed fec.path table fault ⊎ (IsOf fec.path SameFile fault × IsParityInUse sectors table both fec)

-- the parity, if a partition is named
abbrev pub HasParity : ℕ → PartitionTable → ImagePartitions → SuperRecord → Option FecRecord → Option ImageParity → Type 0
HasParity sectors table both super None parity = parity ≡ None
HasParity sectors table both super (Some fec) parity = (found : ImageParity) × (parity ≡ Some found) × IsParityIn sectors table both super fec found

abbrev pub LacksParity : ℕ → PartitionTable → ImagePartitions → SuperRecord → Option FecRecord → PartitionsFault → Type 0
LacksParity sectors table both super None fault = ⊥
LacksParity sectors table both super (Some fec) fault = IsParityEnd sectors table both super fec fault
