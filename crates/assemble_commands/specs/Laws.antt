-- What a disk holds after it was assembled.
use Rattle.std.specs.Prelude.{◌≡◌, ◌*◌, ◌/◌, ℕ, IsTrue, List, Option}
use Rattle.block_device.specs.Device.{Device}
use Rattle.command_line.specs.words.Assemble.{AssembleRecord}
use Rattle.image_commands.specs.Drawing.{Gives, drawing}
use Rattle.image_files.specs.Opener.{Opener, calls}
use Rattle.partition_table.specs.declared.partition.Partition.{Partition}
use Rattle.partition_table.specs.declared.sector_size.SectorSize.{SectorSize}
use Rattle.partition_table.specs.declared.table.NoTable.{NoTable}
use Rattle.partition_table.specs.declared.table.PartitionTable.{PartitionTable}
use Rattle.partition_table.specs.Disks.{unit_of}
use Rattle.partition_table.specs.Tables.{IsEitherTable, IsNoSizedTable, IsNoTable, IsSizedTable, IsTable}
use Rattle.disk_layout.specs.Written.{IsReadBack, IsUnreadTable}
use Rattle.rand_core.specs.Stream.{Stream}
use Rattle.assemble_commands.specs.Commands.{AssemblesDisk}
use Rattle.assemble_commands.specs.Plans.{partitions_of, size_of}

-- `assemble` returned Ok
abbrev pub HasAssembled : {S D T G : Type 0} → Opener S D → (D → Device) → Gives T G → (G → Stream) → S → S → T → T → AssembleRecord → Option (List ℕ) → Option (List ℕ) → Type 0
HasAssembled relations state gives stream images images' generators generators' a old new =
    AssemblesDisk (calls relations state images images') (drawing gives stream generators generators') a old new

-- a steady device that holds what another one holds
pub record HoldsTheSame (device later : Device) : Type 0 where
  pub steady : IsTrue later.steady
  pub size : later.size ≡ device.size
  pub image : later.image ≡ device.image

-- `read_table` and `find_table` of a device return these partitions, whichever copies were read, and no table only if neither was read
pub record ReadsTable (device : Device) (size : SectorSize) (partitions : List Partition) : Type 0 where
  pub read : (new : Device) (table : PartitionTable) → IsTable device new size table → IsReadBack partitions table
  pub unread : (new : Device) (fault : NoTable) → IsNoTable device new size fault → IsUnreadTable fault
  pub found : (new : Device) (table : PartitionTable) → IsSizedTable device new size table → IsReadBack partitions table
  pub unfound : (new : Device) (fault : NoTable) → IsNoSizedTable device new size fault → IsUnreadTable fault
  -- so does `find_table` that looks for both sector sizes, on a device of whole sectors of the disk
  pub either : device.size / unit_of size * unit_of size ≡ device.size → (new : Device) (table : PartitionTable) → IsEitherTable device new table → IsReadBack partitions table

-- If DATA and OUT were steady, the table of OUT is read with the partitions of the image, whose UUIDs are the halves of its root hash:
-- of what was closed last, and of each steady device that holds the same.
abbrev pub AssembledTablesAreRead : {S D T G : Type 0} → Opener S D → (D → Device) → Gives T G → (G → Stream) → Type 0
AssembledTablesAreRead {S} {D} {T} {G} relations state gives stream =
    (images images' : S) (generators generators' : T) (a : AssembleRecord) (old new : Option (List ℕ)) → (done : HasAssembled relations state gives stream images images' generators generators' a old new)
    → IsTrue (state done.fills.image.device).steady → IsTrue (state done.fills.fills.table.image.device).steady
    → (later : Device) → HoldsTheSame (state done.fills.fills.table.device') later → ReadsTable later (size_of a.sector_size) (partitions_of done.plan done.made)
