-- What is printed among the errors of a table: a line for each thing that is unusual of it.
use Rattle.std.specs.Prelude.{◌≡◌, ◌⊎◌, ℕ, List, ◌++◌, codes, decimal, if◌then◌else◌}
use Rattle.std.specs.List.{flat_map}
use Rattle.block_device.specs.Device.{Device}
use Rattle.partition_table.specs.declared.mbr.Mbr.{Mbr}
use Rattle.partition_table.specs.declared.mbr.Mbr.TheVariants.{Protective, Missing, Foreign, Unread}
use Rattle.partition_table.specs.declared.partition.Partition.{Partition}
use Rattle.partition_table.specs.declared.sector_size.SectorSize.{SectorSize}
use Rattle.partition_table.specs.declared.table.PartitionTable.{PartitionTable}
use Rattle.partition_table.specs.declared.table.Source.{Source}
use Rattle.partition_table.specs.declared.table.Source.TheVariants.{Differ}
use Rattle.partition_table.specs.declared.warnings.CopyWarnings.{CopyWarnings}
use Rattle.partition_table.specs.Tables.{IsSizedTable}
use Rattle.image_files.specs.Partitions.{part_of}
use Rattle.stack_files.specs.Warnings.{IsNoted, Notes, warning_if, warning_line}
use Rattle.partition_commands.specs.Parts.{is_within}

-- of the master boot record
abbrev pub mbr_warning : Mbr → List ℕ
mbr_warning Protective = codes ""
mbr_warning Missing = warning_line (codes "there is no protective MBR")
mbr_warning Foreign = warning_line (codes "the MBR isn't a protective one")
mbr_warning Unread = warning_line (codes "the MBR can't be read")

-- of two valid copies
abbrev pub differ_warning : Source → List ℕ
differ_warning Differ = warning_line (codes "the two copies of the table differ; the primary one is used")
differ_warning source = codes ""

-- of the sector that a header names as the other copy's: one past the end of the disk, or another one on it
unfoldable pub sector_warning : CopyWarnings → List ℕ → List ℕ → List ℕ
sector_warning w past elsewhere = if w.cut_short then warning_line past else warning_if w.alternate elsewhere

-- of the sector that the primary header names as the backup's, whether a backup is in the last sector or not
unfoldable pub backup_sector_warning : CopyWarnings → List ℕ
backup_sector_warning w =
    sector_warning w (codes "the primary header places the backup past the end of the disk") (codes "the primary header places the backup before the last sector")

-- of each copy
unfoldable pub primary_warnings : CopyWarnings → List ℕ
primary_warnings w = backup_sector_warning w ++ warning_if w.reserved (codes "reserved bytes of the primary header aren't zero")

unfoldable pub backup_warnings : CopyWarnings → List ℕ
backup_warnings w =
    sector_warning w (codes "the backup places the primary table past the end of the disk") (codes "the backup doesn't place the primary table in sector 1")
    ++ warning_if w.reserved (codes "reserved bytes of the backup header aren't zero")

-- of a partition that ends past the end of the device
unfoldable pub end_line : ℕ → List ℕ
end_line number = codes "dmstack: warning: the disk ends before partition " ++ (decimal number ++ codes " does\n")

abbrev pub end_warning : Device → SectorSize → Partition → List ℕ
end_warning device size p = if is_within device (part_of size p) then codes "" else end_line p.number

abbrev pub end_warnings : Device → SectorSize → List Partition → List ℕ
end_warnings device size partitions = flat_map (end_warning device size) partitions

-- of the copies, and of a whole table on a device
unfoldable pub copies_warnings : PartitionTable → List ℕ
copies_warnings table =
    mbr_warning table.warnings.mbr ++ (differ_warning table.source ++ (primary_warnings table.warnings.primary ++ backup_warnings table.warnings.backup))

abbrev pub warning_text : Device → PartitionTable → List ℕ
warning_text device table = copies_warnings table ++ end_warnings device table.size table.partitions.items

-- ---- what was printed among the errors

-- a table was found on a device, and its warnings were printed
pub record FindsNoted (old new : Device) (size : SectorSize) (notes : Notes) (table : PartitionTable) : Type 0 where
  pub found : IsSizedTable old new size table
  pub noted : IsNoted notes (warning_text new table)

-- nothing was printed, since there was no table yet, or the warnings of a table that was found
abbrev pub AreNotes : Type 0 → Device → SectorSize → Notes → Type 0
AreNotes tableless device size notes = (tableless × (notes.new ≡ notes.old)) ⊎ ((after : Device) × (table : PartitionTable) × FindsNoted device after size notes table)
