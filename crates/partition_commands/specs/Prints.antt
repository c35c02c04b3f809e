-- What `partitions` prints, and how it ends early.
use Rattle.std.specs.Prelude.{◌≡◌, ℕ, Bool, true, List, Option}
use Rattle.std.specs.Io.KnownBytes.{Appends}
use Rattle.allocation.specs.Refusal.{IsOutOfMemory}
use Rattle.block_device.specs.Device.{Device}
use Rattle.program_io.specs.Counted.{CountedRecord}
use Rattle.partition_table.specs.declared.sector_size.SectorSize.{SectorSize}
use Rattle.partition_table.specs.declared.table.PartitionTable.{PartitionTable}
use Rattle.partition_table.specs.Tables.{IsNoSizedTable, IsSizedTable}
use Rattle.partition_commands.specs.declared.fault.PrintFault.{PrintFault}
use Rattle.partition_commands.specs.declared.fault.PrintFault.TheVariants.{NoMemory, Table, Write}
use Rattle.partition_table.specs.Labels.{name_room}
use Rattle.partition_commands.specs.Lines.{listed_text}
use Rattle.stack_files.specs.Warnings.{IsNoted, Notes}
use Rattle.partition_commands.specs.Warnings.{AreNotes, warning_text}

-- the text of the table that was found on the device was written, and its warnings among the errors
pub record PrintsTable (old new : Device) (size : SectorSize) (written now_written : Option (List ℕ)) (notes : Notes) : Type 0 where
  pub table : PartitionTable
  pub found : IsSizedTable old new size table
  pub printed : Appends written now_written (listed_text table)
  pub noted : IsNoted notes (warning_text new table)

-- there is no table, room for a label was refused, or a line can't be written
abbrev pub IsPrintEnd : Device → Device → SectorSize → Bool → PrintFault → Type 0
IsPrintEnd old new size failed NoMemory = IsOutOfMemory name_room
IsPrintEnd old new size failed (Table fault) = IsNoSizedTable old new size fault
IsPrintEnd old new size failed Write = failed ≡ true

-- a partition's line isn't written: room for its label was refused, or the writer failed
abbrev pub IsSayEnd : Bool → PrintFault → Type 0
IsSayEnd failed NoMemory = IsOutOfMemory name_room
IsSayEnd failed (Table fault) = ⊥
IsSayEnd failed Write = failed ≡ true

-- there is no table
abbrev pub IsTableless : PrintFault → Type 0
IsTableless (Table fault) = Unit {0}
IsTableless fault = ⊥

-- what is printed among the errors if the lines end so
abbrev pub FailsNoted : Device → SectorSize → Notes → PrintFault → Type 0
FailsNoted device size notes fault = AreNotes (IsTableless fault) device size notes

-- ---- as a call sees them

abbrev pub PrintsTableOf : {D W : Type 0} → (D → Device) → D → D → (W → Option (List ℕ)) → CountedRecord W → CountedRecord W → SectorSize → Notes → Type 0
PrintsTableOf state device device' contents writer writer' size notes =
    PrintsTable (state device) (state device') size (contents writer.inner) (contents writer'.inner) notes
