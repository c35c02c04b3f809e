-- What `partitions`, `--json` and `--stack` print of an image if they succeed, and how commands on partitions end early.
use Rattle.std.specs.Prelude.{◌≡◌, ◌⊎◌, ℕ, Bool, true, false, List, Option}
use Rattle.std.specs.Io.KnownBytes.{Appends}
use Rattle.allocation.specs.Refusal.{IsOutOfMemory}
use Rattle.block_device.specs.Device.{Device}
use Rattle.program_io.specs.Counted.{CountedRecord}
use Rattle.image_files.specs.declared.images.OpenImage.{OpenImage}
use Rattle.image_files.specs.declared.opening.UnopenedFile.{UnopenedFile}
use Rattle.image_files.specs.Opened.{Opens, Refuses}
use Rattle.image_files.specs.Opener.{Calls, Opener, calls}
use Rattle.partition_table.specs.declared.sector_size.SectorSize.{SectorSize}
use Rattle.partition_table.specs.declared.table.PartitionTable.{PartitionTable}
use Rattle.partition_table.specs.Tables.{IsNoSizedTable, IsSizedTable}
use Rattle.partition_commands.specs.declared.fault.PartitionsFault.{PartitionsFault}
use Rattle.partition_commands.specs.declared.fault.PartitionsFault.TheVariants.{NoMemory, NotLoadable, Open, Pin, Refused, Write}
use Rattle.partition_commands.specs.declared.plan.StackPlan.{StackPlan}
use Rattle.partition_commands.specs.declared.refusal.PartitionRefusal.TheVariants.{OutsideDevice, Table}
use Rattle.partition_table.specs.Labels.{name_room}
use Rattle.partition_commands.specs.Loads.{IsStackUnloadable, Loads, stack_room}
use Rattle.partition_commands.specs.Parts.{are_within}
use Rattle.partition_commands.specs.Stacks.{entries_text}
use Rattle.stack_files.specs.Warnings.{IsNoted, Notes}
use Rattle.partition_commands.specs.Warnings.{AreNotes, warning_text}

-- a text of the table that was found on the device was written, and its warnings among the errors
pub record PrintsPartitions (old new : Device) (size : SectorSize) (text : PartitionTable → List ℕ) (written now_written : Option (List ℕ)) (notes : Notes) : Type 0 where
  pub table : PartitionTable
  pub found : IsSizedTable old new size table
  pub printed : Appends written now_written (text table)
  pub noted : IsNoted notes (warning_text new table)

-- the stack text of a table whose partitions all end on the device; it loads over the disk
pub record PrintsEntries (old new : Device) (plan : StackPlan) (written now_written : Option (List ℕ)) (notes : Notes) : Type 0 where
  pub table : PartitionTable
  pub found : IsSizedTable old new plan.size table
  pub within : are_within new table.size table.partitions.items ≡ true
  pub loads : Loads plan.writable new.size (entries_text plan.writable table)
  pub printed : Appends written now_written (entries_text plan.writable table)
  pub noted : IsNoted notes (warning_text new table)

-- this text of the partition table of the image under the path, which is only read, was printed
pub record PrintsOfImage {S D : Type 0} (w : Calls S D) (path : List ℕ) (size : SectorSize) (text : PartitionTable → List ℕ) (old new : Option (List ℕ)) (notes : Notes) : Type 0 where
  pub image : OpenImage D
  pub device' : D
  pub opened : Opens w path false image
  pub prints : PrintsPartitions (w.state image.device) (w.state device') size text old new notes

pub record PrintsEntriesOfImage {S D : Type 0} (w : Calls S D) (path : List ℕ) (plan : StackPlan) (old new : Option (List ℕ)) (notes : Notes) : Type 0 where
  pub image : OpenImage D
  pub device' : D
  pub opened : Opens w path false image
  pub prints : PrintsEntries (w.state image.device) (w.state device') plan old new notes

-- there is no table, memory ran out for that cause, or a text can't be written
abbrev pub IsLabelEnd : Type 0 → Device → Device → SectorSize → Bool → PartitionsFault → Type 0
IsLabelEnd memory old new size failed NoMemory = memory
IsLabelEnd memory old new size failed Write = failed ≡ true
IsLabelEnd memory old new size failed (Refused (Table fault)) = IsNoSizedTable old new size fault
IsLabelEnd memory old new size failed fault = ⊥

-- of lines: room for a label was refused
abbrev pub IsLinesEnd : Device → Device → SectorSize → Bool → PartitionsFault → Type 0
IsLinesEnd old new size failed fault = IsLabelEnd (IsOutOfMemory name_room) old new size failed fault

-- of an object: the table was found, and memory ran out within `serde_json`, which makes no evidence
abbrev pub IsObjectEnd : Device → Device → SectorSize → Bool → PartitionsFault → Type 0
IsObjectEnd old new size failed fault = IsLabelEnd ((table : PartitionTable) × IsSizedTable old new size table) old new size failed fault

-- a table was found, and a partition ends past the end of the device
pub record EndsOutside (old new : Device) (size : SectorSize) : Type 0 where
  pub table : PartitionTable
  pub found : IsSizedTable old new size table
  pub outside : are_within new table.size table.partitions.items ≡ false

-- a table was found whose partitions all end on the device, and `load` would refuse its stack text over the disk
pub record EndsUnloadable (old new : Device) (plan : StackPlan) : Type 0 where
  pub table : PartitionTable
  pub found : IsSizedTable old new plan.size table
  pub within : are_within new table.size table.partitions.items ≡ true
  pub unloadable : IsStackUnloadable plan.writable new.size table.size table.partitions.items

-- why no stack text is printed: there is no table, a partition ends past the end, the text doesn't load, room was refused, or the
-- text can't be written
abbrev pub IsEntriesEnd : Device → Device → StackPlan → Bool → PartitionsFault → Type 0
IsEntriesEnd old new plan failed NoMemory = IsOutOfMemory stack_room
IsEntriesEnd old new plan failed Write = failed ≡ true
IsEntriesEnd old new plan failed NotLoadable = EndsUnloadable old new plan
IsEntriesEnd old new plan failed (Refused (Table fault)) = IsNoSizedTable old new plan.size fault
IsEntriesEnd old new plan failed (Refused OutsideDevice) = EndsOutside old new plan.size
IsEntriesEnd old new plan failed fault = ⊥

-- an image isn't opened, as is said of it
abbrev pub IsImageUnopened : (UnopenedFile → Type 0) → PartitionsFault → Type 0
IsImageUnopened Because (Open file) = Because file
IsImageUnopened Because fault = ⊥

-- the image is opened, and then the command ends early, as is said of the device before and after it
pub record EndsOfImage {S D : Type 0} (w : Calls S D) (path : List ℕ) (ends : Device → Device → PartitionsFault → Type 0) (fault : PartitionsFault) : Type 0 where
  pub image : OpenImage D
  pub device' : D
  pub opened : Opens w path false image
  pub ended : ends (w.state image.device) (w.state device') fault

abbrev pub IsOpenedEnd : {S D : Type 0} → Calls S D → List ℕ → (Device → Device → PartitionsFault → Type 0) → PartitionsFault → Type 0
IsOpenedEnd w path ends fault = IsImageUnopened (Refuses w path false) fault ⊎ EndsOfImage w path ends fault

-- the command ended before there was a table, maybe since a pin wasn't read
abbrev pub EndsTableless : PartitionsFault → Type 0
EndsTableless (Open file) = Unit {0}
EndsTableless (Pin fault) = Unit {0}
EndsTableless (Refused (Table fault)) = Unit {0}
EndsTableless fault = ⊥

-- what is printed among the errors if a command on a device ends so
abbrev pub EndsNoted : Device → SectorSize → Notes → PartitionsFault → Type 0
EndsNoted device size notes fault = AreNotes (EndsTableless fault) device size notes

-- what was printed among the errors, of the image under the path: if it isn't opened, nothing
pub record NotesOfImage {S D : Type 0} (w : Calls S D) (path : List ℕ) (size : SectorSize) (notes : Notes) (fault : PartitionsFault) : Type 0 where
  pub image : OpenImage D
  pub opened : Opens w path false image
  pub noted : EndsNoted (w.state image.device) size notes fault

abbrev pub AreImageNotes : {S D : Type 0} → Calls S D → List ℕ → SectorSize → Notes → PartitionsFault → Type 0
AreImageNotes w path size notes fault = (EndsTableless fault × (notes.new ≡ notes.old)) ⊎ NotesOfImage w path size notes fault

-- ---- as a call sees them: what a proof sees of an opener, a device or a writer, and these before and after

-- a text of the table of a device, or of an image, and the stack text
abbrev pub Prints : {D W : Type 0} → (D → Device) → D → D → (W → Option (List ℕ)) → CountedRecord W → CountedRecord W → SectorSize → (PartitionTable → List ℕ) → Notes → Type 0
Prints state device device' contents writer writer' size text notes =
    PrintsPartitions (state device) (state device') size text (contents writer.inner) (contents writer'.inner) notes

abbrev pub PrintsEntriesOf : {D W : Type 0} → (D → Device) → D → D → (W → Option (List ℕ)) → CountedRecord W → CountedRecord W → StackPlan → Notes → Type 0
PrintsEntriesOf state device device' contents writer writer' plan notes =
    PrintsEntries (state device) (state device') plan (contents writer.inner) (contents writer'.inner) notes

abbrev pub PrintsImage : {S D W : Type 0} → Opener S D → (D → Device) → S → S → (W → Option (List ℕ)) → CountedRecord W → CountedRecord W → List ℕ → SectorSize → (PartitionTable → List ℕ) → Notes → Type 0
PrintsImage relations state images images' contents writer writer' path size text notes =
    PrintsOfImage (calls relations state images images') path size text (contents writer.inner) (contents writer'.inner) notes

abbrev pub PrintsStackOf : {S D W : Type 0} → Opener S D → (D → Device) → S → S → (W → Option (List ℕ)) → CountedRecord W → CountedRecord W → List ℕ → StackPlan → Notes → Type 0
PrintsStackOf relations state images images' contents writer writer' path plan notes =
    PrintsEntriesOfImage (calls relations state images images') path plan (contents writer.inner) (contents writer'.inner) notes

abbrev pub FailsToPrint : {S D W : Type 0} → Opener S D → (D → Device) → S → S → CountedRecord W → List ℕ → SectorSize → PartitionsFault → Type 0
FailsToPrint relations state images images' writer' path size = IsOpenedEnd (calls relations state images images') path (λ old new. IsLinesEnd old new size writer'.failed)

abbrev pub FailsToPrintObject : {S D W : Type 0} → Opener S D → (D → Device) → S → S → CountedRecord W → List ℕ → SectorSize → PartitionsFault → Type 0
FailsToPrintObject relations state images images' writer' path size = IsOpenedEnd (calls relations state images images') path (λ old new. IsObjectEnd old new size writer'.failed)

abbrev pub FailsToStack : {S D W : Type 0} → Opener S D → (D → Device) → S → S → CountedRecord W → List ℕ → StackPlan → PartitionsFault → Type 0
FailsToStack relations state images images' writer' path plan = IsOpenedEnd (calls relations state images images') path (λ old new. IsEntriesEnd old new plan writer'.failed)

-- what was printed among the errors
abbrev pub NotesImage : {S D : Type 0} → Opener S D → (D → Device) → S → S → List ℕ → SectorSize → Notes → PartitionsFault → Type 0
NotesImage relations state images images' path size notes = AreImageNotes (calls relations state images images') path size notes
