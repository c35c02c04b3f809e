-- What the command `partitions` prints by its words, and how it ends early.
use Rattle.std.specs.Prelude.{ℕ, ◌==◌, Bool, List, None, Option, if◌then◌else◌}
use Rattle.block_device.specs.Device.{Device}
use Rattle.command_line.specs.Values.{FormRecord, lines, object, pin, root, stack}
use Rattle.command_line.specs.declared.words.partitions.PartitionsWords.{PartitionsWords}
use Rattle.command_line.specs.words.Partitions.{PartitionsRecord, partitions_record}
use Rattle.program_io.specs.Counted.{CountedRecord}
use Rattle.image_pin.specs.declared.trusted.TrustedRoot.{TrustedRoot}
use Rattle.image_files.specs.Opener.{Calls, Opener, calls}
use Rattle.partition_table.specs.declared.sector_size.SectorSize.{SectorSize}
use Rattle.partition_table.specs.declared.sector_size.SectorSize.TheVariants.{Bytes4096, Bytes512}
use Rattle.partition_commands.specs.declared.fault.PartitionsFault.{PartitionsFault}
use Rattle.partition_commands.specs.declared.plan.StackPlan.{StackPlan}
use Rattle.partition_commands.specs.Commands.{AreImageNotes, IsEntriesEnd, IsLinesEnd, IsObjectEnd, IsOpenedEnd, PrintsEntriesOfImage, PrintsOfImage}
use Rattle.partition_commands.specs.Lines.{listed_text}
use Rattle.partition_commands.specs.Loads.{IsQuiet}
use Rattle.partition_commands.specs.Objects.{object_text}
use Rattle.partition_commands.specs.RootCommands.{ArePinnedNotes, ImagePlanRecord, IsPinnedEnd, IsRootOfImageEnd, PrintsPinned, PrintsRootOfImage}
use Rattle.stack_files.specs.Warnings.{Notes}

-- the size of sectors with which a table is looked for first: 4,096 bytes, or 512
abbrev pub size_of : ℕ → SectorSize
size_of bytes = if bytes == 4096 then Bytes4096 else Bytes512

-- the size of sectors, and whether a stack is writable
abbrev pub plan_of : PartitionsRecord → StackPlan
plan_of p = record { size = size_of p.sector_size; writable = p.writable }

-- the same, and the parity
abbrev pub image_plan_of : PartitionsRecord → ImagePlanRecord
image_plan_of p = record { stack = plan_of p; fec = p.fec }

-- a root hash that comes without a pin
abbrev pub root_alone : List ℕ → TrustedRoot
root_alone digest = record { root = digest; pin = None }

abbrev pub PrintsForm : {S D : Type 0} → Calls S D → List ℕ → ImagePlanRecord → FormRecord → Option (List ℕ) → Option (List ℕ) → Notes → Type 0
PrintsForm w path plan lines old new notes = PrintsOfImage w path plan.stack.size listed_text old new notes
PrintsForm w path plan object old new notes = PrintsOfImage w path plan.stack.size object_text old new notes
PrintsForm w path plan stack old new notes = PrintsEntriesOfImage w path plan.stack old new notes
PrintsForm w path plan (root found) old new notes = PrintsRootOfImage w path plan (root_alone found) old new notes
PrintsForm w path plan (pin file) old new notes = PrintsPinned w file path plan old new notes

abbrev pub IsFormEnd : {S D : Type 0} → Calls S D → List ℕ → ImagePlanRecord → FormRecord → Bool → PartitionsFault → Type 0
IsFormEnd w path plan lines failed fault = IsOpenedEnd w path (λ old new. IsLinesEnd old new plan.stack.size failed) fault
IsFormEnd w path plan object failed fault = IsOpenedEnd w path (λ old new. IsObjectEnd old new plan.stack.size failed) fault
IsFormEnd w path plan stack failed fault = IsOpenedEnd w path (λ old new. IsEntriesEnd old new plan.stack failed) fault
IsFormEnd w path plan (root found) failed fault = IsRootOfImageEnd w path plan (root_alone found) failed fault
IsFormEnd w path plan (pin file) failed fault = IsPinnedEnd w file path plan failed fault

-- what it printed among the errors before
abbrev pub AreFormNotes : {S D : Type 0} → Calls S D → List ℕ → SectorSize → FormRecord → Notes → PartitionsFault → Type 0
AreFormNotes w path size (pin file) notes fault = ArePinnedNotes w path size notes fault
AreFormNotes w path size form notes fault = AreImageNotes w path size notes fault

-- printed before it ended: nothing, but of the lines those before the fault, or if the writer failed
abbrev pub IsFormQuiet : FormRecord → Option (List ℕ) → Option (List ℕ) → PartitionsFault → Type 0
IsFormQuiet lines old new fault = Unit {0}
IsFormQuiet form old new fault = IsQuiet old new fault

abbrev pub ListsPartitions : {S D : Type 0} → Calls S D → PartitionsRecord → Option (List ℕ) → Option (List ℕ) → Notes → Type 0
ListsPartitions w p old new notes = PrintsForm w p.image (image_plan_of p) p.form old new notes

-- why it ends early, and what it printed among the errors before
abbrev pub IsListingEnd : {S D : Type 0} → Calls S D → PartitionsRecord → Bool → Notes → PartitionsFault → Type 0
IsListingEnd w p failed notes fault = IsFormEnd w p.image (image_plan_of p) p.form failed fault × AreFormNotes w p.image (size_of p.sector_size) p.form notes fault

-- ---- as a call sees them, by the program's own words

abbrev pub ListsByWords : {S D W : Type 0} → Opener S D → (D → Device) → S → S → (W → Option (List ℕ)) → CountedRecord W → CountedRecord W → PartitionsWords → Notes → Type 0
ListsByWords relations state images images' contents writer writer' words notes =
    ListsPartitions (calls relations state images images') (partitions_record words) (contents writer.inner) (contents writer'.inner) notes

abbrev pub FailsToList : {S D W : Type 0} → Opener S D → (D → Device) → S → S → CountedRecord W → PartitionsWords → Notes → PartitionsFault → Type 0
FailsToList relations state images images' writer' words notes = IsListingEnd (calls relations state images images') (partitions_record words) writer'.failed notes

abbrev pub EndsFormQuiet : {W : Type 0} → (W → Option (List ℕ)) → CountedRecord W → CountedRecord W → PartitionsWords → PartitionsFault → Type 0
EndsFormQuiet contents writer writer' words = IsFormQuiet (partitions_record words).form (contents writer.inner) (contents writer'.inner)
