-- What `partitions --root` and `--pin` print of an image if they succeed, and how they end early.
use Rattle.std.specs.Prelude.{◌≡◌, ◌⊎◌, ℕ, ◌++◌, Bool, true, false, List, Option, None, Ok, Err, option_map}
use Rattle.std.specs.Io.KnownBytes.{Appends}
use Rattle.allocation.specs.Refusal.{IsOutOfMemory}
use Rattle.block_device.specs.Device.{Device}
use Rattle.command_line.specs.FecFiles.{FecRecord, fec_record}
use Rattle.program_io.specs.Counted.{CountedRecord}
use Rattle.device_adapters.specs.declared.part.Part.{Part}
use Rattle.device_adapters.specs.Parts.{LiesInside}
use Rattle.device_adapters.specs.Windows.{windowed}
use Rattle.image_files.specs.declared.images.OpenImage.{OpenImage}
use Rattle.image_files.specs.Opened.{Opens, Refuses}
use Rattle.image_files.specs.Opener.{Calls, Opener, calls}
use Rattle.image_commands.specs.declared.fault.ImageFault.{ImageFault}
use Rattle.image_pin.specs.declared.trusted.TrustedRoot.{TrustedRoot}
use Rattle.image_pin.specs.Finding.{IsTreeUnpinned}
use Rattle.image_commands.specs.PinFiles.{IsPinFileEnd}
use Rattle.image_pin.specs.PinnedReads.{mismatch_of}
use Rattle.image_pin.specs.declared.pin.Pin.{Pin as ImagePin}
use Rattle.image_pin.specs.declared.pinned.PinnedFault.{PinnedFault}
use Rattle.image_pin.specs.declared.pinned.PinnedFault.TheVariants as pinned
use Rattle.partition_table.specs.declared.partition.Partition.{Partition}
use Rattle.partition_table.specs.declared.sector_size.SectorSize.{SectorSize}
use Rattle.partition_table.specs.declared.table.NoTable.{NoTable}
use Rattle.partition_table.specs.declared.table.PartitionTable.{PartitionTable}
use Rattle.partition_table.specs.Tables.{IsNoSizedTable, IsSizedTable}
use Rattle.verity_commands.specs.Places.{TellsPin}
use Rattle.verity_format.specs.Blocks.{IsOnlyRead}
use Rattle.verity_format.specs.declared.verifying.VerifyFault.TheVariants.{TooSmall}
use Rattle.verity_format.specs.Superblock.{SuperRecord}
use Rattle.verity_format.specs.Verifying.{IsReadCause, IsReadFrom}
use Rattle.partition_commands.specs.declared.fault.PartitionsFault.{PartitionsFault}
use Rattle.partition_commands.specs.declared.fault.PartitionsFault.TheVariants.{Fec, NoMemory, NotLoadable, Open, Pin, Refused, Write}
use Rattle.partition_commands.specs.declared.parity.ImageParity.{ImageParity}
use Rattle.partition_commands.specs.declared.plan.ImagePlan.{ImagePlan}
use Rattle.partition_commands.specs.declared.plan.StackPlan.{StackPlan}
use Rattle.partition_commands.specs.declared.refusal.PartitionRefusal.{PartitionRefusal}
use Rattle.partition_commands.specs.declared.refusal.PartitionRefusal.TheVariants.{OutsideDevice, Superblock, Table, Unpinned}
use Rattle.partition_commands.specs.declared.root.ImagePartitions.{ImagePartitions}
use Rattle.partition_commands.specs.Commands.{EndsTableless, IsImageUnopened, NotesOfImage}
use Rattle.partition_commands.specs.Loads.{IsUnloadable, Loads}
use Rattle.image_files.specs.Partitions.{part_of}
use Rattle.partition_commands.specs.Parities.{HasParity, LacksParity}
use Rattle.partition_commands.specs.Parts.{is_within}
use Rattle.partition_commands.specs.RootStacks.{image_room, image_stack_text, is_unfit, root_stack_text}
use Rattle.partition_commands.specs.Roots.{image_partitions}
use Rattle.partition_commands.specs.Signatures.{SeeksSignature, signature_entry}
use Rattle.stack_files.specs.Warnings.{IsNoted, Notes}
use Rattle.partition_commands.specs.Warnings.{warning_text}

-- the size of sectors, whether `data` is writable, and the argument of the parity's partition
pub record ImagePlanRecord : Type 0 where
  pub stack : StackPlan
  pub fec : Option FecRecord

-- both partitions lie inside the device, the superblock was read in the verity partition, it has the values of the pin, if there
-- is one, and they have the sectors of its data blocks and of its tree
pub record IsFitting (device : Device) (size : SectorSize) (both : ImagePartitions) (pin : Option ImagePin) (super : SuperRecord) : Type 0 where
  pub sector : List ℕ
  pub within : is_within device (part_of size both.data) ≡ true
  pub inside : LiesInside device (part_of size both.verity)
  pub read : IsReadFrom (windowed device (part_of size both.verity)) sector super
  pub pinned : mismatch_of pin super ≡ None
  pub fits : is_unfit size both super ≡ false

-- the two partitions of the root were found on the device, the one with its signature was sought, and then the superblock was found
-- in the verity partition. The devices are those that calls left.
pub record FindsPair {D : Type 0} (state : D → Device) (device : D) (size : SectorSize) (trusted : TrustedRoot) : Type 0 where
  pub table : PartitionTable
  pub read_device : D
  pub found : IsSizedTable (state device) (state read_device) size table
  pub both : ImagePartitions
  pub both_is : image_partitions table.partitions.items trusted.root ≡ Ok both
  pub signed_device : D
  pub signed : Option Partition
  pub sought : SeeksSignature (state read_device) (state signed_device) table.size trusted.root table.partitions.items signed
  pub super : SuperRecord
  pub fitting : IsFitting (state signed_device) table.size both trusted.pin super

-- the text of the stack over them, and of the signature's partition
abbrev pub pair_text : {D : Type 0} {state : D → Device} {device : D} {size : SectorSize} {trusted : TrustedRoot} → Bool → FindsPair state device size trusted → List ℕ
pair_text {D} {state} {device} {size} {trusted} writable pair = root_stack_text writable pair.table.size pair.both pair.super trusted.root ++ signature_entry pair.table.size pair.signed

-- the text of the same stack with parity, if there is one
abbrev pub image_text : {D : Type 0} {state : D → Device} {device : D} {size : SectorSize} {trusted : TrustedRoot} → Bool → FindsPair state device size trusted → Option ImageParity → List ℕ
image_text {D} {state} {device} {size} {trusted} writable pair parity =
    image_stack_text writable pair.table.size pair.both pair.super trusted.root parity ++ signature_entry pair.table.size pair.signed

-- the parity of the image, if the plan names its partition
abbrev pub HasParityOf : {D : Type 0} {state : D → Device} {device : D} {size : SectorSize} {trusted : TrustedRoot} → FindsPair state device size trusted → Option FecRecord → Option ImageParity → Type 0
HasParityOf {D} {state} {device} {size} {trusted} pair fec parity = HasParity (state pair.signed_device).size pair.table pair.both pair.super fec parity

-- they were found, and the parity, and their text loads and was written
pub record PrintsRoot {D : Type 0} (state : D → Device) (device : D) (plan : ImagePlanRecord) (trusted : TrustedRoot) (old new : Option (List ℕ)) (notes : Notes) : Type 0 where
  pub pair : FindsPair state device plan.stack.size trusted
  pub parity : Option ImageParity
  pub has : HasParityOf pair plan.fec parity
  pub loads : Loads plan.stack.writable (state pair.signed_device).size (image_text plan.stack.writable pair parity)
  pub printed : Appends old new (image_text plan.stack.writable pair parity)
  pub noted : IsNoted notes (warning_text (state pair.read_device) pair.table)

pub record PrintsRootOfImage {S D : Type 0} (w : Calls S D) (path : List ℕ) (plan : ImagePlanRecord) (trusted : TrustedRoot) (old new : Option (List ℕ)) (notes : Notes) : Type 0 where
  pub image : OpenImage D
  pub opened : Opens w path false image
  pub prints : PrintsRoot w.state image.device plan trusted old new notes

-- a table was found, but not the two partitions
pub record LacksPartitions {D : Type 0} (state : D → Device) (device : D) (size : SectorSize) (root : List ℕ) (refusal : PartitionRefusal) : Type 0 where
  pub table : PartitionTable
  pub read_device : D
  pub found : IsSizedTable (state device) (state read_device) size table
  pub refused : image_partitions table.partitions.items root ≡ Err refusal

-- with which refusal a command ends if a part of the device has no superblock of the pin
abbrev pub unpinned_refusal : PinnedFault → PartitionRefusal
unpinned_refusal (pinned.Unread fault) = Superblock fault
unpinned_refusal (pinned.Unpinned mismatch) = Unpinned mismatch

-- why there is no superblock of a pin in a part of a device
abbrev pub IsPartSuperEnd : Device → Device → Part → Option ImagePin → PartitionRefusal → Type 0
IsPartSuperEnd old new part pin OutsideDevice = LiesInside old part → ⊥
IsPartSuperEnd old new part pin (Superblock fault) = IsReadCause (windowed old part) (windowed new part) fault
IsPartSuperEnd old new part pin (Unpinned mismatch) = IsTreeUnpinned (windowed old part) pin mismatch
IsPartSuperEnd old new part pin refusal = ⊥

-- the superblock was read, it has the values of the pin, if there is one, and a partition has fewer sectors than its data blocks or
-- its tree
pub record IsUnfitting (device : Device) (size : SectorSize) (both : ImagePartitions) (pin : Option ImagePin) : Type 0 where
  pub super : SuperRecord
  pub sector : List ℕ
  pub read : IsReadFrom (windowed device (part_of size both.verity)) sector super
  pub pinned : mismatch_of pin super ≡ None
  pub unfit : is_unfit size both super ≡ true

-- why the two partitions don't hold an image: first, that of the data ends past the end of the device; else there is no superblock of
-- the pin in that of the tree, or one of both is too small
abbrev pub IsPairEnd : Device → Device → SectorSize → ImagePartitions → Option ImagePin → PartitionRefusal → Type 0
IsPairEnd old new size both pin refusal =
    ((refusal ≡ OutsideDevice) × (is_within old (part_of size both.data) ≡ false))
    ⊎ ((is_within old (part_of size both.data) ≡ true) × (IsPartSuperEnd old new (part_of size both.verity) pin refusal ⊎ ((refusal ≡ Superblock TooSmall) × IsUnfitting old size both pin)))

-- Both were found, but don't hold an image. The devices are those that calls left, so that a failed call came after the table was read
-- and the signature was sought.
pub record LacksSuperblock {D : Type 0} (state : D → Device) (device device' : D) (size : SectorSize) (trusted : TrustedRoot) (refusal : PartitionRefusal) : Type 0 where
  pub table : PartitionTable
  pub read_device : D
  pub found : IsSizedTable (state device) (state read_device) size table
  pub both : ImagePartitions
  pub both_is : image_partitions table.partitions.items trusted.root ≡ Ok both
  pub signed_device : D
  pub read : IsOnlyRead (state read_device) (state signed_device)
  pub ends : IsPairEnd (state signed_device) (state device') table.size both trusted.pin refusal

-- there is no table
pub record LacksTable {D : Type 0} (state : D → Device) (device : D) (size : SectorSize) (refusal : PartitionRefusal) : Type 0 where
  pub fault : NoTable
  pub read_device : D
  pub none : IsNoSizedTable (state device) (state read_device) size fault
  pub is : refusal ≡ Table fault

-- both hold an image, and the parity that the plan names isn't found or doesn't cover it
pub record LacksParityOf {D : Type 0} (state : D → Device) (device : D) (plan : ImagePlanRecord) (trusted : TrustedRoot) (fault : PartitionsFault) : Type 0 where
  pub pair : FindsPair state device plan.stack.size trusted
  pub lacks : LacksParity (state pair.signed_device).size pair.table pair.both pair.super plan.fec fault

-- both hold an image, and room for its text, or for the check of it, was refused
pub record RefusesText {D : Type 0} (state : D → Device) (device : D) (plan : ImagePlanRecord) (trusted : TrustedRoot) : Type 0 where
  pub pair : FindsPair state device plan.stack.size trusted
  pub parity : Option ImageParity
  pub has : HasParityOf pair plan.fec parity
  pub refused : IsOutOfMemory (image_room pair.super trusted.root parity)

-- both hold an image, and `load` would refuse its text over the disk
pub record LacksLoad {D : Type 0} (state : D → Device) (device : D) (plan : ImagePlanRecord) (trusted : TrustedRoot) : Type 0 where
  pub pair : FindsPair state device plan.stack.size trusted
  pub parity : Option ImageParity
  pub has : HasParityOf pair plan.fec parity
  pub unloadable : IsUnloadable plan.stack.writable (state pair.signed_device).size (image_text plan.stack.writable pair parity)

-- one of these but parity, or the text can't be written
abbrev pub IsImageTextEnd : {D : Type 0} → (D → Device) → ImagePlanRecord → TrustedRoot → Bool → D → PartitionsFault → Type 0
IsImageTextEnd state plan trusted failed device NoMemory = RefusesText state device plan trusted
IsImageTextEnd state plan trusted failed device Write = failed ≡ true
IsImageTextEnd state plan trusted failed device NotLoadable = LacksLoad state device plan trusted
IsImageTextEnd state plan trusted failed device (Open file) = ⊥
IsImageTextEnd state plan trusted failed device (Pin fault) = ⊥
IsImageTextEnd state plan trusted failed device (Fec fault) = ⊥
IsImageTextEnd {D} state plan trusted failed device (Refused refusal) =
    LacksTable state device plan.stack.size refusal
    ⊎ (LacksPartitions state device plan.stack.size trusted.root refusal ⊎ ((device' : D) × LacksSuperblock state device device' plan.stack.size trusted refusal))

abbrev pub IsRootTextEnd : {D : Type 0} → (D → Device) → ImagePlanRecord → TrustedRoot → Bool → D → PartitionsFault → Type 0
IsRootTextEnd state plan trusted failed device fault = IsImageTextEnd state plan trusted failed device fault ⊎ LacksParityOf state device plan trusted fault

pub record EndsRoot {S D : Type 0} (w : Calls S D) (path : List ℕ) (plan : ImagePlanRecord) (trusted : TrustedRoot) (failed : Bool) (fault : PartitionsFault) : Type 0 where
  pub image : OpenImage D
  pub opened : Opens w path false image
  pub ended : IsRootTextEnd w.state plan trusted failed image.device fault

abbrev pub IsRootOfImageEnd : {S D : Type 0} → Calls S D → List ℕ → ImagePlanRecord → TrustedRoot → Bool → PartitionsFault → Type 0
IsRootOfImageEnd w path plan trusted failed fault = IsImageUnopened (Refuses w path false) fault ⊎ EndsRoot w path plan trusted failed fault

-- ---- with a pin

-- the pin of a file was read before the image was opened, and then the stack of its root was printed
pub record PrintsPinned {S D : Type 0} (w : Calls S D) (pin path : List ℕ) (plan : ImagePlanRecord) (old new : Option (List ℕ)) (notes : Notes) : Type 0 where
  pub between : S
  pub trusted : TrustedRoot
  pub told : TellsPin (record w { new = between }) pin trusted
  pub prints : PrintsRootOfImage (record w { old = between }) path plan trusted old new notes

-- no pin was read, as is said of it
abbrev pub IsPinUnread : (ImageFault → Type 0) → PartitionsFault → Type 0
IsPinUnread Because (Pin fault) = Because fault
IsPinUnread Because fault = ⊥

-- it was read, and then the command ended early
pub record EndsPinned {S D : Type 0} (w : Calls S D) (pin path : List ℕ) (plan : ImagePlanRecord) (failed : Bool) (fault : PartitionsFault) : Type 0 where
  pub between : S
  pub trusted : TrustedRoot
  pub told : TellsPin (record w { new = between }) pin trusted
  pub ended : IsRootOfImageEnd (record w { old = between }) path plan trusted failed fault

abbrev pub IsPinnedEnd : {S D : Type 0} → Calls S D → List ℕ → List ℕ → ImagePlanRecord → Bool → PartitionsFault → Type 0
IsPinnedEnd w pin path plan failed fault = IsPinUnread (IsPinFileEnd w pin) fault ⊎ EndsPinned w pin path plan failed fault

-- what was printed among the errors: nothing, if there was no table yet
abbrev pub ArePinnedNotes : {S D : Type 0} → Calls S D → List ℕ → SectorSize → Notes → PartitionsFault → Type 0
ArePinnedNotes {S} {D} w path size notes fault =
    (EndsTableless fault × (notes.new ≡ notes.old)) ⊎ ((between : S) × NotesOfImage (record w { old = between }) path size notes fault)

-- ---- as a call sees them

-- what the program's own value says
abbrev pub image_plan : ImagePlan → ImagePlanRecord
image_plan plan = record { stack = plan.stack; fec = option_map fec_record plan.fec }

abbrev pub SaysRoot : {D W : Type 0} → (D → Device) → D → (W → Option (List ℕ)) → CountedRecord W → CountedRecord W → ImagePlan → TrustedRoot → Notes → Type 0
SaysRoot state device contents writer writer' plan trusted notes = PrintsRoot state device (image_plan plan) trusted (contents writer.inner) (contents writer'.inner) notes

abbrev pub PrintsRootOf : {S D W : Type 0} → Opener S D → (D → Device) → S → S → (W → Option (List ℕ)) → CountedRecord W → CountedRecord W → List ℕ → ImagePlan → TrustedRoot → Notes → Type 0
PrintsRootOf relations state images images' contents writer writer' path plan trusted notes =
    PrintsRootOfImage (calls relations state images images') path (image_plan plan) trusted (contents writer.inner) (contents writer'.inner) notes

abbrev pub FailsToFindRoot : {S D W : Type 0} → Opener S D → (D → Device) → S → S → CountedRecord W → List ℕ → ImagePlan → TrustedRoot → PartitionsFault → Type 0
FailsToFindRoot relations state images images' writer' path plan trusted = IsRootOfImageEnd (calls relations state images images') path (image_plan plan) trusted writer'.failed

abbrev pub PrintsPinnedOf : {S D W : Type 0} → Opener S D → (D → Device) → S → S → (W → Option (List ℕ)) → CountedRecord W → CountedRecord W → List ℕ → List ℕ → ImagePlan → Notes → Type 0
PrintsPinnedOf relations state images images' contents writer writer' pin path plan notes =
    PrintsPinned (calls relations state images images') pin path (image_plan plan) (contents writer.inner) (contents writer'.inner) notes

abbrev pub FailsToFindPinned : {S D W : Type 0} → Opener S D → (D → Device) → S → S → CountedRecord W → List ℕ → List ℕ → ImagePlan → PartitionsFault → Type 0
FailsToFindPinned relations state images images' writer' pin path plan = IsPinnedEnd (calls relations state images images') pin path (image_plan plan) writer'.failed

abbrev pub NotesPinned : {S D : Type 0} → Opener S D → (D → Device) → S → S → List ℕ → SectorSize → Notes → PartitionsFault → Type 0
NotesPinned relations state images images' path size notes = ArePinnedNotes (calls relations state images images') path size notes
