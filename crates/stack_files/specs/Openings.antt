-- How a command ends if a file can't be opened or read.
use Rattle.std.specs.Global.{Global}
use Rattle.std.specs.Prelude.{◌≡◌, ◌⊎◌, ℕ, ◌+◌, ◌*◌, ◌^◌, ◌<◌, ◌≤◌, List, ◌∷◌, ◌++◌, length, map, option_map, Vec}
use Rattle.std.specs.List.{sum_by}
use Rattle.allocation.specs.Refusal.{IsOutOfMemory}
use Rattle.block_device.specs.declared.open_fault.OpenFault.TheVariants.{NotFound}
use Rattle.block_device.specs.Device.{Device}
use Rattle.command_line.specs.Bindings.{BackingRecord, BindingRecord, backing_record, binding_record, file, mapped, part, partition, ramp, zeros}
use Rattle.command_line.specs.declared.bindings.Backing.{Backing}
use Rattle.command_line.specs.declared.bindings.Binding.{Binding}
use Rattle.image_files.specs.Apart.{RefusesApart}
use Rattle.image_files.specs.declared.file_use.FileUse.{FileUse}
use Rattle.image_files.specs.declared.images.FileText.{FileText}
use Rattle.image_files.specs.declared.opening.UnopenedFile.{UnopenedFile}
use Rattle.image_files.specs.Opened.{RefusesText, TellsFile}
use Rattle.image_files.specs.declared.parts.UnopenedPart.{UnopenedPart}
use Rattle.image_files.specs.declared.parts.UnopenedPart.TheVariants as unopened_part
use Rattle.image_files.specs.Opener.{Calls, Opener, calls}
use Rattle.image_files.specs.OpenParts.{RefusesPart}
use Rattle.stack_files.specs.declared.opening_fault.OpeningFault.{OpeningFault}
use Rattle.stack_files.specs.declared.opening_fault.OpeningFault.TheVariants.{NoMemory, Open, Outside, TooLong}
use Rattle.image_files.specs.Places.{device_part}
use Rattle.stack_files.specs.Bindings.{OpensBacking, OpensEach, backings_of}
use Rattle.stack_files.specs.MappedFiles.{RefusesMapped}

-- a part of a file can't be opened
abbrev pub part_ending : UnopenedPart → OpeningFault
part_ending (unopened_part.File unopened) = Open unopened
part_ending (unopened_part.Outside path) = Outside path

-- a file can't be opened or read, with this fault
abbrev pub IsFileUnopened : (UnopenedFile → Type 0) → OpeningFault → Type 0
IsFileUnopened Refused (Open unopened) = Refused unopened
IsFileUnopened Refused fault = ⊥

-- the text at STACK's path was read; it has at most 1 MiB
pub record TellsStack {S D : Type 0} (w : Calls S D) (path : List ℕ) (text : FileText) : Type 0 where
  pub told : TellsFile w path (2 ^ 20 + 1) text
  pub short : length text.bytes.items ≤ 2 ^ 20

-- the text has more than 1 MiB
pub record TellsLongText {S D : Type 0} (w : Calls S D) (path : List ℕ) : Type 0 where
  pub text : FileText
  pub told : TellsFile w path (2 ^ 20 + 1) text
  pub long : 2 ^ 20 < length text.bytes.items

-- the text is too long, or couldn't be read
abbrev pub IsTextEnd : {S D : Type 0} → Calls S D → List ℕ → OpeningFault → Type 0
IsTextEnd w path TooLong = TellsLongText w path
IsTextEnd w path fault = IsFileUnopened (RefusesText w path (2 ^ 20 + 1)) fault

-- one sector more than a write may have, in bytes
abbrev pub most_source : ℕ
most_source = 2049 * 512

-- nothing was opened or made
abbrev pub IsIdle : {S D : Type 0} → Calls S D → Type 0
IsIdle w = w.new ≡ w.old

-- a partition that isn't resolved is not found, and nothing is opened
pub record IsUnresolved {S D : Type 0} (w : Calls S D) (path : List ℕ) (unopened : UnopenedFile) : Type 0 where
  pub path_is : unopened.path.now ≡ path
  pub fault_is : unopened.fault ≡ NotFound
  pub same : w.new ≡ w.old

-- the image of a binding, or its part of one, can't be opened
abbrev pub RefusesBacking : {S D : Type 0} → Calls S D → List FileUse → BackingRecord → OpeningFault → Type 0
RefusesBacking w files (file path writable) (Open unopened) = RefusesApart w files path writable unopened
RefusesBacking w files (part path writable at) (Open unopened) = RefusesPart w files path writable (device_part at) (unopened_part.File unopened)
RefusesBacking w files (part path writable at) (Outside of) = RefusesPart w files path writable (device_part at) (unopened_part.Outside of)
RefusesBacking w files (partition path writable named) (Open unopened) = IsUnresolved w path unopened
RefusesBacking w files (mapped path map_file at) fault = RefusesMapped w files path map_file (option_map device_part at) fault
RefusesBacking w files backing fault = ⊥

-- the most elements that one allocation requests for a binding's device: its sectors in memory, or one more open file
abbrev pub backing_room : BackingRecord → ℕ
backing_room (file path writable) = 1
backing_room (part path writable at) = 1
backing_room (partition path writable named) = 0
backing_room (mapped path map_file at) = 1
backing_room (zeros n) = n * 512
backing_room (ramp n) = n * 512

-- the most elements that one allocation requests for a binding: its name, its backing device and device, and what these hold
abbrev pub binding_room : BindingRecord → ℕ
binding_room binding = length binding.name + 1 + backing_room binding.backing

-- no allocation for bindings next to open files requests more
abbrev pub bindings_room : List FileUse → List BindingRecord → ℕ
bindings_room files bindings = length files + sum_by binding_room bindings

-- nothing was opened, or the binding's device was
abbrev pub IsAtBacking : {S D : Type 0} → Calls S D → List FileUse → BackingRecord → Type 0
IsAtBacking {S} {D} w files backing = IsIdle w ⊎ ((device : D) × (files' : List FileUse) × OpensBacking w files backing device files')

-- the binding's device can't be opened, or an allocation was refused before or after it was opened
abbrev pub IsBackingEnd : {S D : Type 0} → Calls S D → List FileUse → BackingRecord → OpeningFault → Type 0
IsBackingEnd w files backing NoMemory = IsAtBacking w files backing × IsOutOfMemory (backing_room backing)
IsBackingEnd w files backing fault = RefusesBacking w files backing fault

-- the first of the bindings were opened, and the next one couldn't be
pub record RefusesBinding {S D : Type 0} (w : Calls S D) (files : List FileUse) (backings : List BackingRecord) (fault : OpeningFault) : Type 0 where
  pub first : List BackingRecord
  pub backing : BackingRecord
  pub more : List BackingRecord
  pub devices : List D
  pub files' : List FileUse
  pub between : S
  pub are : backings ≡ first ++ backing ∷ more
  pub opened : OpensEach (record w { new = between }) files first devices files'
  pub refused : RefusesBacking (record w { old = between }) files' backing fault

-- the first of the bindings were opened, and then an allocation was refused
pub record RunsOut {S D : Type 0} (w : Calls S D) (files : List FileUse) (backings : List BackingRecord) : Type 0 where
  pub first : List BackingRecord
  pub more : List BackingRecord
  pub devices : List D
  pub files' : List FileUse
  pub are : backings ≡ first ++ more
  pub opened : OpensEach w files first devices files'

-- the images of some bindings weren't all opened
abbrev pub IsBindingEnd : {S D : Type 0} → Calls S D → List FileUse → List BindingRecord → OpeningFault → Type 0
IsBindingEnd w files bindings NoMemory = RunsOut w files (backings_of bindings) × IsOutOfMemory (bindings_room files bindings)
IsBindingEnd w files bindings fault = RefusesBinding w files (backings_of bindings) fault

-- ---- in terms of the opener, before and after its calls, and the program's arguments

-- the data to be written to a device can't be read
abbrev pub RefusesSource : {S D : Type 0} → Opener S D → (D → Device) → S → S → List ℕ → UnopenedFile → Type 0
RefusesSource relations state old new path = RefusesText (calls relations state old new) path most_source

-- the device of a binding can't be opened
abbrev pub FailsToBack : {S D : Type 0} → Opener S D → (D → Device) → S → S → Vec FileUse Global → Backing → OpeningFault → Type 0
FailsToBack relations state old new files backing = IsBackingEnd (calls relations state old new) files.items (backing_record backing)

-- nor that of one that is known
abbrev pub FailsToBackAs : {S D : Type 0} → Opener S D → (D → Device) → S → S → Vec FileUse Global → BackingRecord → OpeningFault → Type 0
FailsToBackAs relations state old new files backing = IsBackingEnd (calls relations state old new) files.items backing

-- one of the bindings can't be opened
abbrev pub FailsToBindAll : {S D : Type 0} → Opener S D → (D → Device) → S → S → List FileUse → List Binding → OpeningFault → Type 0
FailsToBindAll relations state old new files bindings = IsBindingEnd (calls relations state old new) files (map binding_record bindings)
