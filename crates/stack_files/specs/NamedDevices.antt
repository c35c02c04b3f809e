-- A mapped device of a stack, by its name.
use Rattle.std.specs.Prelude.{◌≡◌, ◌⊎◌, ℕ, List, Some, None, Ok}
use Rattle.block_device.specs.Device.{Device}
use Rattle.image_files.specs.declared.file_use.FileUse.{FileUse}
use Rattle.image_files.specs.declared.images.OpenImage.{OpenImage}
use Rattle.image_files.specs.FileUses.{no_use}
use Rattle.image_files.specs.Opener.{Calls, Opener, calls}
use Rattle.stack_rules.specs.Names.{device_named}
use Rattle.stack_rules.specs.Records.{Configuration}
use Rattle.stack_engine.specs.Stacks.{StackRecord}
use Rattle.stack_files.specs.declared.stack_file.OpenStack.{OpenStack}
use Rattle.stack_files.specs.declared.stack_file.StackFile.{StackFile}
use Rattle.stack_files.specs.OpenStacks.{StackWords, stack_words}
use Rattle.stack_files.specs.StacksApart.{FailsToOpenApart, FailsToOpenOutput, OpensOutput, OpensStackApart}
use Rattle.stack_files.specs.declared.device.NamedDevice.{NamedDevice}
use Rattle.stack_files.specs.declared.stack_fault.StackFault.{StackFault}
use Rattle.stack_files.specs.declared.stack_fault.StackFault.TheVariants.{NoSuchDevice}
use Rattle.stack_files.specs.Configuration.{configuration_of}
use Rattle.stack_files.specs.Endings.{IsOpeningEnd}
use Rattle.stack_files.specs.StacksOfTexts.{FailsToLoad, IsStackOf}
use Rattle.stack_files.specs.Unchecked.{NotesStack}
use Rattle.stack_files.specs.Warnings.{Notes}
use Rattle.stack_rules.specs.declared.lower.DevId.{DevId}

-- a mapped device of a stack
pub record DevicePlace : Type 0 where
  pub stack : StackRecord
  pub d : ℕ

abbrev pub device_place : StackRecord → ℕ → DevicePlace
device_place stack d = record { stack = stack; d = d }

-- the device with that name, of the stack that the text makes of the open backing devices
pub record HasDevice {D : Type 0} (state : D → Device) (name : List ℕ) (over : OpenStack D) (cache : ℕ) (at : DevicePlace) : Type 0 where
  pub made : IsStackOf state over cache at.stack
  pub named : device_named at.stack.config name ≡ Some at.d

-- the text makes a configuration without a device of that name
pub record IsUnnamed {D : Type 0} (name : List ℕ) (over : OpenStack D) (fault : StackFault) : Type 0 where
  pub config : Configuration
  pub makes : configuration_of over.leaves.items over.text.bytes.items ≡ Ok config
  pub none : device_named config name ≡ None
  pub is : fault ≡ NoSuchDevice

-- there is no such device, or the text makes no stack
abbrev pub FailsToFind : {D : Type 0} → List ℕ → OpenStack D → StackFault → Type 0
FailsToFind name over fault = FailsToLoad over fault ⊎ IsUnnamed name over fault

-- ---- with a stack file

-- a stack file and bindings, the name of a device, and how many hash blocks are cached
pub record DeviceWords : Type 0 where
  pub words : StackWords
  pub name : List ℕ
  pub cache : ℕ

abbrev pub device_words : StackWords → List ℕ → ℕ → DeviceWords
device_words words name cache = record { words = words; name = name; cache = cache }

-- a stack file and a named device
abbrev pub words_for : StackFile → NamedDevice → DeviceWords
words_for file device = device_words (stack_words file) device.name.now device.cache

-- ---- beside a file in use

-- all files were opened next to it, and there is such a device
pub record FindsApart {S D : Type 0} (w : Calls S D) (used : FileUse) (words : DeviceWords) (at : DevicePlace) : Type 0 where
  pub over : OpenStack D
  pub opened : OpensStackApart w used words.words over
  pub has : HasDevice w.state words.name over words.cache at

-- all files are open, but the text makes no stack or there is no such device
pub record FindsNoneApart {S D : Type 0} (w : Calls S D) (used : FileUse) (words : DeviceWords) (fault : StackFault) : Type 0 where
  pub over : OpenStack D
  pub opened : OpensStackApart w used words.words over
  pub fails : FailsToFind words.name over fault

abbrev pub FailsToFindApart : {S D : Type 0} → Calls S D → FileUse → DeviceWords → StackFault → Type 0
FailsToFindApart w used words fault = IsOpeningEnd (FailsToOpenApart w used words.words) fault ⊎ FindsNoneApart w used words fault

-- beside no file
abbrev pub FindsDevice : {S D : Type 0} → Calls S D → DeviceWords → DevicePlace → Type 0
FindsDevice w words at = FindsApart w no_use words at

abbrev pub FailsToFindDevice : {S D : Type 0} → Calls S D → DeviceWords → StackFault → Type 0
FailsToFindDevice w words fault = FailsToFindApart w no_use words fault

-- all files were opened, and the stack has such a device
pub record LoadsNamed {S D : Type 0} (w : Calls S D) (words : DeviceWords) (stack : StackRecord) : Type 0 where
  pub d : ℕ
  pub between : S
  pub found : FindsDevice (record w { new = between }) words (device_place stack d)

-- what is printed among the errors of its stack
abbrev pub NotesDevice : {S D : Type 0} → Calls S D → DeviceWords → Notes → Type 0
NotesDevice w words = NotesStack (LoadsNamed w words) ((fault : StackFault) × FailsToFindDevice w words fault)

-- all files and the image to copy to were opened, and there is such a device
pub record FindsOutput {S D : Type 0} (w : Calls S D) (used : FileUse) (words : DeviceWords) (out : List ℕ) (at : DevicePlace) (image : OpenImage D) : Type 0 where
  pub over : OpenStack D
  pub opened : OpensOutput w used words.words out over image
  pub has : HasDevice w.state words.name over words.cache at

-- all files are open, but the text makes no stack or there is no such device
pub record FindsNone {S D : Type 0} (w : Calls S D) (used : FileUse) (words : DeviceWords) (out : List ℕ) (fault : StackFault) : Type 0 where
  pub over : OpenStack D
  pub image : OpenImage D
  pub opened : OpensOutput w used words.words out over image
  pub fails : FailsToFind words.name over fault

abbrev pub FailsToFindOutput : {S D : Type 0} → Calls S D → FileUse → DeviceWords → List ℕ → StackFault → Type 0
FailsToFindOutput w used words out fault = IsOpeningEnd (FailsToOpenOutput w used words.words out) fault ⊎ FindsNone w used words out fault

-- ---- in terms of the opener, before and after its calls, and the program's arguments

-- a device by its name, in the stack of a text over open backing devices
abbrev pub HasNamed : {D : Type 0} → (D → Device) → OpenStack D → NamedDevice → StackRecord × DevId → Type 0
HasNamed state over device = λ found. HasDevice state device.name.now over device.cache (device_place found.0 found.1.0)

-- a device, beside a file in use
abbrev pub FindsApartBy : {S D : Type 0} → Opener S D → (D → Device) → S → S → FileUse → StackFile → NamedDevice → StackRecord × DevId → Type 0
FindsApartBy relations state old new used file device =
    λ found. FindsApart (calls relations state old new) used (words_for file device) (device_place found.0 found.1.0)

-- there is no such device
abbrev pub FailsToFindApartBy : {S D : Type 0} → Opener S D → (D → Device) → S → S → FileUse → StackFile → NamedDevice → StackFault → Type 0
FailsToFindApartBy relations state old new used file device = FailsToFindApart (calls relations state old new) used (words_for file device)

-- a device, and the image to copy to
abbrev pub FindsTo : {S D : Type 0} → Opener S D → (D → Device) → S → S → FileUse → StackFile → NamedDevice → List ℕ → StackRecord × DevId × OpenImage D → Type 0
FindsTo relations state old new used file device out =
    λ found. FindsOutput (calls relations state old new) used (words_for file device) out (device_place found.0 found.1.0) found.2

-- the device or the image is missing
abbrev pub LacksTo : {S D : Type 0} → Opener S D → (D → Device) → S → S → FileUse → StackFile → NamedDevice → List ℕ → StackFault → Type 0
LacksTo relations state old new used file device out = FailsToFindOutput (calls relations state old new) used (words_for file device) out
