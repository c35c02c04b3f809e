-- A disk that is read without a stack file: the stack of one device, which is all of the disk.
use Rattle.std.specs.Prelude.{◌≡◌, ◌⊎◌, ℕ, ◌^◌, ◌≤◌, Bool, true, false, List, [], ◌∷◌, codes, length, map}
use Rattle.allocation.specs.Refusal.{IsOutOfMemory}
use Rattle.block_device.specs.Device.{Device}
use Rattle.image_files.specs.Apart.{OpensApart, RefusesApart}
use Rattle.image_files.specs.declared.file_use.FileUse.{FileUse}
use Rattle.image_files.specs.declared.images.OpenImage.{OpenImage}
use Rattle.image_files.specs.declared.opening.UnopenedFile.{UnopenedFile}
use Rattle.image_files.specs.declared.placed_image.PlacedImage.{PlacedImage}
use Rattle.image_files.specs.Opener.{Calls, Opener, calls}
use Rattle.image_files.specs.OpenPlaces.{FailsToGrowFile, GrowsFile, OpensPlaceApart, RefusesPlaceApart}
use Rattle.image_files.specs.Places.{place_use}
use Rattle.stack_engine.specs.Stacks.{StackRecord}
use Rattle.stack_meaning.specs.Leaves.{ServeLeaves}
use Rattle.stack_rules.specs.declared.lower.DevId.{DevId}
use Rattle.stack_files.specs.Bindings.{names_in}
use Rattle.stack_files.specs.declared.disk.DiskPlace.{DiskPlace}
use Rattle.stack_files.specs.declared.opening_fault.OpeningFault.{OpeningFault}
use Rattle.stack_files.specs.declared.opening_fault.OpeningFault.TheVariants.{NoMemory}
use Rattle.stack_files.specs.declared.stack_fault.StackFault.{StackFault}
use Rattle.stack_files.specs.declared.stack_fault.StackFault.TheVariants.{Open}
use Rattle.stack_files.specs.declared.stack_file.OpenStack.{OpenStack}
use Rattle.stack_files.specs.DiskEntries.{entry_room, entry_text, linear_line}
use Rattle.stack_files.specs.Endings.{IsOpeningEnd}
use Rattle.stack_files.specs.NamedDevices.{DevicePlace, FailsToFind, HasDevice, device_place}
use Rattle.stack_files.specs.Openings.{IsFileUnopened}

-- a file, a device or a part of one, how many hash blocks are cached, and whether the image that it is copied to is made as long
pub record DiskWords : Type 0 where
  pub place : List ℕ
  pub cache : ℕ
  pub grow : Bool

abbrev pub disk_at : List ℕ → ℕ → Bool → DiskWords
disk_at place cache grow = record { place = place; cache = cache; grow = grow }

abbrev pub disk_words : DiskPlace → DiskWords
disk_words disk = disk_at disk.place.now disk.cache disk.grow

-- the stack text of a disk of so many sectors: the device `disk`, which is all of it
unfoldable pub disk_text : ℕ → List ℕ
disk_text sectors = entry_text false (codes "disk") (linear_line (record { first = 0; count = sectors }))

-- the stack text of an open disk, and the disk as its only backing device
pub record IsDiskStack {D : Type 0} (state : D → Device) (disk : D) (over : OpenStack D) : Type 0 where
  pub text : over.text.bytes.items ≡ disk_text (state disk).size
  pub short : length over.text.bytes.items ≤ 2 ^ 20
  pub names : names_in over.leaves.items ≡ codes "DISK" ∷ []
  pub devices : over.devices.items ≡ disk ∷ []
  pub served : ServeLeaves over.leaves.items (map state over.devices.items)

-- an allocation was refused
abbrev pub IsUnmade : OpeningFault → Type 0
IsUnmade fault = (fault ≡ NoMemory) × IsOutOfMemory entry_room

-- the disk was opened for reading, next to the file in use
pub record OpensDisk {S D : Type 0} (w : Calls S D) (used : FileUse) (place : List ℕ) (over : OpenStack D) : Type 0 where
  pub disk : PlacedImage D
  pub opened : OpensPlaceApart w (used ∷ []) place false disk
  pub is : IsDiskStack w.state disk.device over

-- it was opened, and an allocation was refused
pub record IsDiskUnmade {S D : Type 0} (w : Calls S D) (used : FileUse) (place : List ℕ) (fault : OpeningFault) : Type 0 where
  pub disk : PlacedImage D
  pub opened : OpensPlaceApart w (used ∷ []) place false disk
  pub unmade : IsUnmade fault

-- that, or it isn't opened
abbrev pub FailsToOpenDisk : {S D : Type 0} → Calls S D → FileUse → List ℕ → OpeningFault → Type 0
FailsToOpenDisk w used place fault = IsFileUnopened (RefusesPlaceApart w (used ∷ []) place false) fault ⊎ IsDiskUnmade w used place fault

-- the disk was opened, and its device is the one of the stack that its text makes
pub record FindsDisk {S D : Type 0} (w : Calls S D) (used : FileUse) (words : DiskWords) (at : DevicePlace) : Type 0 where
  pub over : OpenStack D
  pub opened : OpensDisk w used words.place over
  pub has : HasDevice w.state (codes "disk") over words.cache at

-- it isn't opened, or its text makes no such device
abbrev pub FailsToFindDisk : {S D : Type 0} → Calls S D → FileUse → DiskWords → StackFault → Type 0
FailsToFindDisk {S} {D} w used words fault =
    IsOpeningEnd (FailsToOpenDisk w used words.place) fault ⊎ ((over : OpenStack D) × OpensDisk w used words.place over × FailsToFind (codes "disk") over fault)

-- ---- with an image to copy to

-- with `grow` the file under the path of the image is made so long
abbrev pub MakesRoom : {S D : Type 0} → Calls S D → Bool → List ℕ → ℕ → Type 0
MakesRoom w true out sectors = GrowsFile w out sectors
MakesRoom w false out sectors = w.new ≡ w.old

-- it isn't
abbrev pub FailsToMakeRoom : {S D : Type 0} → Calls S D → Bool → List ℕ → ℕ → UnopenedFile → Type 0
FailsToMakeRoom w true out sectors file = FailsToGrowFile w out sectors file
FailsToMakeRoom w false out sectors file = ⊥

-- the image was made so long, with `grow`, and then it was opened next to these files
pub record OpensWithRoom {S D : Type 0} (w : Calls S D) (files : List FileUse) (grow : Bool) (out : List ℕ) (sectors : ℕ) (image : OpenImage D) : Type 0 where
  pub between : S
  pub room : MakesRoom (record w { new = between }) grow out sectors
  pub opened : OpensApart (record w { old = between }) files out true image

-- it was made so long, and isn't opened
pub record IsOutputRefused {S D : Type 0} (w : Calls S D) (files : List FileUse) (grow : Bool) (out : List ℕ) (sectors : ℕ) (file : UnopenedFile) : Type 0 where
  pub between : S
  pub room : MakesRoom (record w { new = between }) grow out sectors
  pub refused : RefusesApart (record w { old = between }) files out true file

-- that, or it isn't made so long
abbrev pub LacksOutput : {S D : Type 0} → Calls S D → List FileUse → Bool → List ℕ → ℕ → UnopenedFile → Type 0
LacksOutput w files grow out sectors file = FailsToMakeRoom w grow out sectors file ⊎ IsOutputRefused w files grow out sectors file

-- The disk was opened, and has its device. Only then was the image made as long as the disk and opened, next to it and the file in use.
pub record FindsDiskOutput {S D : Type 0} (w : Calls S D) (used : FileUse) (words : DiskWords) (out : List ℕ) (at : DevicePlace) (image : OpenImage D) : Type 0 where
  pub between : S
  pub disk : PlacedImage D
  pub over : OpenStack D
  pub opened : OpensPlaceApart (record w { new = between }) (used ∷ []) words.place false disk
  pub is : IsDiskStack w.state disk.device over
  pub has : HasDevice w.state (codes "disk") over words.cache at
  pub output : OpensWithRoom (record w { old = between }) (place_use false disk ∷ used ∷ []) words.grow out (w.state disk.device).size image

-- the disk was opened and has its device, and the image isn't made as long, or isn't opened
pub record LacksDiskOutput {S D : Type 0} (w : Calls S D) (used : FileUse) (words : DiskWords) (out : List ℕ) (fault : StackFault) : Type 0 where
  pub between : S
  pub disk : PlacedImage D
  pub over : OpenStack D
  pub found : DevicePlace
  pub file : UnopenedFile
  pub opened : OpensPlaceApart (record w { new = between }) (used ∷ []) words.place false disk
  pub is_stack : IsDiskStack w.state disk.device over
  pub has : HasDevice w.state (codes "disk") over words.cache found
  pub lacks : LacksOutput (record w { old = between }) (place_use false disk ∷ used ∷ []) words.grow out (w.state disk.device).size file
  pub is : fault ≡ Open file

-- that, or there is no such device, and the image wasn't touched
abbrev pub FailsToFindDiskOutput : {S D : Type 0} → Calls S D → FileUse → DiskWords → List ℕ → StackFault → Type 0
FailsToFindDiskOutput w used words out fault = FailsToFindDisk w used words fault ⊎ LacksDiskOutput w used words out fault

-- ---- in terms of the opener, before and after its calls, and the program's arguments

-- a disk's device
abbrev pub FindsDiskBy : {S D : Type 0} → Opener S D → (D → Device) → S → S → FileUse → DiskPlace → StackRecord × DevId → Type 0
FindsDiskBy relations state old new used disk = λ found. FindsDisk (calls relations state old new) used (disk_words disk) (device_place found.0 found.1.0)

-- there is none
abbrev pub FailsToFindDiskBy : {S D : Type 0} → Opener S D → (D → Device) → S → S → FileUse → DiskPlace → StackFault → Type 0
FailsToFindDiskBy relations state old new used disk = FailsToFindDisk (calls relations state old new) used (disk_words disk)

-- a disk's device, and the image to copy to
abbrev pub FindsDiskTo : {S D : Type 0} → Opener S D → (D → Device) → S → S → FileUse → DiskPlace → List ℕ → StackRecord × DevId × OpenImage D → Type 0
FindsDiskTo relations state old new used disk out =
    λ found. FindsDiskOutput (calls relations state old new) used (disk_words disk) out (device_place found.0 found.1.0) found.2

-- one of them is missing
abbrev pub LacksDiskTo : {S D : Type 0} → Opener S D → (D → Device) → S → S → FileUse → DiskPlace → List ℕ → StackFault → Type 0
LacksDiskTo relations state old new used disk out = FailsToFindDiskOutput (calls relations state old new) used (disk_words disk) out
