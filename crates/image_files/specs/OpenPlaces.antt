-- Images as they are opened, closed and resized at the places that a command line names.
use Rattle.std.specs.Prelude.{◌≡◌, ◌⊎◌, ℕ, Bool, true, false, List, Option, None, Some, Result, Ok, Err}
use Rattle.block_device.specs.declared.open_fault.OpenFault.{OpenFault}
use Rattle.block_device.specs.declared.open_fault.OpenFault.TheVariants.{NotFound, SameFile}
use Rattle.command_line.specs.FilePlaces.{FilePlaceRecord, NamedPartRecord, NamedPartitionRecord, file_place_of, of_partition, of_sectors}
use Rattle.device_adapters.specs.declared.part.Part.{Part}
use Rattle.image_files.specs.declared.file_use.FileUse.{FileUse}
use Rattle.image_files.specs.declared.images.OpenImage.{OpenImage}
use Rattle.image_files.specs.declared.opening.UnopenedFile.{UnopenedFile}
use Rattle.image_files.specs.declared.parts.PartFault.{PartFault}
use Rattle.image_files.specs.declared.parts.PartFault.TheVariants as part_fault
use Rattle.image_files.specs.declared.placed_image.Place.{Place}
use Rattle.image_files.specs.declared.placed_image.PlacedImage.{PlacedImage}
use Rattle.image_files.specs.FileUses.{has_clash}
use Rattle.image_files.specs.Opened.{Refuses}
use Rattle.image_files.specs.Opener.{Calls}
use Rattle.image_files.specs.Partitions.{IsNoPartition, IsPartition}
use Rattle.image_files.specs.Places.{device_part, image_at, place_use}

-- the file under an argument was opened
pub record OpensWhole {S D : Type 0} (w : Calls S D) (text : List ℕ) (writable : Bool) (image : PlacedImage D) : Type 0 where
  pub opened : w.relations.opens w.old text writable (Ok (image_at image)) w.new
  pub path_is : image.place.path.now ≡ text
  pub part_is : image.place.part ≡ None

-- a part of the file under a path was opened
pub record OpensAt {S D : Type 0} (w : Calls S D) (path : List ℕ) (part : Part) (writable : Bool) (image : PlacedImage D) : Type 0 where
  pub opened : w.relations.opens_part w.old path writable part (Ok (image_at image)) w.new
  pub path_is : image.place.path.now ≡ path
  pub part_is : image.place.part ≡ Some part

-- the disk under a path was opened for reading, and the partition of that name, which may be opened with this right, is this part
pub record FindsPartition {S D : Type 0} (w : Calls S D) (path : List ℕ) (named : NamedPartitionRecord) (writable : Bool) (part : Part) : Type 0 where
  pub disk : OpenImage D
  pub disk' : D
  pub opened : w.relations.opens w.old path false (Ok disk) w.new
  pub is : IsPartition (w.state disk.device) (w.state disk') named writable part

-- its partition was found, and opened
pub record OpensPartition {S D : Type 0} (w : Calls S D) (path : List ℕ) (named : NamedPartitionRecord) (writable : Bool) (image : PlacedImage D) : Type 0 where
  pub between : S
  pub part : Part
  pub found : FindsPartition (record w { new = between }) path named writable part
  pub opened : OpensAt (record w { old = between }) path part writable image

-- by what part it is
abbrev pub OpensBy : {S D : Type 0} → Calls S D → List ℕ → NamedPartRecord → Bool → PlacedImage D → Type 0
OpensBy w path (of_sectors part) writable image = OpensAt w path (device_part part) writable image
OpensBy w path (of_partition named) writable image = OpensPartition w path named writable image

abbrev pub OpensPartNamed : {S D : Type 0} → Calls S D → FilePlaceRecord → Bool → PlacedImage D → Type 0
OpensPartNamed w place writable image = OpensBy w place.path place.part writable image

-- the argument names a part of a file, which was opened
pub record OpensNamed {S D : Type 0} (w : Calls S D) (text : List ℕ) (writable : Bool) (image : PlacedImage D) : Type 0 where
  pub place : FilePlaceRecord
  pub named : file_place_of text ≡ Some place
  pub opened : OpensPartNamed w place writable image

-- there is no file under the argument, and the part that it names was opened
pub record OpensNext {S D : Type 0} (w : Calls S D) (text : List ℕ) (writable : Bool) (image : PlacedImage D) : Type 0 where
  pub between : S
  pub missing : w.relations.opens w.old text writable (Err NotFound) between
  pub opened : OpensNamed (record w { old = between }) text writable image

-- the image that an argument names was opened: the file under it or, only if there is none, the part that it names
abbrev pub OpensPlace : {S D : Type 0} → Calls S D → List ℕ → Bool → PlacedImage D → Type 0
OpensPlace w text writable image = OpensWhole w text writable image ⊎ OpensNext w text writable image

-- there is no such file
abbrev pub is_missing : OpenFault → Bool
is_missing NotFound = true
is_missing fault = false

-- the file under the argument is there, or may be, and isn't opened
pub record RefusesWhole {S D : Type 0} (w : Calls S D) (text : List ℕ) (writable : Bool) (file : UnopenedFile) : Type 0 where
  pub refused : Refuses w text writable file
  pub found : is_missing file.fault ≡ false

-- a part that isn't inside its file is not found
abbrev pub part_cause : PartFault → OpenFault
part_cause (part_fault.Open fault) = fault
part_cause part_fault.Outside = NotFound

-- a part of the file under a path isn't opened
pub record RefusesAt {S D : Type 0} (w : Calls S D) (path : List ℕ) (part : Part) (writable : Bool) (fault : OpenFault) : Type 0 where
  pub cause : PartFault
  pub refused : w.relations.opens_part w.old path writable part (Err cause) w.new
  pub is : fault ≡ part_cause cause

-- the disk under a path was opened, and no partition of that name is found that may be opened with this right
pub record HasNoPartition {S D : Type 0} (w : Calls S D) (path : List ℕ) (named : NamedPartitionRecord) (writable : Bool) (fault : OpenFault) : Type 0 where
  pub disk : OpenImage D
  pub disk' : D
  pub opened : w.relations.opens w.old path false (Ok disk) w.new
  pub none : IsNoPartition (w.state disk.device) (w.state disk') named writable fault

-- that, or it wasn't opened
abbrev pub FailsToFindPartition : {S D : Type 0} → Calls S D → List ℕ → NamedPartitionRecord → Bool → OpenFault → Type 0
FailsToFindPartition w path named writable fault = w.relations.opens w.old path false (Err fault) w.new ⊎ HasNoPartition w path named writable fault

-- its partition was found, and isn't opened
pub record RefusesFound {S D : Type 0} (w : Calls S D) (path : List ℕ) (named : NamedPartitionRecord) (writable : Bool) (fault : OpenFault) : Type 0 where
  pub between : S
  pub part : Part
  pub found : FindsPartition (record w { new = between }) path named writable part
  pub refused : RefusesAt (record w { old = between }) path part writable fault

-- one of these
abbrev pub RefusesPartition : {S D : Type 0} → Calls S D → List ℕ → NamedPartitionRecord → Bool → OpenFault → Type 0
RefusesPartition w path named writable fault = FailsToFindPartition w path named writable fault ⊎ RefusesFound w path named writable fault

-- by what part it is
abbrev pub RefusesBy : {S D : Type 0} → Calls S D → List ℕ → NamedPartRecord → Bool → OpenFault → Type 0
RefusesBy w path (of_sectors part) writable fault = RefusesAt w path (device_part part) writable fault
RefusesBy w path (of_partition named) writable fault = RefusesPartition w path named writable fault

abbrev pub RefusesNamed : {S D : Type 0} → Calls S D → FilePlaceRecord → Bool → OpenFault → Type 0
RefusesNamed w place writable fault = RefusesBy w place.path place.part writable fault

-- the argument names a part of a file, which isn't opened
pub record IsNamedUnopened {S D : Type 0} (w : Calls S D) (text : List ℕ) (writable : Bool) (fault : OpenFault) : Type 0 where
  pub place : FilePlaceRecord
  pub named : file_place_of text ≡ Some place
  pub refused : RefusesNamed w place writable fault

-- it names none
pub record NamesNoPart {S D : Type 0} (w : Calls S D) (text : List ℕ) (fault : OpenFault) : Type 0 where
  pub none : file_place_of text ≡ None
  pub is : fault ≡ NotFound
  pub same : w.new ≡ w.old

-- one of these
abbrev pub IsNamedFault : {S D : Type 0} → Calls S D → List ℕ → Bool → OpenFault → Type 0
IsNamedFault w text writable fault = NamesNoPart w text fault ⊎ IsNamedUnopened w text writable fault

-- it is the fault of that argument
pub record FailsToOpenNamed {S D : Type 0} (w : Calls S D) (text : List ℕ) (writable : Bool) (file : UnopenedFile) : Type 0 where
  pub path_is : file.path.now ≡ text
  pub cause : IsNamedFault w text writable file.fault

-- there is no file under the argument, and no part that it names is opened
pub record RefusesNext {S D : Type 0} (w : Calls S D) (text : List ℕ) (writable : Bool) (file : UnopenedFile) : Type 0 where
  pub between : S
  pub missing : w.relations.opens w.old text writable (Err NotFound) between
  pub refused : FailsToOpenNamed (record w { old = between }) text writable file

-- the image that an argument names isn't opened, for this reason
abbrev pub RefusesPlace : {S D : Type 0} → Calls S D → List ℕ → Bool → UnopenedFile → Type 0
RefusesPlace w text writable file = RefusesWhole w text writable file ⊎ RefusesNext w text writable file

-- ---- beside files that are open already

-- the image was opened, and clashes with none of these files
pub record OpensPlaceApart {S D : Type 0} (w : Calls S D) (files : List FileUse) (text : List ℕ) (writable : Bool) (image : PlacedImage D) : Type 0 where
  pub opened : OpensPlace w text writable image
  pub apart : has_clash files (place_use writable image) ≡ false

-- it was opened, but clashes with one of them
pub record IsPlaceTaken {S D : Type 0} (w : Calls S D) (files : List FileUse) (text : List ℕ) (writable : Bool) (file : UnopenedFile) : Type 0 where
  pub image : PlacedImage D
  pub opened : OpensPlace w text writable image
  pub clash : has_clash files (place_use writable image) ≡ true
  pub is : (file.fault ≡ SameFile) × (file.path.now ≡ text)

-- that, or it isn't opened
abbrev pub RefusesPlaceApart : {S D : Type 0} → Calls S D → List FileUse → List ℕ → Bool → UnopenedFile → Type 0
RefusesPlaceApart w files text writable file = RefusesPlace w text writable file ⊎ IsPlaceTaken w files text writable file

-- ---- where there may be no file

-- the file under an argument was opened, or there is none
abbrev pub FindsWhole : {S D : Type 0} → Calls S D → List ℕ → Bool → Option (PlacedImage D) → Type 0
FindsWhole w text writable (Some image) = OpensWhole w text writable image
FindsWhole w text writable None = w.relations.opens w.old text writable (Err NotFound) w.new

-- there is none, and the argument names no part of another one
pub record IsNoPlace {S D : Type 0} (w : Calls S D) (text : List ℕ) (writable : Bool) : Type 0 where
  pub none : file_place_of text ≡ None
  pub missing : w.relations.opens w.old text writable (Err NotFound) w.new

-- the image that an argument names was opened, or there is none
abbrev pub FindsPlace : {S D : Type 0} → Calls S D → List ℕ → Bool → Option (PlacedImage D) → Type 0
FindsPlace w text writable (Some image) = OpensPlace w text writable image
FindsPlace w text writable None = IsNoPlace w text writable

-- ---- what is done at a place then

abbrev pub ClosesAt : {S D : Type 0} → Calls S D → List ℕ → Option Part → D → Type 0
ClosesAt w path None device = w.relations.takes w.old path device w.new
ClosesAt w path (Some part) device = w.relations.takes_part w.old path part device w.new

-- an image is closed where it was opened
abbrev pub ClosesPlace : {S D : Type 0} → Calls S D → Place → D → Type 0
ClosesPlace w place device = ClosesAt w place.path.now place.part device

-- whether there is a file under the argument
abbrev pub TellsThere : {S D : Type 0} → Calls S D → List ℕ → Bool → Type 0
TellsThere w text true = (part : Bool) × w.relations.measures w.old text (Ok part) w.new
TellsThere w text false = w.relations.measures w.old text (Err NotFound) w.new

-- that isn't known, for this reason
pub record IsUntold {S D : Type 0} (w : Calls S D) (text : List ℕ) (file : UnopenedFile) : Type 0 where
  pub path_is : file.path.now ≡ text
  pub found : is_missing file.fault ≡ false
  pub measured : w.relations.measures w.old text (Err file.fault) w.new

-- the argument names no part of a file, or there is a file under it
abbrev pub NamesFile : {S D : Type 0} → Calls S D → List ℕ → Type 0
NamesFile w text = ((file_place_of text ≡ None) × (w.new ≡ w.old)) ⊎ TellsThere w text true

-- the argument names a part of a file, and there is no file under it
pub record NamesPart {S D : Type 0} (w : Calls S D) (text : List ℕ) : Type 0 where
  pub place : FilePlaceRecord
  pub named : file_place_of text ≡ Some place
  pub missing : TellsThere w text false

-- which of the two
abbrev pub TellsName : {S D : Type 0} → Calls S D → List ℕ → Bool → Type 0
TellsName w text true = NamesFile w text
TellsName w text false = NamesPart w text

-- a call that makes files longer or shorter: of an opener before it, a path, so many sectors, the outcome, and the opener after it
abbrev pub Resizing : Type 0 → Type 1
Resizing S = S → List ℕ → ℕ → Result (Unit {0}) OpenFault → S → Type 0

-- the file under the argument was resized by that call
abbrev pub ResizesFile : {S D : Type 0} → Resizing S → Calls S D → List ℕ → ℕ → Type 0
ResizesFile resizes w text sectors = resizes w.old text sectors (Ok tt) w.new

-- or can't be
pub record FailsToResizeFile {S D : Type 0} (resizes : Resizing S) (w : Calls S D) (text : List ℕ) (sectors : ℕ) (file : UnopenedFile) : Type 0 where
  pub path_is : file.path.now ≡ text
  pub failed : resizes w.old text sectors (Err file.fault) w.new

-- the argument names a file, which was resized
pub record ResizesNamed {S D : Type 0} (resizes : Resizing S) (w : Calls S D) (text : List ℕ) (sectors : ℕ) : Type 0 where
  pub between : S
  pub named : NamesFile (record w { new = between }) text
  pub resized : ResizesFile resizes (record w { old = between }) text sectors

-- that, or it names a part of a file, which has a size of its own: nothing was made or resized
abbrev pub ResizesPlace : {S D : Type 0} → Resizing S → Calls S D → List ℕ → ℕ → Type 0
ResizesPlace resizes w text sectors = ResizesNamed resizes w text sectors ⊎ NamesPart w text

-- the argument names a file, which can't be resized
pub record FailsToResizeNamed {S D : Type 0} (resizes : Resizing S) (w : Calls S D) (text : List ℕ) (sectors : ℕ) (file : UnopenedFile) : Type 0 where
  pub between : S
  pub named : NamesFile (record w { new = between }) text
  pub failed : FailsToResizeFile resizes (record w { old = between }) text sectors file

-- that, or it isn't known whether there is a file under it
abbrev pub FailsToResizePlace : {S D : Type 0} → Resizing S → Calls S D → List ℕ → ℕ → UnopenedFile → Type 0
FailsToResizePlace resizes w text sectors file = IsUntold w text file ⊎ FailsToResizeNamed resizes w text sectors file

-- the file has at least so many sectors from then on, or can't be made so long
abbrev pub GrowsFile : {S D : Type 0} → Calls S D → List ℕ → ℕ → Type 0
GrowsFile w text sectors = ResizesFile w.relations.grows w text sectors

abbrev pub FailsToGrowFile : {S D : Type 0} → Calls S D → List ℕ → ℕ → UnopenedFile → Type 0
FailsToGrowFile w text sectors file = FailsToResizeFile w.relations.grows w text sectors file

abbrev pub GrowsPlace : {S D : Type 0} → Calls S D → List ℕ → ℕ → Type 0
GrowsPlace w text sectors = ResizesPlace w.relations.grows w text sectors

abbrev pub FailsToGrowPlace : {S D : Type 0} → Calls S D → List ℕ → ℕ → UnopenedFile → Type 0
FailsToGrowPlace w text sectors file = FailsToResizePlace w.relations.grows w text sectors file

-- the file has at most so many sectors from then on, or can't be made so short
abbrev pub ShrinksFile : {S D : Type 0} → Calls S D → List ℕ → ℕ → Type 0
ShrinksFile w text sectors = ResizesFile w.relations.shrinks w text sectors

abbrev pub FailsToShrinkFile : {S D : Type 0} → Calls S D → List ℕ → ℕ → UnopenedFile → Type 0
FailsToShrinkFile w text sectors file = FailsToResizeFile w.relations.shrinks w text sectors file

abbrev pub ShrinksPlace : {S D : Type 0} → Calls S D → List ℕ → ℕ → Type 0
ShrinksPlace w text sectors = ResizesPlace w.relations.shrinks w text sectors

abbrev pub FailsToShrinkPlace : {S D : Type 0} → Calls S D → List ℕ → ℕ → UnopenedFile → Type 0
FailsToShrinkPlace w text sectors file = FailsToResizePlace w.relations.shrinks w text sectors file
