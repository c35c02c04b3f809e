-- The copies that blocks are sought in, as they are opened.
use Rattle.std.specs.Prelude.{◌≡◌, ◌⊎◌, ℕ, Bool, true, false, List, [], ◌∷◌, Vec, map}
use Rattle.std.specs.Global.{Global}
use Rattle.allocation.specs.Refusal.{IsOutOfMemory}
use Rattle.block_device.specs.Device.{Device}
use Rattle.command_line.specs.declared.image_copies.ImageCopy.{ImageCopy}
use Rattle.image_files.specs.declared.file_use.FileUse.{FileUse}
use Rattle.image_files.specs.declared.placed_image.PlacedImage.{PlacedImage}
use Rattle.image_files.specs.Opener.{Calls, Opener, calls}
use Rattle.image_files.specs.OpenPlaces.{OpensPlaceApart, RefusesPlaceApart}
use Rattle.verity_commands.specs.declared.tree_fault.TreeFault.{TreeFault}
use Rattle.verity_commands.specs.declared.tree_fault.TreeFault.TheVariants.{Open, Survey}
use Rattle.tree_survey.specs.declared.fault.SurveyFault.TheVariants.{Image}
use Rattle.verity_format.specs.declared.verifying.VerifyFault.TheVariants.{NoMemory}

-- the argument that names a copy's hashes, or its data
abbrev pub path_in : Bool → ImageCopy → List ℕ
path_in true copy = copy.hash_path.now
path_in false copy = copy.data_path.now

-- an image was opened for reading, as this device; it has no sector in common with one of these files that is writable
pub record OpensImageCopy {S D : Type 0} (w : Calls S D) (files : List FileUse) (path : List ℕ) (device : D) : Type 0 where
  pub image : PlacedImage D
  pub opened : OpensPlaceApart w files path false image
  pub device_is : device ≡ image.device

-- the image can't be opened, or memory for one more device was refused
abbrev pub IsCopyUnopened : {S D : Type 0} → Calls S D → List FileUse → List ℕ → TreeFault → Type 0
IsCopyUnopened w files path (Open file) = RefusesPlaceApart w files path false file
IsCopyUnopened {S} {D} w files path (Survey (Image NoMemory)) = ((device : D) × OpensImageCopy w files path device) × IsOutOfMemory 1
IsCopyUnopened w files path fault = ⊥

-- each was opened, in order
abbrev pub OpensEachCopy : {S D : Type 0} → Calls S D → List FileUse → List (List ℕ) → List D → Type 0
OpensEachCopy w files [] [] = w.new ≡ w.old
OpensEachCopy w files [] (d ∷ ds) = ⊥
OpensEachCopy w files (p ∷ ps) [] = ⊥
OpensEachCopy {S} w files (p ∷ ps) (d ∷ ds) =
    (between : S) × (OpensImageCopy (record w { new = between }) files p d × OpensEachCopy (record w { old = between }) files ps ds)

-- the first of them that is refused
abbrev pub RefusesEach : {S D : Type 0} → Calls S D → List FileUse → List (List ℕ) → TreeFault → Type 0
RefusesEach w files [] fault = ⊥
RefusesEach {S} {D} w files (p ∷ ps) fault =
    IsCopyUnopened w files p fault
    ⊎ ((between : S) × ((d : D) × (OpensImageCopy (record w { new = between }) files p d × RefusesEach (record w { old = between }) files ps fault)))

-- ---- in terms of an opener before and after, and the hashes or the data of copies

abbrev pub EachIsOpen : {S D : Type 0} → Opener S D → (D → Device) → S → S → List FileUse → Bool → List ImageCopy → Vec D Global → Type 0
EachIsOpen relations state old new files hashes copies devices = OpensEachCopy (calls relations state old new) files (map (path_in hashes) copies) devices.items

abbrev pub RefusesOne : {S D : Type 0} → Opener S D → (D → Device) → S → S → List FileUse → Bool → List ImageCopy → TreeFault → Type 0
RefusesOne relations state old new files hashes copies fault = RefusesEach (calls relations state old new) files (map (path_in hashes) copies) fault
