-- The images of a command on parity: which paths are opened, in which order, for reading or writing.
use Rattle.std.specs.Prelude.{◌⊎◌, ℕ, ◌-◌, ◌^◌, ◌&&◌, nat_lt, Bool, false, List, [], ◌∷◌, if◌then◌else◌}
use Rattle.image_files.specs.declared.file_use.FileUse.{FileUse}
use Rattle.image_files.specs.declared.placed_image.PlacedImage.{PlacedImage}
use Rattle.image_files.specs.declared.opening.UnopenedFile.{UnopenedFile}
use Rattle.block_device.specs.Device.{Device}
use Rattle.image_files.specs.Opener.{Calls, Opener, calls}
use Rattle.image_files.specs.OpenPlaces.{OpensPlace, OpensPlaceApart, RefusesPlace, RefusesPlaceApart}
use Rattle.image_files.specs.Places.{is_one_image, place_use}
use Rattle.image_commands.specs.declared.places.ImagePlaces.{ImagePlaces}
use Rattle.image_commands.specs.Places.{TwoPlaces, two_places}
use Rattle.fec_commands.specs.declared.image.Extent.{Extent}
use Rattle.fec_commands.specs.declared.image.ThreeImages.{ThreeImages}
use Rattle.command_line.specs.declared.fec_file.FecFile.{FecFile}
use Rattle.command_line.specs.FecFiles.{FecRecord, fec_record}

-- two files that are only read
abbrev pub uses_of : {D : Type 0} → PlacedImage D → PlacedImage D → List FileUse
uses_of data_image hash_image = place_use false data_image ∷ place_use false hash_image ∷ []

-- The data image was opened for reading, the hash image for reading, and then the parity file. If the latter is writable, it is
-- neither of the images.
pub record OpensThree {S D : Type 0} (w : Calls S D) (places : TwoPlaces) (fec : FecRecord) (writable : Bool) (three : ThreeImages D) : Type 0 where
  pub one : S
  pub two : S
  pub data_opened : OpensPlace (record w { new = one }) places.paths.data_path false three.«data»
  pub hash_opened : OpensPlace (record w { old = one; new = two }) places.paths.hash_path false three.hash
  pub parity_opened : OpensPlaceApart (record w { old = two }) (uses_of three.«data» three.hash) fec.path writable three.parity

-- the data image was opened, and the hash image couldn't be
pub record RefusesHashFile {S D : Type 0} (w : Calls S D) (places : TwoPlaces) (file : UnopenedFile) : Type 0 where
  pub one : S
  pub data_image : PlacedImage D
  pub data_opened : OpensPlace (record w { new = one }) places.paths.data_path false data_image
  pub refused : RefusesPlace (record w { old = one }) places.paths.hash_path false file

-- both images were opened, and the parity file couldn't be, or is one of them
pub record RefusesParity {S D : Type 0} (w : Calls S D) (places : TwoPlaces) (fec : FecRecord) (writable : Bool) (file : UnopenedFile) : Type 0 where
  pub one : S
  pub two : S
  pub data_image : PlacedImage D
  pub hash_image : PlacedImage D
  pub data_opened : OpensPlace (record w { new = one }) places.paths.data_path false data_image
  pub hash_opened : OpensPlace (record w { old = one; new = two }) places.paths.hash_path false hash_image
  pub refused : RefusesPlaceApart (record w { old = two }) (uses_of data_image hash_image) fec.path writable file

-- the first of the three files that is refused
abbrev pub FailsToOpenThree : {S D : Type 0} → Calls S D → TwoPlaces → FecRecord → Bool → UnopenedFile → Type 0
FailsToOpenThree w places fec writable file =
    RefusesPlace w places.paths.data_path false file ⊎ (RefusesHashFile w places file ⊎ RefusesParity w places fec writable file)

-- where the data end: at the hash image's first sector if both are one image, otherwise at the end of the data image
abbrev pub end_of_data : {D : Type 0} → PlacedImage D → PlacedImage D → ℕ → ℕ
end_of_data data_image hash_image first = if nat_lt 0 first && is_one_image data_image hash_image then first else 2 ^ 64 - 1

abbrev pub three_data_end : {D : Type 0} → ThreeImages D → ℕ → ℕ
three_data_end three first = end_of_data three.«data» three.hash first

-- where the data end and the hash image begins, and the bytes of parity in a codeword
abbrev pub extent_of : {D : Type 0} → TwoPlaces → FecRecord → ThreeImages D → Extent
extent_of places fec three = record { end = three_data_end three places.first; first = places.first; roots = fec.roots }

-- a relation of the opener's calls, the places of the images and the parity file, for the opener before and after the calls and
-- the program's own arguments
abbrev pub Does : {S D : Type 0} {T : Type 1} → (Calls S D → TwoPlaces → FecRecord → T) → Opener S D → (D → Device) → S → S → ImagePlaces → FecFile → T
Does relation relations state old new places fec = relation (calls relations state old new) (two_places places) (fec_record fec)

abbrev pub RefusesThree : {S D : Type 0} → Opener S D → (D → Device) → S → S → ImagePlaces → FecFile → Bool → UnopenedFile → Type 0
RefusesThree relations state old new places fec write file = FailsToOpenThree (calls relations state old new) (two_places places) (fec_record fec) write file
