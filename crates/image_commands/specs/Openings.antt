-- The images of a command: which are opened, in which order and with which rights.
use Rattle.std.specs.Prelude.{◌⊎◌, ℕ, List, Bool, false}
use Rattle.block_device.specs.Device.{Device}
use Rattle.image_files.specs.declared.placed_image.PlacedImage.{PlacedImage}
use Rattle.image_files.specs.declared.opening.UnopenedFile.{UnopenedFile}
use Rattle.image_files.specs.Opener.{Calls, Opener, calls}
use Rattle.image_files.specs.OpenPlaces.{OpensPlace, RefusesPlace}
use Rattle.image_commands.specs.declared.paths.ImagePaths.{ImagePaths}
use Rattle.image_commands.specs.declared.paths.TwoImages.{TwoImages}

-- the arguments that name a data image and its hash image
pub record TwoPaths : Type 0 where
  pub data_path : List ℕ
  pub hash_path : List ℕ

abbrev pub two_paths : ImagePaths → TwoPaths
two_paths paths = record { data_path = paths.data.now; hash_path = paths.hash.now }

-- the data image was opened for reading, and then the hash image
pub record OpensTwo {S D : Type 0} (w : Calls S D) (paths : TwoPaths) (writable : Bool) (two : TwoImages D) : Type 0 where
  pub between : S
  pub data_opened : OpensPlace (record w { new = between }) paths.data_path false two.data
  pub hash_opened : OpensPlace (record w { old = between }) paths.hash_path writable two.hash

-- the data image was opened, and the hash image wasn't
pub record RefusesHash {S D : Type 0} (w : Calls S D) (paths : TwoPaths) (writable : Bool) (file : UnopenedFile) : Type 0 where
  pub data_image : PlacedImage D
  pub between : S
  pub data_opened : OpensPlace (record w { new = between }) paths.data_path false data_image
  pub refused : RefusesPlace (record w { old = between }) paths.hash_path writable file

-- one of them isn't opened, the first that the opener refuses
abbrev pub FailsToOpenTwo : {S D : Type 0} → Calls S D → TwoPaths → Bool → UnopenedFile → Type 0
FailsToOpenTwo w paths writable file = RefusesPlace w paths.data_path false file ⊎ RefusesHash w paths writable file

-- ---- as a call sees them: an opener's relations, what a proof sees of its devices, and the opener before and after

abbrev pub OpensImages : {S D : Type 0} → Opener S D → (D → Device) → S → S → ImagePaths → Bool → TwoImages D → Type 0
OpensImages relations state images images' paths writable = OpensTwo (calls relations state images images') (two_paths paths) writable

abbrev pub FailsToOpenImages : {S D : Type 0} → Opener S D → (D → Device) → S → S → ImagePaths → Bool → UnopenedFile → Type 0
FailsToOpenImages relations state images images' paths writable = FailsToOpenTwo (calls relations state images images') (two_paths paths) writable
