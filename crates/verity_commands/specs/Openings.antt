-- The two hash images of a command: which are opened, in which order and with which rights.
use Rattle.std.specs.Prelude.{◌⊎◌, ℕ, List, false}
use Rattle.block_device.specs.Device.{Device}
use Rattle.image_files.specs.declared.opening.UnopenedFile.{UnopenedFile}
use Rattle.image_files.specs.declared.placed_image.PlacedImage.{PlacedImage}
use Rattle.image_files.specs.Opener.{Calls, Opener, calls}
use Rattle.image_files.specs.OpenPlaces.{ClosesPlace, OpensPlace, RefusesPlace}
use Rattle.image_files.specs.Places.{image_at}
use Rattle.verity_commands.specs.declared.paths.BothAt.{BothAt}
use Rattle.verity_commands.specs.declared.tree_pair.TreeStarts.{TreeStarts}
use Rattle.verity_commands.specs.declared.paths.HashPlaces.{HashPlaces}
use Rattle.verity_commands.specs.declared.paths.PlacedHashes.{PlacedHashes}
use Rattle.verity_commands.specs.declared.paths.TwoHashes.{TwoHashes}

pub record BothPaths : Type 0 where
  pub first_path : List ℕ
  pub second_path : List ℕ

-- the arguments that name two hash images, and the sectors where the images begin
pub record BothPlaces : Type 0 where
  pub paths : BothPaths
  pub starts : TreeStarts

abbrev pub both_places : HashPlaces → BothPlaces
both_places places = record {
  paths = record { first_path = places.first.path.now; second_path = places.second.path.now };
  starts = record { first = places.first.first; second = places.second.first };
}

-- both were opened for reading, the first one first
pub record OpensBoth {S D : Type 0} (w : Calls S D) (paths : BothPaths) (two : PlacedHashes D) : Type 0 where
  pub between : S
  pub first_opened : OpensPlace (record w { new = between }) paths.first_path false two.first
  pub second_opened : OpensPlace (record w { old = between }) paths.second_path false two.second

-- the first was opened, and the second wasn't
pub record RefusesSecond {S D : Type 0} (w : Calls S D) (paths : BothPaths) (file : UnopenedFile) : Type 0 where
  pub first_image : PlacedImage D
  pub between : S
  pub first_opened : OpensPlace (record w { new = between }) paths.first_path false first_image
  pub refused : RefusesPlace (record w { old = between }) paths.second_path false file

-- one of them isn't opened, the first that the opener refuses
abbrev pub FailsToOpenBoth : {S D : Type 0} → Calls S D → BothPaths → UnopenedFile → Type 0
FailsToOpenBoth w paths file = RefusesPlace w paths.first_path false file ⊎ RefusesSecond w paths file

-- the hash images without their places
abbrev pub hashes_of : {D : Type 0} → PlacedHashes D → TwoHashes D
hashes_of placed = record { first = image_at placed.first; second = image_at placed.second }

-- where they are
abbrev pub both_at : {D : Type 0} → PlacedHashes D → BothAt
both_at placed = record { first = placed.first.place; second = placed.second.place }

-- both were closed there, the first one first
pub record ClosesBoth {S D : Type 0} (w : Calls S D) (at : BothAt) (two : TwoHashes D) : Type 0 where
  pub between : S
  pub first_closed : ClosesPlace (record w { new = between }) at.first two.first.device
  pub second_closed : ClosesPlace (record w { old = between }) at.second two.second.device

-- ---- as a call sees them: an opener's relations, what a proof sees of its devices, and the opener before and after

abbrev pub OpensHashes : {S D : Type 0} → Opener S D → (D → Device) → S → S → HashPlaces → PlacedHashes D → Type 0
OpensHashes relations state images images' places = OpensBoth (calls relations state images images') (both_places places).paths

abbrev pub FailsToOpenHashes : {S D : Type 0} → Opener S D → (D → Device) → S → S → HashPlaces → UnopenedFile → Type 0
FailsToOpenHashes relations state images images' places = FailsToOpenBoth (calls relations state images images') (both_places places).paths

abbrev pub ClosesHashes : {S D : Type 0} → Opener S D → (D → Device) → S → S → BothAt → TwoHashes D → Type 0
ClosesHashes relations state images images' at = ClosesBoth (calls relations state images images') at
