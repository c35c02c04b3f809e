-- Hash images that begin at a sector of an image: superblock and tree are stored there, and the data may be what lies before.
use Rattle.std.specs.Prelude.{◌≡◌, ◌⊎◌, ℕ, ◌+◌, ◌-◌, ◌/◌, ◌^◌, ◌&&◌, nat_lt, not, Bool, true, false, Option, is_none, if◌then◌else◌}
use Rattle.block_device.specs.Device.{Device}
use Rattle.block_device.specs.declared.open_fault.OpenFault.TheVariants.{SameFile}
use Rattle.device_adapters.specs.declared.part.Part.{Part}
use Rattle.device_adapters.specs.Parts.{part_before, part_behind}
use Rattle.device_adapters.specs.Windows.{windowed}
use Rattle.image_files.specs.declared.opening.UnopenedFile.{UnopenedFile}
use Rattle.image_files.specs.FileUses.{is_clash}
use Rattle.image_files.specs.Opener.{Calls, Opener, calls}
use Rattle.image_files.specs.Places.{is_one_image, place_use}
use Rattle.image_commands.specs.declared.paths.TwoImages.{TwoImages}
use Rattle.image_commands.specs.declared.places.ImagePlaces.{ImagePlaces}
use Rattle.image_commands.specs.Openings.{FailsToOpenTwo, OpensTwo, TwoPaths}

-- the arguments that name two images, and the sector of what the second names where the hash image begins
pub record TwoPlaces : Type 0 where
  pub paths : TwoPaths
  pub first : ℕ

abbrev pub two_places : ImagePlaces → TwoPlaces
two_places places = record { paths = record { data_path = places.data.now; hash_path = places.hash.now }; first = places.hash_first }

-- the hash block of the file at which a tree begins, so many blocks after that sector: 1 if its superblock is stored there, else 0
abbrev pub tree_start : ℕ → ℕ → ℕ → ℕ
tree_start first size ahead = if nat_lt size 512 then ahead else first / (size / 512) + ahead

-- the hash image, and what lies before a sector, as devices of their own
abbrev pub behind : Device → ℕ → Device
behind device first = windowed device (part_behind device first)

abbrev pub before : Device → ℕ → Device
before device end = windowed device (part_before device end)

-- a part of a device of this type. Only an opener and calls give devices of a type that isn't known, so that a proof can't make
-- one up whose counters show a failure.
abbrev pub IsPartState : {D : Type 0} → (D → Device) → Device → Type 0
IsPartState {D} state device = (d : D) × ((part : Part) × (device ≡ windowed (state d) part))

-- a state of a device of this type
abbrev pub IsStateOf : {D : Type 0} → (D → Device) → Device → Type 0
IsStateOf {D} state device = (d : D) × (device ≡ state d)

-- data and hash image are one image, in which the hash image begins after the first sector
abbrev pub is_shared : {D : Type 0} → TwoImages D → ℕ → Bool
is_shared two first = nat_lt 0 first && is_one_image two.data two.hash

-- otherwise they have a sector in common, as far as the opener tells
abbrev pub is_taken : {D : Type 0} → TwoImages D → ℕ → Bool
is_taken two first = is_clash (place_use false two.data) (place_use true two.hash) && not (is_shared two first)

-- where the data end: in one image before the hash image, else at the end of theirs
abbrev pub data_end : {D : Type 0} → TwoImages D → ℕ → ℕ
data_end two first = if is_shared two first then first else 2 ^ 64 - 1

-- data and hash image are in one image, and no number of data blocks says where the data end
abbrev pub overlaps : {D : Type 0} → TwoImages D → ℕ → Option ℕ → Bool
overlaps two first blocks = is_none blocks && is_shared two first

-- for a format both were opened; they have a sector in common only if the hash image begins after the first one of their image
pub record OpensPlaced {S D : Type 0} (w : Calls S D) (places : TwoPlaces) (two : TwoImages D) : Type 0 where
  pub opened : OpensTwo w places.paths true two
  pub apart : is_taken two places.first ≡ false

-- both were opened, but have a sector in common otherwise
pub record AreOneImage {S D : Type 0} (w : Calls S D) (places : TwoPlaces) (file : UnopenedFile) : Type 0 where
  pub two : TwoImages D
  pub opened : OpensTwo w places.paths true two
  pub one : is_taken two places.first ≡ true
  pub is : (file.fault ≡ SameFile) × (file.path.now ≡ places.paths.hash_path)

abbrev pub FailsToOpenPlaced : {S D : Type 0} → Calls S D → TwoPlaces → UnopenedFile → Type 0
FailsToOpenPlaced w places file = FailsToOpenTwo w places.paths true file ⊎ AreOneImage w places file

-- ---- as a call sees them

abbrev pub OpensPlaces : {S D : Type 0} → Opener S D → (D → Device) → S → S → ImagePlaces → TwoImages D → Type 0
OpensPlaces relations state images images' places = OpensPlaced (calls relations state images images') (two_places places)

abbrev pub FailsToOpenPlaces : {S D : Type 0} → Opener S D → (D → Device) → S → S → ImagePlaces → UnopenedFile → Type 0
FailsToOpenPlaces relations state images images' places = FailsToOpenPlaced (calls relations state images images') (two_places places)
