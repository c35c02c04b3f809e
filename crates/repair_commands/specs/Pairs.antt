-- Which images `repair` opens, in which order, for reading or writing, and which parts of them it repairs.
use Rattle.std.specs.Prelude.{◌≡◌, ◌⊎◌, ℕ, ◌+◌, ◌-◌, ◌^◌, min, Bool, true, false, List, [], ◌∷◌, Option, None, Some}
use Rattle.block_device.specs.declared.open_fault.OpenFault.TheVariants.{SameFile}
use Rattle.block_device.specs.Device.{Device}
use Rattle.device_adapters.specs.declared.part.Part.{Part}
use Rattle.device_adapters.specs.Parts.{part_before, part_behind}
use Rattle.image_commands.specs.declared.paths.TwoImages.{TwoImages}
use Rattle.image_commands.specs.Places.{TwoPlaces, data_end}
use Rattle.image_files.specs.declared.file_use.FileUse.{FileUse}
use Rattle.image_files.specs.declared.opening.UnopenedFile.{UnopenedFile}
use Rattle.image_files.specs.declared.placed_image.PlacedImage.{PlacedImage}
use Rattle.image_files.specs.FileUses.{is_clash, part_use}
use Rattle.image_files.specs.Opener.{Calls, IsNarrowed, Opener, calls}
use Rattle.image_files.specs.OpenPlaces.{OpensPlace, RefusesPlace}
use Rattle.repair_commands.specs.declared.pair.Pair.{Pair}
use Rattle.repair_commands.specs.declared.pair.Parts.{Parts}
use Rattle.repair_commands.specs.declared.pair.RepairPlaces.{RepairPlaces}

pub record Places : Type 0 where
  pub data_path : List ℕ
  pub hash_path : List ℕ
  pub first : ℕ
  pub write : Bool

abbrev pub places_of : RepairPlaces → Places
places_of p = record { data_path = p.«data».now; hash_path = p.hash.now; first = p.hash_first; write = p.write }

-- where the two images are
abbrev pub pair_places : Places → TwoPlaces
pair_places p = record { paths = record { data_path = p.data_path; hash_path = p.hash_path }; first = p.first }

-- a part of what is a part of a file, or all of it, as a part of the file; no file reaches to the sector at which the sum is cut off
abbrev pub part_in : Option Part → Part → Part
part_in None part = part
part_in (Some outer) part = record { first = min (outer.first + part.first) (2 ^ 64 - 1); count = part.count }

-- both images were opened, each once and the data image first, for writing too if the repair may write
pub record OpensFiles {S D : Type 0} (w : Calls S D) (p : Places) (files : TwoImages D) : Type 0 where
  pub between : S
  pub data_opened : OpensPlace (record w { new = between }) p.data_path p.write files.«data»
  pub hash_opened : OpensPlace (record w { old = between }) p.hash_path p.write files.hash

-- the data image was opened, and the hash image couldn't be
pub record RefusesOther {S D : Type 0} (w : Calls S D) (p : Places) (file : UnopenedFile) : Type 0 where
  pub between : S
  pub data_image : PlacedImage D
  pub data_opened : OpensPlace (record w { new = between }) p.data_path p.write data_image
  pub refused : RefusesPlace (record w { old = between }) p.hash_path p.write file

abbrev pub FailsToOpenFiles : {S D : Type 0} → Calls S D → Places → UnopenedFile → Type 0
FailsToOpenFiles w p file = RefusesPlace w p.data_path p.write file ⊎ RefusesOther w p file

-- ---- the parts

-- what is repaired of the open data image: all of it, or all before the hash image if both are one image
abbrev pub data_in : {D : Type 0} → (D → Device) → ℕ → TwoImages D → Part
data_in state first files = part_before (state files.«data».device) (data_end files first)

-- what is repaired of the open hash image: all from its first sector on
abbrev pub hash_in : {D : Type 0} → (D → Device) → ℕ → TwoImages D → Part
hash_in state first files = part_behind (state files.hash.device) first

-- these are the parts of their files
pub record MeasuresBoth {D : Type 0} (state : D → Device) (first : ℕ) (files : TwoImages D) (parts : Parts) : Type 0 where
  pub data_part : parts.data_part ≡ part_in files.«data».place.part (data_in state first files)
  pub hash_part : parts.hash_part ≡ part_in files.hash.place.part (hash_in state first files)
  pub paths : (parts.data_path.now ≡ files.«data».place.path.now) × (parts.hash_path.now ≡ files.hash.place.path.now)

-- a device was made of a part of an open one
pub record Narrows {S D : Type 0} (w : Calls S D) (device : D) (part : Part) (narrowed : D) : Type 0 where
  pub made : w.relations.narrows w.old device part narrowed w.new
  pub is : IsNarrowed (w.state device) part (w.state narrowed)

-- devices were made of what is repaired of the open images
pub record NarrowsBoth {S D : Type 0} (w : Calls S D) (first : ℕ) (files : TwoImages D) (pair : Pair D) : Type 0 where
  pub between : S
  pub data_narrowed : Narrows (record w { new = between }) files.«data».device (data_in w.state first files) pair.data_image.device
  pub hash_narrowed : Narrows (record w { old = between }) files.hash.device (hash_in w.state first files) pair.hash_image.device
  pub ids : (pair.data_image.id ≡ files.«data».id) × (pair.hash_image.id ≡ files.hash.id)

-- both images were opened, and these are the devices of what is repaired of them
pub record OpensParts {S D : Type 0} (w : Calls S D) (p : Places) (parts : Parts) (pair : Pair D) : Type 0 where
  pub between : S
  pub files : TwoImages D
  pub opens : OpensFiles (record w { new = between }) p files
  pub measures : MeasuresBoth w.state p.first files parts
  pub narrows : NarrowsBoth (record w { old = between }) p.first files pair

-- the two parts have a sector of one file in common, and may be written
abbrev pub do_clash : {D : Type 0} → Bool → Parts → Pair D → Bool
do_clash write parts pair = is_clash (part_use write parts.data_part pair.data_image) (part_use write parts.hash_part pair.hash_image)

-- this is the fault then
pub record IsOverlap {D : Type 0} (p : Places) (parts : Parts) (pair : Pair D) (file : UnopenedFile) : Type 0 where
  pub clash : do_clash p.write parts pair ≡ true
  pub is : (file.fault ≡ SameFile) × (file.path.now ≡ p.hash_path)

-- both parts are open; if they are writable, they don't overlap
pub record OpensPair {S D : Type 0} (w : Calls S D) (p : Places) (parts : Parts) (pair : Pair D) : Type 0 where
  pub opened : OpensParts w p parts pair
  pub apart : do_clash p.write parts pair ≡ false

-- both parts were opened, but are writable and overlap
pub record OpensOverlapping {S D : Type 0} (w : Calls S D) (p : Places) (file : UnopenedFile) : Type 0 where
  pub parts : Parts
  pub pair : Pair D
  pub opened : OpensParts w p parts pair
  pub overlap : IsOverlap p parts pair file

abbrev pub FailsToOpenPair : {S D : Type 0} → Calls S D → Places → UnopenedFile → Type 0
FailsToOpenPair w p file = FailsToOpenFiles w p file ⊎ OpensOverlapping w p file

-- how the two files are used then
abbrev pub pair_uses : {D : Type 0} → Bool → Parts → Pair D → List FileUse
pair_uses write parts pair = part_use write parts.data_part pair.data_image ∷ part_use write parts.hash_part pair.hash_image ∷ []

-- ---- in terms of an opener before and after, and the places in the arguments

abbrev pub AreFilesOpened : {S D : Type 0} → Opener S D → (D → Device) → S → S → RepairPlaces → TwoImages D → Type 0
AreFilesOpened relations state old new places files = OpensFiles (calls relations state old new) (places_of places) files

abbrev pub IsFileUnopened : {S D : Type 0} → Opener S D → (D → Device) → S → S → RepairPlaces → UnopenedFile → Type 0
IsFileUnopened relations state old new places file = FailsToOpenFiles (calls relations state old new) (places_of places) file

abbrev pub AreNarrowed : {S D : Type 0} → Opener S D → (D → Device) → S → S → ℕ → TwoImages D → Pair D → Type 0
AreNarrowed relations state old new first files pair = NarrowsBoth (calls relations state old new) first files pair

abbrev pub IsOverlapAt : {D : Type 0} → RepairPlaces → Parts → Pair D → UnopenedFile → Type 0
IsOverlapAt places parts pair file = IsOverlap (places_of places) parts pair file
