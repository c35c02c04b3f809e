-- Files that are opened whole to be read, of which all or a part is used.
use Rattle.std.specs.Prelude.{◌≡◌, ◌⊎◌, true, false, List, ℕ, Option, None, Some}
use Rattle.block_device.specs.declared.file_id.FileId.{FileId}
use Rattle.block_device.specs.declared.open_fault.OpenFault.TheVariants.{SameFile}
use Rattle.block_device.specs.Device.{Device}
use Rattle.device_adapters.specs.declared.part.Part.{Part}
use Rattle.device_adapters.specs.Parts.{LiesInside}
use Rattle.image_files.specs.declared.file_use.FileUse.{FileUse}
use Rattle.image_files.specs.declared.images.OpenImage.{OpenImage}
use Rattle.image_files.specs.declared.opening.UnopenedFile.{UnopenedFile}
use Rattle.image_files.specs.declared.parts.UnopenedPart.{UnopenedPart}
use Rattle.image_files.specs.declared.parts.UnopenedPart.TheVariants.{File, Outside}
use Rattle.image_files.specs.FileUses.{has_clash}
use Rattle.image_files.specs.Opened.{Opens, Refuses}
use Rattle.image_files.specs.Opener.{Calls, IsNarrowed}

-- a file of which all or a part is only read
abbrev pub read_use : Option FileId → Option Part → FileUse
read_use id part = record { id = id; writable = false; part = part }

-- the part is within the device; all of it is
abbrev pub IsWithin : Device → Option Part → Type 0
IsWithin device (Some part) = LiesInside device part
IsWithin device None = Unit {0}

-- the image under a path was opened; the part is within it, and clashes with none of these files
pub record OpensWholeFile {S D : Type 0} (w : Calls S D) (files : List FileUse) (path : List ℕ) (part : Option Part) (image : OpenImage D) : Type 0 where
  pub opened : Opens w path false image
  pub inside : IsWithin (w.state image.device) part
  pub apart : has_clash files (read_use image.id part) ≡ false

-- it was opened, but the part clashes with one of them
pub record IsPartInUse {S D : Type 0} (w : Calls S D) (files : List FileUse) (path : List ℕ) (part : Option Part) (file : UnopenedFile) : Type 0 where
  pub image : OpenImage D
  pub opened : Opens w path false image
  pub clash : has_clash files (read_use image.id part) ≡ true
  pub is : (file.fault ≡ SameFile) × (file.path.now ≡ path)

-- it was opened, but the part isn't within it
pub record IsPartOutside {S D : Type 0} (w : Calls S D) (path : List ℕ) (part : Option Part) (at : List ℕ) : Type 0 where
  pub image : OpenImage D
  pub opened : Opens w path false image
  pub outside : IsWithin (w.state image.device) part → ⊥
  pub is : at ≡ path

-- one of these, or it isn't opened
abbrev pub RefusesWholeFile : {S D : Type 0} → Calls S D → List FileUse → List ℕ → Option Part → UnopenedPart → Type 0
RefusesWholeFile w files path part (File file) = Refuses w path false file ⊎ IsPartInUse w files path part file
RefusesWholeFile w files path part (Outside at) = IsPartOutside w path part at.now

-- the device of the part
pub record NarrowsToPart {S D : Type 0} (w : Calls S D) (device : D) (part : Part) (narrowed : D) : Type 0 where
  pub narrows : w.relations.narrows w.old device part narrowed w.new
  pub is : IsNarrowed (w.state device) part (w.state narrowed)

-- that, or the device itself
abbrev pub NarrowsTo : {S D : Type 0} → Calls S D → D → Option Part → D → Type 0
NarrowsTo w device (Some part) narrowed = NarrowsToPart w device part narrowed
NarrowsTo w device None narrowed = (w.new ≡ w.old) × (narrowed ≡ device)
