-- Parts of images that are opened beside files which are open already.
use Rattle.std.specs.Prelude.{◌≡◌, ◌⊎◌, ℕ, Bool, true, false, List, Ok, Err}
use Rattle.block_device.specs.declared.open_fault.OpenFault.TheVariants.{SameFile}
use Rattle.device_adapters.specs.declared.part.Part.{Part}
use Rattle.image_files.specs.declared.file_use.FileUse.{FileUse}
use Rattle.image_files.specs.declared.images.OpenImage.{OpenImage}
use Rattle.image_files.specs.declared.opening.UnopenedFile.{UnopenedFile}
use Rattle.image_files.specs.declared.parts.PartFault.TheVariants as part_fault
use Rattle.image_files.specs.declared.parts.UnopenedPart.{UnopenedPart}
use Rattle.image_files.specs.declared.parts.UnopenedPart.TheVariants.{File, Outside}
use Rattle.image_files.specs.FileUses.{has_clash, part_use}
use Rattle.image_files.specs.Opener.{Calls}

-- that part of the image under a path was opened, and clashes with none of these files
pub record OpensPart {S D : Type 0} (w : Calls S D) (files : List FileUse) (path : List ℕ) (writable : Bool) (part : Part) (image : OpenImage D) : Type 0 where
  pub opened : w.relations.opens_part w.old path writable part (Ok image) w.new
  pub apart : has_clash files (part_use writable part image) ≡ false

-- the image isn't opened, for this reason
pub record IsNoPart {S D : Type 0} (w : Calls S D) (path : List ℕ) (writable : Bool) (part : Part) (file : UnopenedFile) : Type 0 where
  pub path_is : file.path.now ≡ path
  pub refused : w.relations.opens_part w.old path writable part (Err (part_fault.Open file.fault)) w.new

-- the part was opened, but clashes with one of them
pub record IsPartOpen {S D : Type 0} (w : Calls S D) (files : List FileUse) (path : List ℕ) (writable : Bool) (part : Part) (file : UnopenedFile) : Type 0 where
  pub image : OpenImage D
  pub opened : w.relations.opens_part w.old path writable part (Ok image) w.new
  pub clash : has_clash files (part_use writable part image) ≡ true
  pub is : (file.fault ≡ SameFile) × (file.path.now ≡ path)

-- one of these, or the part isn't inside the image
abbrev pub RefusesPart : {S D : Type 0} → Calls S D → List FileUse → List ℕ → Bool → Part → UnopenedPart → Type 0
RefusesPart w files path writable part (File file) = IsNoPart w path writable part file ⊎ IsPartOpen w files path writable part file
RefusesPart w files path writable part (Outside at) = (at.now ≡ path) × w.relations.opens_part w.old path writable part (Err part_fault.Outside) w.new
