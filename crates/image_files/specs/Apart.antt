-- Images that are opened beside files which are open already.
use Rattle.std.specs.Prelude.{◌≡◌, ◌⊎◌, ℕ, Bool, true, false, List}
use Rattle.block_device.specs.declared.open_fault.OpenFault.TheVariants.{SameFile}
use Rattle.image_files.specs.declared.file_use.FileUse.{FileUse}
use Rattle.image_files.specs.declared.images.OpenImage.{OpenImage}
use Rattle.image_files.specs.declared.opening.UnopenedFile.{UnopenedFile}
use Rattle.image_files.specs.FileUses.{has_clash, image_use}
use Rattle.image_files.specs.Opened.{Opens, Refuses}
use Rattle.image_files.specs.Opener.{Calls}

-- the image under a path was opened, and clashes with none of these files
pub record OpensApart {S D : Type 0} (w : Calls S D) (files : List FileUse) (path : List ℕ) (writable : Bool) (image : OpenImage D) : Type 0 where
  pub opened : Opens w path writable image
  pub apart : has_clash files (image_use writable image) ≡ false

-- it was opened, but clashes with one of them
pub record IsOpenAlready {S D : Type 0} (w : Calls S D) (files : List FileUse) (path : List ℕ) (writable : Bool) (file : UnopenedFile) : Type 0 where
  pub image : OpenImage D
  pub opened : Opens w path writable image
  pub clash : has_clash files (image_use writable image) ≡ true
  pub is : (file.fault ≡ SameFile) × (file.path.now ≡ path)

-- that, or it isn't opened
abbrev pub RefusesApart : {S D : Type 0} → Calls S D → List FileUse → List ℕ → Bool → UnopenedFile → Type 0
RefusesApart w files path writable file = Refuses w path writable file ⊎ IsOpenAlready w files path writable file
