-- Images and texts as they are opened.
use Rattle.std.specs.Prelude.{◌≡◌, Bool, List, ℕ, Ok, Err}
use Rattle.image_files.specs.declared.images.FileText.{FileText}
use Rattle.image_files.specs.declared.images.OpenImage.{OpenImage}
use Rattle.image_files.specs.declared.opening.UnopenedFile.{UnopenedFile}
use Rattle.image_files.specs.Opener.{Calls}

-- the calls are one that opened the image under this path
abbrev pub Opens : {S D : Type 0} → Calls S D → List ℕ → Bool → OpenImage D → Type 0
Opens w path writable image = w.relations.opens w.old path writable (Ok image) w.new

-- or one that didn't, for this reason
pub record Refuses {S D : Type 0} (w : Calls S D) (path : List ℕ) (writable : Bool) (file : UnopenedFile) : Type 0 where
  pub path_is : file.path.now ≡ path
  pub refused : w.relations.opens w.old path writable (Err file.fault) w.new

-- the calls are one that told these first bytes, at most so many, of the file under this path
abbrev pub TellsFile : {S D : Type 0} → Calls S D → List ℕ → ℕ → FileText → Type 0
TellsFile w path most text = w.relations.tells w.old path most (Ok text) w.new

-- or one that didn't, for this reason
pub record RefusesText {S D : Type 0} (w : Calls S D) (path : List ℕ) (most : ℕ) (file : UnopenedFile) : Type 0 where
  pub path_is : file.path.now ≡ path
  pub refused : w.relations.tells w.old path most (Err file.fault) w.new
