-- What a system's calls show of files, in one history of the calls of an opener of files: the premise of who reads the commands'
-- clauses of real files. Each field is of one call that was made, by what the opener's clause states of it (`specs/FileRelations`).
-- What calls show of files (`ShowsFiles`) follows (`proofs/lemmas/ShownLemmas`). `at` is what is under each path after so many calls.
use Rattle.std.specs.Prelude.{◌≡◌, ◌↔◌, ◌/◌, ℕ, Bool, true, false, IsTrue, List, length, take, slice_get, Option, Some, None, Ok}
use Rattle.std.specs.Fs.{file_type, metadata_len, IsFile}
use Rattle.std.specs.declared.fs.attrs.Metadata.{Metadata}
use Rattle.block_device.specs.Device.{Device, sectors_of}
use Rattle.block_device.specs.FileCalls.{IsOfPath}
use Rattle.device_adapters.specs.declared.part.Part.{Part}
use Rattle.image_files.specs.declared.images.FileText.{FileText}
use Rattle.image_files.specs.declared.images.OpenImage.{OpenImage}
use Rattle.image_files.specs.FileRelations.{FileView, IsTextOf}
use Rattle.image_files.specs.Histories.{IsCallAt}
use Rattle.image_files.specs.ImageCalls.{ImageCall, Open, OpenPart, ReadText, Measure, Compare, Grow}
use Rattle.image_files.specs.Promises.{FileRecord, Files}

-- An open file is the one under its path: it has the identity and the size that the system reported, and `whole`, the device of all
-- its sectors, holds these. Nobody else writes it.
pub record IsOpenOf {S D C F : Type 0} (view : FileView S D C F) (opened : D) (whole : Device) (under : Option FileRecord) : Type 0 where
  pub file : FileRecord
  pub there : under ≡ Some file
  pub id : view.id opened ≡ file.id
  pub size : (sectors : ℕ) → view.sized opened sectors → sectors ≡ length file.bytes / 512
  pub image : whole.image ≡ sectors_of whole.size file.bytes
  pub steady : whole.steady ≡ true

-- the system said of a path what the file under it is: its kind, and the length of a regular one
pub record IsSaidOf (said : Metadata) (file : FileRecord) : Type 0 where
  pub regular : IsTrue file.regular ↔ IsFile (file_type said)
  pub long : IsTrue file.regular → metadata_len said ≡ length file.bytes

pub record SystemShows {S D C F : Type 0} (view : FileView S D C F) (calls : List (ImageCall D)) (at : ℕ → Files) : Type 0 where
  pub opened : (n : ℕ) (path : List ℕ) (writable : Bool) (image : OpenImage D) → slice_get calls n ≡ Some (Open path writable (Ok image)) → view.opened image.device path writable
      → IsOpenOf view image.device (view.state image.device) (at n path)
  pub opened_part : (n : ℕ) (path : List ℕ) (writable : Bool) (part : Part) (image : OpenImage D) → slice_get calls n ≡ Some (OpenPart path writable part (Ok image)) → view.opened image.device path writable
      → IsOpenOf view image.device (view.whole image.device) (at n path)
  -- a text is the first bytes of the file that was opened to read it
  pub told : (n : ℕ) (path : List ℕ) (most : ℕ) (text : FileText) (file : FileRecord) → slice_get calls n ≡ Some (ReadText path most (Ok text)) → IsTextOf (view.read path) path text → at n path ≡ Some file
      → (text.id ≡ file.id) × (text.bytes.items ≡ take most file.bytes)
  pub measured : (n : ℕ) (path : List ℕ) (part : Bool) (said : Metadata) (file : FileRecord) → slice_get calls n ≡ Some (Measure path (Ok part)) → IsOfPath path said → at n path ≡ Some file → IsSaidOf said file
  -- if two paths don't lead to one place, a file that is made under the one isn't there under the other
  pub made_apart : (n m n' : ℕ) (path other : List ℕ) (sectors : ℕ) → IsCallAt calls n (Compare path other (Ok false)) m → IsCallAt calls m (Grow path sectors (Ok tt)) n' → at m other ≡ None → at n' other ≡ None
