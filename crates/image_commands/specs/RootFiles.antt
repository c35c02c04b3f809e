-- A root digest in a file.
use Rattle.std.specs.Prelude.{◌≡◌, ℕ, List, Option, Some, None, Ok, Err}
use Rattle.std.specs.Result.{result_ok}
use Rattle.hex.specs.Hex.{decode_sized}
use Rattle.image_files.specs.declared.images.FileText.{FileText}
use Rattle.image_files.specs.declared.opening.UnopenedFile.{UnopenedFile}
use Rattle.image_files.specs.Opener.{Calls}
use Rattle.image_commands.specs.declared.fault.ImageFault.{ImageFault}
use Rattle.image_commands.specs.declared.fault.ImageFault.TheVariants.{Open, RootText}

-- the digest that 64 hexadecimal digits are
unfoldable pub digest_of : List ℕ → Option (List ℕ)
digest_of digits = result_ok (decode_sized digits 32)

-- the first 64 bytes of the file under the path are its digits
pub record ReadsRoot {S D : Type 0} (w : Calls S D) (path root : List ℕ) : Type 0 where
  pub text : FileText
  pub told : w.relations.tells w.old path 64 (Ok text) w.new
  pub digits : digest_of text.bytes.items ≡ Some root

-- the file isn't read
pub record IsUntold {S D : Type 0} (w : Calls S D) (path : List ℕ) (file : UnopenedFile) : Type 0 where
  pub path_is : file.path.now ≡ path
  pub told : w.relations.tells w.old path 64 (Err file.fault) w.new

-- or its first 64 bytes are no digest
pub record HasNoRoot {S D : Type 0} (w : Calls S D) (path : List ℕ) : Type 0 where
  pub text : FileText
  pub told : w.relations.tells w.old path 64 (Ok text) w.new
  pub none : digest_of text.bytes.items ≡ None

abbrev pub IsRootFileEnd : {S D : Type 0} → Calls S D → List ℕ → ImageFault → Type 0
IsRootFileEnd w path (Open file) = IsUntold w path file
IsRootFileEnd w path RootText = HasNoRoot w path
IsRootFileEnd w path fault = ⊥
