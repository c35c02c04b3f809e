-- What the file of a pin holds before: nothing that is lost if the pin replaces it.
use Rattle.std.specs.Prelude.{◌≡◌, ◌⊎◌, ℕ, false, List, [], ◌∷◌, Option, None, Some, Ok, Err}
use Rattle.std.specs.Result.{result_err}
use Rattle.block_device.specs.declared.open_fault.OpenFault.TheVariants.{NotFound}
use Rattle.command_line.specs.declared.root_file.RootForm.{RootForm}
use Rattle.command_line.specs.declared.root_file.RootForm.TheVariants.{Digits, Pin as PinForm}
use Rattle.image_files.specs.declared.images.FileText.{FileText}
use Rattle.image_files.specs.declared.opening.UnopenedFile.{UnopenedFile}
use Rattle.image_files.specs.OpenPlaces.{is_missing}
use Rattle.image_files.specs.Opener.{Calls}
use Rattle.image_pin.specs.declared.fault.PinFault.{PinFault}
use Rattle.image_pin.specs.PinTexts.{limited_pin}
use Rattle.image_commands.specs.declared.fault.ImageFault.{ImageFault}
use Rattle.image_commands.specs.declared.fault.ImageFault.TheVariants as image

-- why a pin doesn't replace a text: it isn't empty, and is no pin
abbrev pub old_pin_fault : List ℕ → Option PinFault
old_pin_fault [] = None
old_pin_fault (byte ∷ text) = result_err (limited_pin (byte ∷ text))

-- the file was read, of which at most 4,097 bytes are taken: it is empty or holds a pin
pub record HoldsOldPin {S D : Type 0} (w : Calls S D) (path : List ℕ) : Type 0 where
  pub text : FileText
  pub told : w.relations.tells w.old path 4097 (Ok text) w.new
  pub pin : old_pin_fault text.bytes.items ≡ None

-- that, or there is no file
abbrev pub HasOldPin : {S D : Type 0} → Calls S D → List ℕ → Type 0
HasOldPin w path = HoldsOldPin w path ⊎ w.relations.tells w.old path 4097 (Err NotFound) w.new

-- the file holds something else
pub record HoldsOtherText {S D : Type 0} (w : Calls S D) (path : List ℕ) (fault : PinFault) : Type 0 where
  pub text : FileText
  pub told : w.relations.tells w.old path 4097 (Ok text) w.new
  pub other : old_pin_fault text.bytes.items ≡ Some fault

-- the file is there, or may be, and isn't read
pub record IsOldUntold {S D : Type 0} (w : Calls S D) (path : List ℕ) (file : UnopenedFile) : Type 0 where
  pub path_is : file.path.now ≡ path
  pub found : is_missing file.fault ≡ false
  pub told : w.relations.tells w.old path 4097 (Err file.fault) w.new

abbrev pub HasOtherText : {S D : Type 0} → Calls S D → List ℕ → ImageFault → Type 0
HasOtherText w path (image.Open file) = IsOldUntold w path file
HasOtherText w path (image.Pin fault) = HoldsOtherText w path fault
HasOtherText w path fault = ⊥

-- what a file holds may be replaced by a pin or the digits of a root hash, which replace any text
abbrev pub ReplacesOld : {S D : Type 0} → Calls S D → RootForm → List ℕ → Type 0
ReplacesOld w Digits path = w.new ≡ w.old
ReplacesOld w PinForm path = HasOldPin w path

abbrev pub RefusesOld : {S D : Type 0} → Calls S D → RootForm → List ℕ → ImageFault → Type 0
RefusesOld w Digits path fault = ⊥
RefusesOld w PinForm path fault = HasOtherText w path fault
