-- The file of the pin is none of the images that are updated.
use Rattle.std.specs.Prelude.{◌≡◌, ◌⊎◌, List, ℕ}
use Rattle.image_commands.specs.declared.fault.ImageFault.{ImageFault}
use Rattle.image_commands.specs.declared.fault.ImageFault.TheVariants as image
use Rattle.image_commands.specs.PinFiles.{AreApart, AreOne}
use Rattle.image_files.specs.declared.opening.UnopenedFile.{UnopenedFile}
use Rattle.image_files.specs.Opener.{Calls}
use Rattle.repair_commands.specs.Pairs.{Places}

-- the file of the pin is neither DATA nor HASH, as far as the opener tells
pub record IsPinApart {S D : Type 0} (w : Calls S D) (p : Places) (pin : List ℕ) : Type 0 where
  pub between : S
  pub data_apart : AreApart (record w { new = between }) p.data_path p.data_path pin
  pub hash_apart : AreApart (record w { old = between }) p.hash_path p.hash_path pin

-- it isn't DATA, and it is HASH, or memory ran out before that was known
pub record IsPinHash {S D : Type 0} (w : Calls S D) (p : Places) (pin : List ℕ) (file : UnopenedFile) : Type 0 where
  pub between : S
  pub data_apart : AreApart (record w { new = between }) p.data_path p.data_path pin
  pub one : AreOne (record w { old = between }) p.hash_path p.hash_path pin (image.Open file)

-- it is DATA, or memory ran out before that was known; or that of HASH
abbrev pub IsPinTaken : {S D : Type 0} → Calls S D → Places → List ℕ → UnopenedFile → Type 0
IsPinTaken w p pin file = AreOne w p.data_path p.data_path pin (image.Open file) ⊎ IsPinHash w p pin file

-- the file of a fault, or another one
abbrev pub file_in : ImageFault → UnopenedFile → UnopenedFile
file_in (image.Open file) other = file
file_in fault other = other
