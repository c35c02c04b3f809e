-- Pins and root hashes in files.
use Rattle.std.specs.Borrow.{Bor}
use Rattle.std.specs.Prelude.{◌≡◌, ◌⊎◌, ◌||◌, ℕ, Bool, true, false, List, Option, None, Some, Ok, Err}
use Rattle.allocation.specs.Refusal.{IsOutOfMemory}
use Rattle.block_device.specs.declared.file_id.FileId.{FileId}
use Rattle.block_device.specs.declared.open_fault.OpenFault.{OpenFault}
use Rattle.block_device.specs.declared.open_fault.OpenFault.TheVariants.{SameFile}
use Rattle.command_line.specs.declared.image_options.ImageOptions.{ImageOptions}
use Rattle.command_line.specs.declared.root_file.RootForm.{RootForm}
use Rattle.command_line.specs.declared.root_file.RootForm.TheVariants.{Digits, Pin as PinForm}
use Rattle.command_line.specs.FilePlaces.{FilePlaceRecord, file_place_of}
use Rattle.command_line.specs.RootFiles.{RootFileRecord}
use Rattle.hex.specs.Hex.{encode_lower}
use Rattle.image_files.specs.declared.images.FileText.{FileText}
use Rattle.image_files.specs.declared.opening.UnopenedFile.{UnopenedFile}
use Rattle.image_files.specs.OneFile.{is_one_file}
use Rattle.image_files.specs.OnePlace.{Compares, FailsToCompare}
use Rattle.image_files.specs.Opener.{Calls}
use Rattle.image_files.specs.declared.texts.ReplaceFault.{ReplaceFault}
use Rattle.image_pin.specs.declared.fault.PinFault.{PinFault}
use Rattle.image_pin.specs.declared.pin.Pin.{Pin}
use Rattle.image_pin.specs.PinTexts.{limited_pin, pin_text}
use Rattle.verity_format.specs.Superblock.{SuperRecord}
use Rattle.image_commands.specs.declared.fault.ImageFault.{ImageFault}
use Rattle.image_commands.specs.declared.fault.ImageFault.TheVariants as image
use Rattle.image_commands.specs.declared.format.MadeImage.{MadeImage}
use Rattle.image_commands.specs.OldPins.{RefusesOld, ReplacesOld}

-- the text of the file under the path, of which at most 4,097 bytes are taken, says that pin
pub record ReadsPin {S D : Type 0} (w : Calls S D) (path : List ℕ) (pin : Pin) : Type 0 where
  pub text : FileText
  pub told : w.relations.tells w.old path 4097 (Ok text) w.new
  pub says : limited_pin text.bytes.items ≡ Ok pin

-- the file isn't read
pub record IsPinUntold {S D : Type 0} (w : Calls S D) (path : List ℕ) (file : UnopenedFile) : Type 0 where
  pub path_is : file.path.now ≡ path
  pub told : w.relations.tells w.old path 4097 (Err file.fault) w.new

-- or its text is no pin
pub record HasNoPin {S D : Type 0} (w : Calls S D) (path : List ℕ) (fault : PinFault) : Type 0 where
  pub text : FileText
  pub told : w.relations.tells w.old path 4097 (Ok text) w.new
  pub says : limited_pin text.bytes.items ≡ Err fault

abbrev pub IsPinFileEnd : {S D : Type 0} → Calls S D → List ℕ → ImageFault → Type 0
IsPinFileEnd w path (image.Open file) = IsPinUntold w path file
IsPinFileEnd w path (image.Pin fault) = HasNoPin w path fault
IsPinFileEnd w path fault = ⊥

-- the pin of an image that was made with these options
abbrev pub pin_of_image : ImageOptions → MadeImage → Pin
pin_of_image options made = record { root = made.root; salt = made.salt; data_block = options.data_block; hash_block = options.hash_block; blocks = made.blocks }

-- the pin of a root hash with the values of a superblock
abbrev pub pin_in : List ℕ → SuperRecord → Pin
pin_in root s = record { root = root; salt = s.salt; data_block = s.data_block; hash_block = s.hash_block; blocks = s.blocks }

-- what is written to a file: the digits of the root hash, or the pin
abbrev pub root_file_text : RootForm → Pin → List ℕ
root_file_text Digits pin = encode_lower pin.root
root_file_text PinForm pin = pin_text pin

-- which file a path leads to, if there is one and the system states it
abbrev pub TellsId : {S D : Type 0} → Calls S D → List ℕ → Option FileId → Type 0
TellsId w path id =
    ((text : FileText) × w.relations.tells w.old path 0 (Ok text) w.new × (id ≡ text.id))
    ⊎ ((fault : OpenFault) × w.relations.tells w.old path 0 (Err fault) w.new × (id ≡ None))

-- which file it is of which an argument names a part, if it names one
abbrev pub TellsPartId : {S D : Type 0} → Calls S D → Option FilePlaceRecord → Option FileId → Type 0
TellsPartId w None id = (w.new ≡ w.old) × (id ≡ None)
TellsPartId w (Some place) id = TellsId w place.path id

-- which file the image is in that an argument names: the one under the argument or, if it isn't told, the one of which it names a part
abbrev pub TellsPlaceId : {S D : Type 0} → Calls S D → List ℕ → Option FileId → Type 0
TellsPlaceId {S} w text id =
    ((found : FileText) × w.relations.tells w.old text 0 (Ok found) w.new × (id ≡ found.id))
    ⊎ ((between : S) × ((fault : OpenFault) × (w.relations.tells w.old text 0 (Err fault) between × TellsPartId (record w { old = between }) (file_place_of text) id)))

-- one of two images is in the file of a pin, or that leads to the place of the hash image, as far as the opener tells
pub record ToldApart {S D : Type 0} (w : Calls S D) (data_path hash_path path : List ℕ) (is_one : Bool) : Type 0 where
  pub compared : S
  pub pin_told : S
  pub data_told : S
  pub pin_id : Option FileId
  pub data_id : Option FileId
  pub hash_id : Option FileId
  pub one : Bool
  pub compares : Compares (record w { new = compared }) path hash_path one
  pub pin_tells : TellsId (record w { old = compared; new = pin_told }) path pin_id
  pub data_tells : TellsPlaceId (record w { old = pin_told; new = data_told }) data_path data_id
  pub hash_tells : TellsPlaceId (record w { old = data_told }) hash_path hash_id
  pub is : (one || is_one_file pin_id data_id || is_one_file pin_id hash_id) ≡ is_one

abbrev pub AreApart : {S D : Type 0} → Calls S D → List ℕ → List ℕ → List ℕ → Type 0
AreApart w data_path hash_path path = ToldApart w data_path hash_path path false

-- it is one of them, or memory ran out before that was known
abbrev pub AreOne : {S D : Type 0} → Calls S D → List ℕ → List ℕ → List ℕ → ImageFault → Type 0
AreOne w data_path hash_path path (image.Open file) =
    (ToldApart w data_path hash_path path true × (file.fault ≡ SameFile) × (file.path.now ≡ path)) ⊎ FailsToCompare w path hash_path file
AreOne w data_path hash_path path fault = ⊥

-- it is neither of them, a file can be created beside it, and what it holds may be replaced
pub record IsPinPath {S D : Type 0} (w : Calls S D) (data_path hash_path : List ℕ) (file : RootFileRecord) : Type 0 where
  pub told : S
  pub drafted : S
  pub apart : AreApart (record w { new = told }) data_path hash_path file.path
  pub tried : w.relations.tries told file.path (Ok tt) drafted
  pub replaces : ReplacesOld (record w { old = drafted }) file.form file.path

-- it is neither of them, but no file can be created beside it
pub record HasNoPinFile {S D : Type 0} (w : Calls S D) (data_path hash_path path : List ℕ) (fault : ImageFault) : Type 0 where
  pub told : S
  pub cause : ReplaceFault
  pub apart : AreApart (record w { new = told }) data_path hash_path path
  pub tried : w.relations.tries told path (Err cause) w.new
  pub is : fault ≡ image.PinUnwritten cause

-- it is neither of them, but what it holds may not be replaced
pub record HoldsOther {S D : Type 0} (w : Calls S D) (data_path hash_path : List ℕ) (file : RootFileRecord) (fault : ImageFault) : Type 0 where
  pub told : S
  pub drafted : S
  pub apart : AreApart (record w { new = told }) data_path hash_path file.path
  pub tried : w.relations.tries told file.path (Ok tt) drafted
  pub refuses : RefusesOld (record w { old = drafted }) file.form file.path fault

-- one of these; no file was changed
abbrev pub IsNoPinPath : {S D : Type 0} → Calls S D → List ℕ → List ℕ → RootFileRecord → ImageFault → Type 0
IsNoPinPath w data_path hash_path file fault =
    AreOne w data_path hash_path file.path fault ⊎ (HasNoPinFile w data_path hash_path file.path fault ⊎ HoldsOther w data_path hash_path file fault)

-- the file is neither of two images, and then the pin or its root hash replaced what it held, which may be replaced
pub record WritesPin {S D : Type 0} (w : Calls S D) (data_path hash_path : List ℕ) (file : RootFileRecord) (pin : Pin) : Type 0 where
  pub told : S
  pub read : S
  pub apart : AreApart (record w { new = told }) data_path hash_path file.path
  pub replaces : ReplacesOld (record w { old = told; new = read }) file.form file.path
  pub replaced : w.relations.replaces read file.path (root_file_text file.form pin) (Ok tt) w.new

-- it didn't, or an allocation for the text was refused and nothing was called
abbrev pub IsUnreplaced : {S D : Type 0} → Calls S D → RootFileRecord → Pin → ImageFault → Type 0
IsUnreplaced w file pin (image.PinUnwritten fault) = w.relations.replaces w.old file.path (root_file_text file.form pin) (Err fault) w.new
IsUnreplaced w file pin image.NoMemory = (w.new ≡ w.old) × IsOutOfMemory 512
IsUnreplaced w file pin fault = ⊥

-- it is neither of them and may be replaced, but wasn't
pub record FailsToReplace {S D : Type 0} (w : Calls S D) (data_path hash_path : List ℕ) (file : RootFileRecord) (pin : Pin) (fault : ImageFault) : Type 0 where
  pub told : S
  pub read : S
  pub apart : AreApart (record w { new = told }) data_path hash_path file.path
  pub replaces : ReplacesOld (record w { old = told; new = read }) file.form file.path
  pub unreplaced : IsUnreplaced (record w { old = read }) file pin fault

-- it is neither of them, but what it holds may not be replaced
pub record KeepsOld {S D : Type 0} (w : Calls S D) (data_path hash_path : List ℕ) (file : RootFileRecord) (fault : ImageFault) : Type 0 where
  pub told : S
  pub apart : AreApart (record w { new = told }) data_path hash_path file.path
  pub refuses : RefusesOld (record w { old = told }) file.form file.path fault

-- it is one of them, may not be replaced, or wasn't
abbrev pub IsPinUnwritten : {S D : Type 0} → Calls S D → List ℕ → List ℕ → RootFileRecord → Pin → ImageFault → Type 0
IsPinUnwritten w data_path hash_path file pin fault =
    AreOne w data_path hash_path file.path fault ⊎ (KeepsOld w data_path hash_path file fault ⊎ FailsToReplace w data_path hash_path file pin fault)

-- ---- the file of a format's pin or root hash, if it has one

-- it has none, or it can be written
abbrev pub CanWriteRoot : {S D : Type 0} → Calls S D → List ℕ → List ℕ → Option RootFileRecord → Type 0
CanWriteRoot w data_path hash_path None = w.new ≡ w.old
CanWriteRoot w data_path hash_path (Some file) = IsPinPath w data_path hash_path file

-- it has one, which can't be written
abbrev pub IsRootRefused : {S D : Type 0} → Calls S D → List ℕ → List ℕ → Option RootFileRecord → ImageFault → Type 0
IsRootRefused w data_path hash_path None fault = ⊥
IsRootRefused w data_path hash_path (Some file) fault = IsNoPinPath w data_path hash_path file fault

-- it has none, or that isn't the file which another argument names
abbrev pub IsOtherFile : {S D : Type 0} → Calls S D → List ℕ → Option RootFileRecord → Type 0
IsOtherFile w other None = w.new ≡ w.old
IsOtherFile w other (Some file) = AreApart w other other file.path

-- it is that file, or memory ran out before that was known
abbrev pub IsSameFile : {S D : Type 0} → Calls S D → List ℕ → Option RootFileRecord → ImageFault → Type 0
IsSameFile w other None fault = ⊥
IsSameFile w other (Some file) fault = AreOne w other other file.path fault

-- it has none, or the pin or its root hash was written to it
abbrev pub WritesRoot : {S D : Type 0} → Calls S D → List ℕ → List ℕ → Option RootFileRecord → Pin → Type 0
WritesRoot w data_path hash_path None pin = w.new ≡ w.old
WritesRoot w data_path hash_path (Some file) pin = WritesPin w data_path hash_path file pin

-- it has one, to which it wasn't written
abbrev pub IsRootUnwritten : {S D : Type 0} → Calls S D → List ℕ → List ℕ → Option RootFileRecord → Pin → ImageFault → Type 0
IsRootUnwritten w data_path hash_path None pin fault = ⊥
IsRootUnwritten w data_path hash_path (Some file) pin fault = IsPinUnwritten w data_path hash_path file pin fault
