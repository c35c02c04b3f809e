-- The root digest of a command on verity images, and its pin.
use Rattle.std.specs.Prelude.{◌≡◌, ◌/◌, ℕ, List, None, Some}
use Rattle.block_device.specs.Device.{Device}
use Rattle.command_line.specs.declared.values.RootOrPin.{RootOrPin}
use Rattle.command_line.specs.declared.values.RootWord.{RootWord}
use Rattle.command_line.specs.Values.{RootOrPinRecord, RootRecord, digest, pin_file, root_file, root_or_pin_record, root_record, root_word}
use Rattle.image_commands.specs.declared.fault.ImageFault.{ImageFault}
use Rattle.image_pin.specs.declared.trusted.TrustedRoot.{TrustedRoot}
use Rattle.image_commands.specs.PinFiles.{IsPinFileEnd, ReadsPin}
use Rattle.image_commands.specs.Places.{TwoPlaces}
use Rattle.image_commands.specs.RootFiles.{IsRootFileEnd, ReadsRoot}
use Rattle.image_files.specs.Opener.{Calls, Opener, calls}
use Rattle.image_pin.specs.declared.pin.Pin.{Pin}

-- it is the word's, and nothing is opened; or that of the file
abbrev pub TellsRoot : {S D : Type 0} → Calls S D → RootRecord → List ℕ → Type 0
TellsRoot w (digest root) found = (found ≡ root) × (w.new ≡ w.old)
TellsRoot w (root_file path) found = ReadsRoot w path found

-- the file has none
abbrev pub IsRootEnd : {S D : Type 0} → Calls S D → RootRecord → ImageFault → Type 0
IsRootEnd w (digest root) fault = ⊥
IsRootEnd w (root_file path) fault = IsRootFileEnd w path fault

-- a pin was read from the file, and its root is trusted with it
pub record TellsPin {S D : Type 0} (w : Calls S D) (path : List ℕ) (trusted : TrustedRoot) : Type 0 where
  pub pin : Pin
  pub read : ReadsPin w path pin
  pub root : trusted.root ≡ pin.root
  pub is : trusted.pin ≡ Some pin

-- a root digest without a pin, or the pin of a file
abbrev pub TellsTrusted : {S D : Type 0} → Calls S D → RootOrPinRecord → TrustedRoot → Type 0
TellsTrusted w (root_word word) trusted = TellsRoot w word trusted.root × (trusted.pin ≡ None)
TellsTrusted w (pin_file path) trusted = TellsPin w path trusted

-- the file has no root, or is no pin
abbrev pub IsTrustedEnd : {S D : Type 0} → Calls S D → RootOrPinRecord → ImageFault → Type 0
IsTrustedEnd w (root_word word) fault = IsRootEnd w word fault
IsTrustedEnd w (pin_file path) fault = IsPinFileEnd w path fault

-- the paths of data and hash images, and the sector at which the hash image begins
abbrev pub image_places : List ℕ → List ℕ → ℕ → TwoPlaces
image_places image hash offset = record { paths = record { data_path = image; hash_path = hash }; first = offset / 512 }

-- ---- as a call sees them

abbrev pub FindsRoot : {S D : Type 0} → Opener S D → (D → Device) → S → S → RootWord → List ℕ → Type 0
FindsRoot relations state images images' root = TellsRoot (calls relations state images images') (root_record root)

abbrev pub FindsNoRoot : {S D : Type 0} → Opener S D → (D → Device) → S → S → RootWord → ImageFault → Type 0
FindsNoRoot relations state images images' root = IsRootEnd (calls relations state images images') (root_record root)

abbrev pub FindsTrusted : {S D : Type 0} → Opener S D → (D → Device) → S → S → RootOrPin → TrustedRoot → Type 0
FindsTrusted relations state images images' word = TellsTrusted (calls relations state images images') (root_or_pin_record word)

abbrev pub FindsNoTrusted : {S D : Type 0} → Opener S D → (D → Device) → S → S → RootOrPin → ImageFault → Type 0
FindsNoTrusted relations state images images' word = IsTrustedEnd (calls relations state images images') (root_or_pin_record word)
