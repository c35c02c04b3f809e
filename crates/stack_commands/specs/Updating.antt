-- What `update` does and prints, and how it ends early.
use Rattle.std.specs.Prelude.{◌≡◌, ◌⊎◌, ℕ, Bool, true, List, Option, map}
use Rattle.command_line.specs.declared.image_copies.ImageCopy.{ImageCopy}
use Rattle.command_line.specs.ImageCopies.{image_copy_record}
use Rattle.command_line.specs.words.Update.{UpdateRecord}
use Rattle.image_commands.specs.PinFiles.{IsPinFileEnd, ReadsPin}
use Rattle.image_files.specs.Opener.{Calls}
use Rattle.image_pin.specs.declared.pin.Pin.{Pin}
use Rattle.update_commands.specs.Commands.{IsUpdateEnd, Order, UpdatesFiles}
use Rattle.verity_commands.specs.declared.tree_fault.TreeFault.{TreeFault}
use Rattle.verity_commands.specs.Endings.{IsImageEnd}
use Rattle.stack_commands.specs.declared.fault.CommandFault.{CommandFault}
use Rattle.stack_commands.specs.Uses.{IsTreesEnd, IsVerityEnd}

-- what is updated by the words, to the release of a pin
abbrev pub order_by : UpdateRecord → Pin → Order
order_by u pin = record {
  places = record { data_path = u.data_path; hash_path = u.hash_path; first = 0; write = true };
  release_path = u.release_hash;
  pin = pin;
  pin_path = u.pin;
  no_index = u.no_index;
  json = u.json;
}

-- the pin was read, and then the image brought to its release, from the copies of the words
pub record UpdatesImage {S D : Type 0} (w : Calls S D) (u : UpdateRecord) (old new : Option (List ℕ)) : Type 0 where
  pub between : S
  pub pin : Pin
  pub copies : List ImageCopy
  pub are : map image_copy_record copies ≡ u.copies
  pub told : ReadsPin (record w { new = between }) u.pin pin
  pub updates : UpdatesFiles (record w { old = between }) (order_by u pin) copies old new

-- the pin was read, and then the update ended early, or blocks are lost
pub record EndsUpdatingImage {S D : Type 0} (w : Calls S D) (u : UpdateRecord) (old new : Option (List ℕ)) (failed : Bool) (fault : TreeFault) : Type 0 where
  pub between : S
  pub pin : Pin
  pub copies : List ImageCopy
  pub are : map image_copy_record copies ≡ u.copies
  pub told : ReadsPin (record w { new = between }) u.pin pin
  pub ends : IsUpdateEnd (record w { old = between }) (order_by u pin) copies old new failed fault

-- that, or the file has no pin, and nothing is printed
abbrev pub IsUpdateWordsEnd : {S D : Type 0} → Calls S D → UpdateRecord → Option (List ℕ) → Option (List ℕ) → Bool → CommandFault → Type 0
IsUpdateWordsEnd w u old new failed fault = (IsVerityEnd (IsImageEnd (IsPinFileEnd w u.pin)) fault × (new ≡ old)) ⊎ IsTreesEnd (EndsUpdatingImage w u old new failed) fault
