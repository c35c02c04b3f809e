-- What `update` does to files, and how it ends.
use Rattle.std.specs.Prelude.{◌≡◌, ◌⊎◌, ℕ, Bool, List, Option}
use Rattle.block_device.specs.Device.{Device}
use Rattle.command_line.specs.declared.image_copies.ImageCopy.{ImageCopy}
use Rattle.image_commands.specs.Places.{IsStateOf}
use Rattle.image_files.specs.declared.opening.UnopenedFile.{UnopenedFile}
use Rattle.image_files.specs.Opener.{Calls, Opener, calls}
use Rattle.image_pin.specs.declared.pin.Pin.{Pin}
use Rattle.program_io.specs.Counted.{CountedRecord}
use Rattle.repair_commands.specs.declared.opening.Opened.{Opened}
use Rattle.repair_commands.specs.Commands.{GivesBack, opened_world}
use Rattle.repair_commands.specs.Openings.{FailsToOpenCopies, OpensAll}
use Rattle.repair_commands.specs.Pairs.{Places, places_of as places_as}
use Rattle.verity_commands.specs.declared.tree_fault.TreeFault.{TreeFault}
use Rattle.verity_commands.specs.declared.tree_fault.TreeFault.TheVariants.{Open}
use Rattle.update_commands.specs.declared.order.UpdateOrder.{UpdateOrder}
use Rattle.update_commands.specs.declared.release.Release.{Release}
use Rattle.update_commands.specs.Growing.{FailsToGrowBoth, FailsToShrinkBoth, GrowsBoth, ShrinksBoth}
use Rattle.update_commands.specs.Orders.{places_of}
use Rattle.update_commands.specs.PinsApart.{IsPinApart, IsPinTaken}
use Rattle.update_commands.specs.Releases.{HasNoRelease, OpensRelease}
use Rattle.update_commands.specs.Updates.{EndsUpdate, UpdatesDevices}

-- where the two images are, by which argument the release is, its pin and the file of the pin, and whether blocks aren't listed, and an object is printed
pub record Order : Type 0 where
  pub places : Places
  pub release_path : List ℕ
  pub pin : Pin
  pub pin_path : List ℕ
  pub no_index : Bool
  pub json : Bool

abbrev pub order_of : UpdateOrder → Order
order_of order = record { places = places_as (places_of order); release_path = order.release_hash.now; pin = order.pin; pin_path = order.pin_path.now; no_index = order.no_index; json = order.json }

-- The file of the pin is neither image. The superblock of the release was read and has the values of the pin, and its root hash block was verified; then both files were made long enough, and then the two images
-- and the copies were opened. Nothing was written but zeros at the ends of files that were too short.
pub record IsReady {S D : Type 0} (w : Calls S D) (o : Order) (copies : List ImageCopy) (release : Release) (opened : Opened D) : Type 0 where
  pub tested : S
  pub looked : S
  pub grown : S
  pub apart : IsPinApart (record w { new = tested }) o.places o.pin_path
  pub finds : OpensRelease (record w { old = tested; new = looked }) o.release_path o.pin release
  pub grows : GrowsBoth (record w { old = looked; new = grown }) o.places release.superblock
  pub opens : OpensAll (record w { old = grown }) o.places copies opened

-- all was opened; the image was brought to the release, and both parts were closed
pub record UpdatesParts {S D : Type 0} (w : Calls S D) (o : Order) (copies : List ImageCopy) (old new : Option (List ℕ)) : Type 0 where
  pub ready : S
  pub release : Release
  pub opened : Opened D
  pub is_ready : IsReady (record w { new = ready }) o copies release opened
  pub updates : GivesBack (record w { old = ready }) o.places opened.parts (λ t'. UpdatesDevices (IsStateOf w.state) release o.no_index o.json (opened_world w.state opened) t' old new)

-- that, and last both files were made as long as the release if they were longer
pub record UpdatesFiles {S D : Type 0} (w : Calls S D) (o : Order) (copies : List ImageCopy) (old new : Option (List ℕ)) : Type 0 where
  pub closed : S
  pub updated : UpdatesParts (record w { new = closed }) o copies old new
  pub shrinks : ShrinksBoth (record w { old = closed }) o.places updated.release.superblock

-- ---- how the command ends early

-- the file of the pin is one of the images, or memory ran out before that was known; no file was changed, and nothing was printed
pub record EndsPinTaken {S D : Type 0} (w : Calls S D) (o : Order) (old new : Option (List ℕ)) (fault : TreeFault) : Type 0 where
  pub file : UnopenedFile
  pub taken : IsPinTaken w o.places o.pin_path file
  pub is : fault ≡ Open file
  pub quiet : new ≡ old

-- there is no release of the pin, or its root hash block wasn't verified; nothing was written or printed
pub record EndsUnreleased {S D : Type 0} (w : Calls S D) (o : Order) (old new : Option (List ℕ)) (fault : TreeFault) : Type 0 where
  pub tested : S
  pub apart : IsPinApart (record w { new = tested }) o.places o.pin_path
  pub none : HasNoRelease (record w { old = tested }) o.release_path o.pin fault
  pub quiet : new ≡ old

-- there is one, and a file can't be made long enough
pub record EndsUngrown {S D : Type 0} (w : Calls S D) (o : Order) (old new : Option (List ℕ)) (fault : TreeFault) : Type 0 where
  pub tested : S
  pub looked : S
  pub release : Release
  pub file : UnopenedFile
  pub apart : IsPinApart (record w { new = tested }) o.places o.pin_path
  pub finds : OpensRelease (record w { old = tested; new = looked }) o.release_path o.pin release
  pub fails : FailsToGrowBoth (record w { old = looked }) o.places release.superblock file
  pub is : fault ≡ Open file
  pub quiet : new ≡ old

-- both are, and a file can't be opened
pub record EndsUnopened {S D : Type 0} (w : Calls S D) (o : Order) (copies : List ImageCopy) (old new : Option (List ℕ)) (fault : TreeFault) : Type 0 where
  pub tested : S
  pub looked : S
  pub grown : S
  pub release : Release
  pub apart : IsPinApart (record w { new = tested }) o.places o.pin_path
  pub finds : OpensRelease (record w { old = tested; new = looked }) o.release_path o.pin release
  pub grows : GrowsBoth (record w { old = looked; new = grown }) o.places release.superblock
  pub fails : FailsToOpenCopies (record w { old = grown }) o.places copies fault
  pub quiet : new ≡ old

-- all was opened; the update ended early, and both parts were closed
pub record EndsUpdating {S D : Type 0} (w : Calls S D) (o : Order) (copies : List ImageCopy) (old new : Option (List ℕ)) (failed : Bool) (fault : TreeFault) : Type 0 where
  pub ready : S
  pub release : Release
  pub opened : Opened D
  pub is_ready : IsReady (record w { new = ready }) o copies release opened
  pub ends : GivesBack (record w { old = ready }) o.places opened.parts (λ t'. EndsUpdate (IsStateOf w.state) release o.no_index o.json (opened_world w.state opened) t' old new failed fault)

-- the image was brought to the release, both parts were closed, and a file that is longer can't be shortened
pub record EndsUnshrunk {S D : Type 0} (w : Calls S D) (o : Order) (copies : List ImageCopy) (old new : Option (List ℕ)) (fault : TreeFault) : Type 0 where
  pub closed : S
  pub updated : UpdatesParts (record w { new = closed }) o copies old new
  pub file : UnopenedFile
  pub fails : FailsToShrinkBoth (record w { old = closed }) o.places updated.release.superblock file
  pub is : fault ≡ Open file

abbrev pub IsUpdateEnd : {S D : Type 0} → Calls S D → Order → List ImageCopy → Option (List ℕ) → Option (List ℕ) → Bool → TreeFault → Type 0
IsUpdateEnd w o copies old new failed fault =
    EndsPinTaken w o old new fault
    ⊎ (EndsUnreleased w o old new fault ⊎ (EndsUngrown w o old new fault ⊎ (EndsUnopened w o copies old new fault ⊎ (EndsUpdating w o copies old new failed fault ⊎ EndsUnshrunk w o copies old new fault))))

-- ---- in terms of an opener, a writer before and after, and the arguments

abbrev pub AreImagesUpdated : {S D W : Type 0} → Opener S D → (D → Device) → S → S → UpdateOrder → List ImageCopy → (W → Option (List ℕ)) → CountedRecord W → CountedRecord W → Type 0
AreImagesUpdated relations state old new order copies contents before behind =
    UpdatesFiles (calls relations state old new) (order_of order) copies (contents before.inner) (contents behind.inner)

abbrev pub AreImagesUnupdated : {S D W : Type 0} → Opener S D → (D → Device) → S → S → UpdateOrder → List ImageCopy → (W → Option (List ℕ)) → CountedRecord W → CountedRecord W → TreeFault → Type 0
AreImagesUnupdated relations state old new order copies contents before behind =
    IsUpdateEnd (calls relations state old new) (order_of order) copies (contents before.inner) (contents behind.inner) behind.failed
