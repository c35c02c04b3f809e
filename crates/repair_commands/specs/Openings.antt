-- All that `repair` opens: the two images to be repaired, and the copies.
use Rattle.std.specs.Prelude.{◌≡◌, ◌⊎◌, true, false, List, map}
use Rattle.block_device.specs.Device.{Device}
use Rattle.command_line.specs.declared.image_copies.ImageCopy.{ImageCopy}
use Rattle.image_files.specs.declared.file_use.FileUse.{FileUse}
use Rattle.image_files.specs.declared.opening.UnopenedFile.{UnopenedFile}
use Rattle.image_files.specs.Opener.{Calls, Opener, calls}
use Rattle.verity_commands.specs.declared.tree_fault.TreeFault.{TreeFault}
use Rattle.verity_commands.specs.declared.tree_fault.TreeFault.TheVariants.{Open}
use Rattle.repair_commands.specs.Copies.{OpensEachCopy, RefusesEach, path_in}
use Rattle.repair_commands.specs.Pairs.{FailsToOpenPair, OpensPair, Places, pair_uses, places_of}
use Rattle.repair_commands.specs.declared.opening.Copies.{Copies}
use Rattle.repair_commands.specs.declared.opening.Opened.{Opened}
use Rattle.repair_commands.specs.declared.pair.Pair.{Pair}
use Rattle.repair_commands.specs.declared.pair.Parts.{Parts}
use Rattle.repair_commands.specs.declared.pair.RepairPlaces.{RepairPlaces}

-- the data of all copies were opened, and then their hashes
pub record OpensCopies {S D : Type 0} (w : Calls S D) (files : List FileUse) (copies : List ImageCopy) (opened : Copies D) : Type 0 where
  pub between : S
  pub data_opened : OpensEachCopy (record w { new = between }) files (map (path_in false) copies) opened.data_copies.items
  pub hash_opened : OpensEachCopy (record w { old = between }) files (map (path_in true) copies) opened.hash_copies.items

-- the data were opened, and the hashes couldn't be
pub record RefusesHashes {S D : Type 0} (w : Calls S D) (files : List FileUse) (copies : List ImageCopy) (fault : TreeFault) : Type 0 where
  pub between : S
  pub devices : List D
  pub data_opened : OpensEachCopy (record w { new = between }) files (map (path_in false) copies) devices
  pub refused : RefusesEach (record w { old = between }) files (map (path_in true) copies) fault

abbrev pub RefusesCopies : {S D : Type 0} → Calls S D → List FileUse → List ImageCopy → TreeFault → Type 0
RefusesCopies w files copies fault = RefusesEach w files (map (path_in false) copies) fault ⊎ RefusesHashes w files copies fault

-- ---- all files

-- the two images, and then the copies, none of which is a writable file
pub record OpensAll {S D : Type 0} (w : Calls S D) (p : Places) (copies : List ImageCopy) (o : Opened D) : Type 0 where
  pub between : S
  pub pair_open : OpensPair (record w { new = between }) p o.parts o.pair
  pub copies_open : OpensCopies (record w { old = between }) (pair_uses p.write o.parts o.pair) copies o.copies

-- the images couldn't be opened
pub record EndsUnpaired {S D : Type 0} (w : Calls S D) (p : Places) (fault : TreeFault) : Type 0 where
  pub file : UnopenedFile
  pub ends : FailsToOpenPair w p file
  pub is : fault ≡ Open file

-- the images were opened, and a copy couldn't be
pub record EndsUncopied {S D : Type 0} (w : Calls S D) (p : Places) (copies : List ImageCopy) (fault : TreeFault) : Type 0 where
  pub between : S
  pub parts : Parts
  pub pair : Pair D
  pub pair_open : OpensPair (record w { new = between }) p parts pair
  pub refused : RefusesCopies (record w { old = between }) (pair_uses p.write parts pair) copies fault

-- the first of them that is refused
abbrev pub FailsToOpenCopies : {S D : Type 0} → Calls S D → Places → List ImageCopy → TreeFault → Type 0
FailsToOpenCopies w p copies fault = EndsUnpaired w p fault ⊎ EndsUncopied w p copies fault

-- ---- in terms of an opener before and after, and the places in the arguments

abbrev pub AreCopiesOpened : {S D : Type 0} → Opener S D → (D → Device) → S → S → List FileUse → List ImageCopy → Copies D → Type 0
AreCopiesOpened relations state old new files copies opened = OpensCopies (calls relations state old new) files copies opened

abbrev pub IsCopyRefused : {S D : Type 0} → Opener S D → (D → Device) → S → S → List FileUse → List ImageCopy → TreeFault → Type 0
IsCopyRefused relations state old new files copies fault = RefusesCopies (calls relations state old new) files copies fault

abbrev pub IsAllOpened : {S D : Type 0} → Opener S D → (D → Device) → S → S → RepairPlaces → List ImageCopy → Opened D → Type 0
IsAllOpened relations state old new places copies opened = OpensAll (calls relations state old new) (places_of places) copies opened

abbrev pub IsOneUnopened : {S D : Type 0} → Opener S D → (D → Device) → S → S → RepairPlaces → List ImageCopy → TreeFault → Type 0
IsOneUnopened relations state old new places copies fault = FailsToOpenCopies (calls relations state old new) (places_of places) copies fault
