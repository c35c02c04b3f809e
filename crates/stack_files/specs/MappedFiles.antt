-- Files that are bound with a map: the sectors that the map doesn't have can't be read.
use Rattle.std.specs.Prelude.{◌≡◌, ◌⊎◌, ◌+◌, ◌^◌, ◌≤◌, ℕ, nat_lt, false, true, List, length, Option, None, Ok, Err}
use Rattle.allocation.specs.Refusal.{IsOutOfMemory}
use Rattle.block_device.specs.declared.open_fault.OpenFault.{OpenFault}
use Rattle.block_device.specs.declared.open_fault.OpenFault.TheVariants.{NoMemory, OtherFault, SameFile}
use Rattle.device_adapters.specs.declared.part.Part.{Part}
use Rattle.image_files.specs.declared.file_use.FileUse.{FileUse}
use Rattle.image_files.specs.declared.images.FileText.{FileText}
use Rattle.image_files.specs.declared.images.OpenImage.{OpenImage}
use Rattle.image_files.specs.declared.opening.UnopenedFile.{UnopenedFile}
use Rattle.image_files.specs.declared.parts.UnopenedPart.{UnopenedPart}
use Rattle.image_files.specs.declared.parts.UnopenedPart.TheVariants as unopened_part
use Rattle.image_files.specs.FileUses.{has_clash}
use Rattle.image_files.specs.Opened.{RefusesText, TellsFile}
use Rattle.image_files.specs.Opener.{Calls, IsLacking}
use Rattle.rescue_map.specs.declared.fault.MapFault.{MapFault}
use Rattle.rescue_map.specs.declared.fault.MapFault.TheVariants as map_fault
use Rattle.rescue_map.specs.declared.text.ParsedMap.{ParsedMap}
use Rattle.rescue_map.specs.Lost.{lost_from}
use Rattle.rescue_map.specs.MapText.{map_of}
use Rattle.stack_files.specs.declared.mapped_file.MappedImage.{MappedImage}
use Rattle.stack_files.specs.declared.opening_fault.OpeningFault.{OpeningFault}
use Rattle.stack_files.specs.declared.opening_fault.OpeningFault.TheVariants.{Open, Outside}
use Rattle.stack_files.specs.WholeFiles.{NarrowsTo, OpensWholeFile, RefusesWholeFile, read_use}

-- in bytes
abbrev pub most_map : ℕ
most_map = 2 ^ 24

-- the text isn't too long, and is the map of a device of so many sectors; these are the parts that it doesn't have
pub record IsLostBy (text : List ℕ) (sectors : ℕ) (lost : List Part) : Type 0 where
  pub short : length text ≤ most_map
  pub read : ParsedMap
  pub map_is : map_of sectors text ≡ Ok read
  pub lost_are : lost ≡ lost_from 0 read.map

-- the text is too long, or not the map of a device of so many sectors
abbrev pub IsUnmapped : List ℕ → ℕ → Type 0
IsUnmapped text sectors = (nat_lt most_map (length text) ≡ true) ⊎ ((fault : MapFault) × (map_of sectors text ≡ Err fault))

-- that, or an allocation of room for one run or part was refused
abbrev pub IsNoMap : List ℕ → ℕ → OpenFault → Type 0
IsNoMap text sectors NoMemory = IsOutOfMemory 1
IsNoMap text sectors OtherFault = IsUnmapped text sectors
IsNoMap text sectors fault = ⊥

-- a fault of a map as one of the opener
abbrev pub map_ending : MapFault → OpenFault
map_ending map_fault.NoMemory = NoMemory
map_ending fault = OtherFault

-- the fault is of the map
pub record IsNoMapAt (text : List ℕ) (sectors : ℕ) (map_file : List ℕ) (unopened : UnopenedFile) : Type 0 where
  pub path_is : unopened.path.now ≡ map_file
  pub cause : IsNoMap text sectors unopened.fault

-- the text of a map was read, and its file clashes with none of these files
pub record TellsMap {S D : Type 0} (w : Calls S D) (files : List FileUse) (map_file : List ℕ) (text : FileText) : Type 0 where
  pub told : TellsFile w map_file (most_map + 1) text
  pub apart : has_clash files (read_use text.id None) ≡ false

-- it was read, but its file clashes with one of them
pub record IsMapInUse {S D : Type 0} (w : Calls S D) (files : List FileUse) (map_file : List ℕ) (unopened : UnopenedFile) : Type 0 where
  pub text : FileText
  pub told : TellsFile w map_file (most_map + 1) text
  pub clash : has_clash files (read_use text.id None) ≡ true
  pub is : (unopened.fault ≡ SameFile) × (unopened.path.now ≡ map_file)

-- that, or it can't be read
abbrev pub RefusesMap : {S D : Type 0} → Calls S D → List FileUse → List ℕ → UnopenedFile → Type 0
RefusesMap w files map_file unopened = RefusesText w map_file (most_map + 1) unopened ⊎ IsMapInUse w files map_file unopened

-- The text of the map was read. Then the image was opened at its path, and neither the map nor the part of it that is used conflicts
-- with any open file. The device is that part, or all of it, without the sectors that the map doesn't have.
pub record OpensMapped {S D : Type 0} (w : Calls S D) (files : List FileUse) (path map_file : List ℕ) (part : Option Part) (image : MappedImage D) : Type 0 where
  pub read : S
  pub between : S
  pub after : S
  pub text : FileText
  pub told : TellsMap (record w { new = read }) files map_file text
  pub whole : OpenImage D
  pub opened : OpensWholeFile (record w { old = read; new = between }) files path part whole
  pub lost : List Part
  pub lost_by : IsLostBy text.bytes.items (w.state whole.device).size lost
  pub rest : D
  pub lacks : w.relations.lacks between whole.device lost rest after
  pub holds : IsLacking (w.state whole.device) (w.state rest)
  pub narrows : NarrowsTo (record w { old = after }) rest part image.device
  pub id : image.id ≡ whole.id
  pub map_id : image.map_id ≡ text.id

-- the text of the map was read, and the image can't be opened then
pub record RefusesBesideMap {S D : Type 0} (w : Calls S D) (files : List FileUse) (path map_file : List ℕ) (part : Option Part) (unopened : UnopenedPart) : Type 0 where
  pub read : S
  pub text : FileText
  pub told : TellsMap (record w { new = read }) files map_file text
  pub refused : RefusesWholeFile (record w { old = read }) files path part unopened

-- the text was read and the image opened, of which the text is no map
pub record IsOfNoMap {S D : Type 0} (w : Calls S D) (files : List FileUse) (path map_file : List ℕ) (part : Option Part) (unopened : UnopenedFile) : Type 0 where
  pub read : S
  pub text : FileText
  pub told : TellsMap (record w { new = read }) files map_file text
  pub whole : OpenImage D
  pub opened : OpensWholeFile (record w { old = read }) files path part whole
  pub none : IsNoMapAt text.bytes.items (w.state whole.device).size map_file unopened

-- the map can't be read, the image can't be opened, there is no map of the image, or the part isn't within the image
abbrev pub RefusesMapped : {S D : Type 0} → Calls S D → List FileUse → List ℕ → List ℕ → Option Part → OpeningFault → Type 0
RefusesMapped w files path map_file part (Open unopened) =
    RefusesMap w files map_file unopened ⊎ (RefusesBesideMap w files path map_file part (unopened_part.File unopened) ⊎ IsOfNoMap w files path map_file part unopened)
RefusesMapped w files path map_file part (Outside at) = RefusesBesideMap w files path map_file part (unopened_part.Outside at)
RefusesMapped w files path map_file part fault = ⊥
