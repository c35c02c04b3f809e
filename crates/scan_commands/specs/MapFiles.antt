-- The map file of a device.
use Rattle.std.specs.Prelude.{◌≡◌, ◌⊎◌, ℕ, ◌<◌, ◌≤◌, Bool, true, false, List, length, replicate, Option, Some, None, option_map, Ok, Err}
use Rattle.allocation.specs.Refusal.{IsOutOfMemory}
use Rattle.block_device.specs.Device.{Device}
use Rattle.block_device.specs.declared.open_fault.OpenFault.TheVariants.{NotFound}
use Rattle.image_files.specs.declared.images.FileText.{FileText}
use Rattle.image_files.specs.OpenPlaces.{is_missing}
use Rattle.image_files.specs.Opener.{Calls, Opener, calls}
use Rattle.rescue_map.specs.declared.kind.MapKind.{MapKind}
use Rattle.rescue_map.specs.declared.kind.MapKind.TheVariants.{Copy, Scan}
use Rattle.rescue_map.specs.declared.tail.Tail.{Tail}
use Rattle.rescue_map.specs.declared.text.ParsedMap.{ParsedMap}
use Rattle.rescue_map.specs.Kinds.{kind_of}
use Rattle.rescue_map.specs.declared.status.Status.TheVariants.{Untried}
use Rattle.rescue_map.specs.Stages.{statuses}
use Rattle.rescue_map.specs.MapText.{IsMapAnswer, map_of}
use Rattle.rescue_map.specs.Tails.{no_tail}
use Rattle.scan_commands.specs.declared.rescue_fault.PassFault.{PassFault}
use Rattle.scan_commands.specs.declared.map_file.MapPath.{MapPath}
use Rattle.scan_commands.specs.declared.rescue_fault.PassFault.TheVariants.{NoMap, NoMemory, Output, TooLong, Unread}
use Rattle.stack_recovery.specs.declared.fault.RecoveryFault.{RecoveryFault}
use Rattle.stack_recovery.specs.declared.fault.RecoveryFault.TheVariants as recovery

-- the most bytes that are read of a map file: one more than the 16 MiB that it may have, to detect a longer file
abbrev pub most_map : ℕ
most_map = 16777217

-- the opener returned the text of the file under that path
abbrev pub TellsMap : {S D : Type 0} → Calls S D → List ℕ → FileText → Type 0
TellsMap w path text = w.relations.tells w.old path most_map (Ok text) w.new

-- whether a map of a kind continues one that was read; a copy's map doesn't continue a scan's, because the copy doesn't have
-- the sectors that a scan marks `+`
abbrev pub continues : MapKind → MapKind → Bool
continues Copy Scan = false
continues kind read = true

-- no sector was tried before, and there are no more bytes
abbrev pub IsUnread : ℕ → ParsedMap → Type 0
IsUnread sectors made = (statuses made.map ≡ replicate sectors Untried) × (made.tail ≡ no_tail)

-- the map that a text holds, if it is continued
abbrev pub Continues : Bool → ℕ → ParsedMap → ParsedMap → Type 0
Continues true sectors read made = made ≡ read
Continues false sectors read made = IsUnread sectors made

-- the map that a map of a kind begins with, if a text is a map of a device of so many sectors
pub record IsMapOfText (kind : MapKind) (text : List ℕ) (sectors : ℕ) (made : ParsedMap) : Type 0 where
  pub read : ParsedMap
  pub says : map_of sectors text ≡ Ok read
  pub begins : Continues (continues kind (kind_of text)) sectors read made

-- the path of a map file, the kind of map that is kept there, and the bytes that the map has after the device's sectors
pub record MapPathRecord : Type 0 where
  pub path : List ℕ
  pub kind : MapKind
  pub tail : Tail

abbrev pub map_path : List ℕ → MapKind → Tail → MapPathRecord
map_path path kind tail = record { path = path; kind = kind; tail = tail }

abbrev pub map_path_of : MapPath → MapPathRecord
map_path_of file = map_path file.path.now file.kind file.tail

-- the map file of that kind, if a path is given
abbrev pub map_at : Option (List ℕ) → MapKind → Option MapPathRecord
map_at path kind = option_map (λ p. map_path p kind no_tail) path

-- the file whose maps have these bytes after the device's sectors
abbrev pub with_tail : Option MapPathRecord → Tail → Option MapPathRecord
with_tail file tail = option_map (λ (f : MapPathRecord). record f { tail = tail }) file

-- the map begins as the one in the file, whose text has at most 16 MiB
pub record IsMapTold {S D : Type 0} (w : Calls S D) (file : MapPathRecord) (sectors : ℕ) (made : ParsedMap) : Type 0 where
  pub text : FileText
  pub told : TellsMap w file.path text
  pub short : length text.bytes.items < most_map
  pub says : IsMapOfText file.kind text.bytes.items sectors made

-- there is no file, and no sector was read before
pub record IsMapNew {S D : Type 0} (w : Calls S D) (path : List ℕ) (sectors : ℕ) (made : ParsedMap) : Type 0 where
  pub missing : w.relations.tells w.old path most_map (Err NotFound) w.new
  pub unread : IsUnread sectors made

abbrev pub IsMapRead : {S D : Type 0} → Calls S D → MapPathRecord → ℕ → ParsedMap → Type 0
IsMapRead w file sectors made = IsMapTold w file sectors made ⊎ IsMapNew w file.path sectors made

-- the text has that fault, or memory for a run of the map was refused
abbrev pub IsTextUnread : List ℕ → ℕ → PassFault → Type 0
IsTextUnread text sectors (NoMap fault) = IsMapAnswer (Err fault) (map_of sectors text)
IsTextUnread text sectors NoMemory = IsOutOfMemory 1
IsTextUnread text sectors fault = ⊥

-- why there is no map: the file can't be read, has more than 16 MiB, its text has that fault, or memory for a run was refused
abbrev pub IsMapUnread : {S D : Type 0} → Calls S D → List ℕ → ℕ → PassFault → Type 0
IsMapUnread w path sectors (Unread file) = (file.path.now ≡ path) × (is_missing file.fault ≡ false) × w.relations.tells w.old path most_map (Err file.fault) w.new
IsMapUnread w path sectors TooLong = (text : FileText) × TellsMap w path text × (most_map ≤ length text.bytes.items)
IsMapUnread w path sectors (NoMap fault) = (text : FileText) × TellsMap w path text × IsTextUnread text.bytes.items sectors (NoMap fault)
IsMapUnread w path sectors NoMemory = (w.relations.tells w.old path most_map (Err NotFound) w.new ⊎ ((text : FileText) × TellsMap w path text)) × IsOutOfMemory 1
IsMapUnread w path sectors fault = ⊥

-- ---- with a map file, or without one

-- The map that the passes begin with: that of the map file, or without one a map in which no sector was tried. Then the opener isn't called.
abbrev pub BeginsMap : {S D : Type 0} → Calls S D → Option MapPathRecord → ℕ → ParsedMap → Type 0
BeginsMap w None sectors begun = (w.new ≡ w.old) × IsUnread sectors begun
BeginsMap w (Some file) sectors begun = IsMapRead w file sectors begun

-- why there is none: without a map file memory for a run was refused
abbrev pub LacksMap : {S D : Type 0} → Calls S D → Option MapPathRecord → ℕ → PassFault → Type 0
LacksMap w None sectors fault = (w.new ≡ w.old) × (fault ≡ NoMemory) × IsOutOfMemory 1
LacksMap w (Some file) sectors fault = IsMapUnread w file.path sectors fault

-- the fault of a pass for the fault of a recovery
abbrev pub recovery_ending : RecoveryFault → PassFault
recovery_ending recovery.NoMemory = NoMemory
recovery_ending recovery.Output = Output

-- ---- in terms of the opener, before and after its calls

-- the map of a map file
abbrev pub ReadsMap : {S D : Type 0} → Opener S D → (D → Device) → S → S → MapPath → ℕ → ParsedMap → Type 0
ReadsMap relations state old new file sectors = λ made. IsMapRead (calls relations state old new) (map_path_of file) sectors made
