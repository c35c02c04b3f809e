-- What files hold while an opener is used: a premise of who reads the commands' clauses of files. It is taken of one history of
-- calls (`specs/Histories`): `at` is what is under each path after so many of its calls. For every history files exist that change by
-- its calls (`specs/FileLaws`). Calls show them (`ShowsFiles`) if the system's do (`specs/SystemShows`), which no contract of the standard
-- library says. A file's bytes count as changed when its device is closed, so no device may be opened over bytes that were written and not yet closed.
use Rattle.std.specs.Prelude.{◌≡◌, ◌+◌, ◌-◌, ◌*◌, ◌/◌, ◌%◌, ◌≤◌, ◌==◌, ◌++◌, ◌&&◌, if◌then◌else◌, ℕ, Bool, true, false, not, IsSome, List, length, take, drop, replicate, Option, Some, None, Result, Ok}
use Rattle.block_device.specs.declared.file_id.FileId.{FileId}
use Rattle.block_device.specs.declared.open_fault.OpenFault.{OpenFault}
use Rattle.block_device.specs.Device.{Device, sectors_of}
use Rattle.device_adapters.specs.declared.part.Part.{Part}
use Rattle.image_files.specs.declared.images.FileText.{FileText}
use Rattle.image_files.specs.declared.images.OpenImage.{OpenImage}
use Rattle.image_files.specs.declared.parts.PartFault.{PartFault}
use Rattle.image_files.specs.OneFile.{is_one_file}
use Rattle.image_files.specs.Opener.{Opener}
use Rattle.image_files.specs.declared.texts.ReplaceFault.{ReplaceFault}

-- a file: its identity, the bytes that it holds, and its kind
pub record FileRecord : Type 0 where
  pub id : Option FileId
  pub bytes : List ℕ
  -- a regular file, and not one of a size of its own, as a block device
  pub regular : Bool

-- what is under each path
abbrev pub Files : Type 0
Files = List ℕ → Option FileRecord

-- another state of one file
pub record IsSameFile (file file' : FileRecord) : Type 0 where
  pub id : file'.id ≡ file.id
  pub regular : file'.regular ≡ file.regular

-- the device's sectors are the whole ones of the file
abbrev pub HoldsSectors : Device → FileRecord → Type 0
HoldsSectors device file = device.image ≡ sectors_of (length file.bytes / 512) file.bytes

-- the device's sectors are those of that part of the file, which is inside of it
pub record HoldsPart (device : Device) (part : Part) (file : FileRecord) : Type 0 where
  pub inside : part.first + part.count ≤ length file.bytes / 512
  pub image : device.image ≡ sectors_of part.count (drop (part.first * 512) file.bytes)

-- a regular file holds what it held, and zeros after it; another one stays as it is
abbrev pub grown_bytes : ℕ → FileRecord → List ℕ
grown_bytes sectors file = if file.regular then file.bytes ++ replicate (sectors * 512 - length file.bytes) 0 else file.bytes

pub record IsGrown (file file' : FileRecord) (sectors : ℕ) : Type 0 where
  pub same : IsSameFile file file'
  pub bytes : file'.bytes ≡ grown_bytes sectors file

-- a regular file holds the first bytes that it held; another one stays as it is
abbrev pub shrunk_bytes : ℕ → FileRecord → List ℕ
shrunk_bytes sectors file = if file.regular then take (sectors * 512) file.bytes else file.bytes

pub record IsShrunk (file file' : FileRecord) (sectors : ℕ) : Type 0 where
  pub same : IsSameFile file file'
  pub bytes : file'.bytes ≡ shrunk_bytes sectors file

-- a part is closed: the file holds what the device holds there, and all else is as it was
pub record TakesPart (device : Device) (part : Part) (file file' : FileRecord) : Type 0 where
  pub same : IsSameFile file file'
  pub holds : HoldsPart device part file'
  pub before : take (part.first * 512) file'.bytes ≡ take (part.first * 512) file.bytes
  pub behind : drop ((part.first + part.count) * 512) file'.bytes ≡ drop ((part.first + part.count) * 512) file.bytes

-- both tell which file they are, and not the same one
abbrev pub AreApart : FileRecord → FileRecord → Type 0
AreApart file another = IsSome file.id × IsSome another.id × (is_one_file file.id another.id ≡ false)

-- it isn't the file under that path, if there is one
abbrev pub IsApartFrom : Option FileRecord → FileRecord → Type 0
IsApartFrom here another = (file : FileRecord) → here ≡ Some file → AreApart file another

-- What is opened, read or measured is the file under its path. `steady` holds of a file while nobody else writes it.
pub record ShowsFiles {S D : Type 0} (o : Opener S D) (state : D → Device) (at : S → Files) : Type 0 where
  pub opened : (old new : S) (path : List ℕ) (writable : Bool) (image : OpenImage D) → o.opens old path writable (Ok image) new
      → (file : FileRecord) × (at old path ≡ Some file) × (image.id ≡ file.id) × HoldsSectors (state image.device) file
  pub steady : (old new : S) (path : List ℕ) (writable : Bool) (image : OpenImage D) → o.opens old path writable (Ok image) new → (state image.device).steady ≡ true
  -- a part of it is opened as a device of its own, which is steady while nobody else writes that part
  pub opened_part : (old new : S) (path : List ℕ) (writable : Bool) (part : Part) (image : OpenImage D) → o.opens_part old path writable part (Ok image) new
      → (file : FileRecord) × (at old path ≡ Some file) × (image.id ≡ file.id) × HoldsPart (state image.device) part file
  pub steady_part : (old new : S) (path : List ℕ) (writable : Bool) (part : Part) (image : OpenImage D) → o.opens_part old path writable part (Ok image) new → (state image.device).steady ≡ true
  pub steady_narrowed : (old new : S) (device narrowed : D) (part : Part) → o.narrows old device part narrowed new → (state device).steady ≡ true → (state narrowed).steady ≡ true
  pub steady_lacking : (old new : S) (device lacking : D) (lost : List Part) → o.lacks old device lost lacking new → (state device).steady ≡ true → (state lacking).steady ≡ true
  -- a text is the first bytes of the file, if there is one: the standard input is none, nor is a pipe
  pub told : (old new : S) (path : List ℕ) (most : ℕ) (text : FileText) (file : FileRecord) → o.tells old path most (Ok text) new → at old path ≡ Some file
      → (text.id ≡ file.id) × (text.bytes.items ≡ take most file.bytes)
  -- whether a regular file ends inside a sector
  pub measured : (old new : S) (path : List ℕ) (part : Bool) (file : FileRecord) → o.measures old path (Ok part) new → at old path ≡ Some file
      → part ≡ (file.regular && not (length file.bytes % 512 == 0))
  -- if two paths don't lead to one place, a file that is made under the one isn't there under the other
  pub made_apart : (old between new : S) (path other : List ℕ) (sectors : ℕ) → o.compares old path other (Ok false) between → o.grows between path sectors (Ok tt) new
      → at between other ≡ None → at new other ≡ None

-- What calls leave of files. Those that open, narrow, read, measure and compare change none.
pub record ChangesFiles {S D : Type 0} (o : Opener S D) (state : D → Device) (at : S → Files) : Type 0 where
  pub kept_opening : (old new : S) (path : List ℕ) (writable : Bool) (outcome : Result (OpenImage D) OpenFault) → o.opens old path writable outcome new → at new ≡ at old
  pub kept_reading : (old new : S) (path : List ℕ) (most : ℕ) (outcome : Result FileText OpenFault) → o.tells old path most outcome new → at new ≡ at old
  pub kept_opening_part : (old new : S) (path : List ℕ) (writable : Bool) (part : Part) (outcome : Result (OpenImage D) PartFault) → o.opens_part old path writable part outcome new → at new ≡ at old
  pub kept_narrowing : (old new : S) (device narrowed : D) (part : Part) → o.narrows old device part narrowed new → at new ≡ at old
  pub kept_lacking : (old new : S) (device lacking : D) (lost : List Part) → o.lacks old device lost lacking new → at new ≡ at old
  pub kept_measuring : (old new : S) (path : List ℕ) (outcome : Result Bool OpenFault) → o.measures old path outcome new → at new ≡ at old
  pub kept_comparing : (old new : S) (path other : List ℕ) (outcome : Result Bool OpenFault) → o.compares old path other outcome new → at new ≡ at old
  -- to find out whether a file can be created beside a path changes no file
  pub kept_trying : (old new : S) (path : List ℕ) (outcome : Result (Unit {0}) ReplaceFault) → o.tries old path outcome new → at new ≡ at old
  -- what a device holds that is closed, its file holds then, and no other one changes
  pub taken : (old new : S) (path : List ℕ) (device : D) (file : FileRecord) → o.takes old path device new → at old path ≡ Some file
      → (file' : FileRecord) × (at new path ≡ Some file') × IsSameFile file file' × HoldsSectors (state device) file'
  pub kept_taking : (old new : S) (path other : List ℕ) (device : D) (file another : FileRecord) → o.takes old path device new → at old path ≡ Some file
      → at old other ≡ Some another → AreApart file another → at new other ≡ Some another
  -- what a closed part's device holds, its part of the file holds then, if the device has as many sectors; no other file changes
  pub taken_part : (old new : S) (path : List ℕ) (part : Part) (device : D) (file : FileRecord) → o.takes_part old path part device new → at old path ≡ Some file
      → (state device).size ≡ part.count → part.first + part.count ≤ length file.bytes / 512
      → (file' : FileRecord) × (at new path ≡ Some file') × TakesPart (state device) part file file'
  pub kept_taking_part : (old new : S) (path other : List ℕ) (part : Part) (device : D) (file another : FileRecord) → o.takes_part old path part device new → at old path ≡ Some file
      → at old other ≡ Some another → AreApart file another → at new other ≡ Some another
  -- a file that is grown keeps what it held, and no other one changes
  pub grown : (old new : S) (path : List ℕ) (sectors : ℕ) (file : FileRecord) → o.grows old path sectors (Ok tt) new → at old path ≡ Some file
      → (file' : FileRecord) × (at new path ≡ Some file') × IsGrown file file' sectors
  pub kept_growing : (old new : S) (path other : List ℕ) (sectors : ℕ) (file another : FileRecord) → o.grows old path sectors (Ok tt) new → at old path ≡ Some file
      → at old other ≡ Some another → AreApart file another → at new other ≡ Some another
  -- a file that is shortened keeps its first bytes, and no other one changes
  pub shrunk : (old new : S) (path : List ℕ) (sectors : ℕ) (file : FileRecord) → o.shrinks old path sectors (Ok tt) new → at old path ≡ Some file
      → (file' : FileRecord) × (at new path ≡ Some file') × IsShrunk file file' sectors
  pub kept_shrinking : (old new : S) (path other : List ℕ) (sectors : ℕ) (file another : FileRecord) → o.shrinks old path sectors (Ok tt) new → at old path ≡ Some file
      → at old other ≡ Some another → AreApart file another → at new other ≡ Some another
  -- bytes that are put in the place of what a file holds are all that it holds then, and no other file changes
  pub replaced : (old new : S) (path bytes : List ℕ) → o.replaces old path bytes (Ok tt) new → (file : FileRecord) × (at new path ≡ Some file) × (file.bytes ≡ bytes)
  pub kept_replacing : (old new : S) (path other bytes : List ℕ) (outcome : Result (Unit {0}) ReplaceFault) (another : FileRecord) → o.replaces old path bytes outcome new → at old other ≡ Some another
      → IsApartFrom (at old path) another → at new other ≡ Some another

-- of an opener, a proof's view of its devices, and the file under each path
pub record KeepsFiles {S D : Type 0} (o : Opener S D) (state : D → Device) (at : S → Files) : Type 0 where
  pub shows : ShowsFiles o state at
  pub changes : ChangesFiles o state at
