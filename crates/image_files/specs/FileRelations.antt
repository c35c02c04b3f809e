-- What a proof sees of images in files: no clause of the library says which file a path leads to, nor what it holds.
use Rattle.std.specs.Prelude.{◌≡◌, ◌≢◌, ◌⊎◌, ◌*◌, ◌%◌, ◌^◌, ◌<◌, ◌↔◌, ℕ, Bool, false, true, IsTrue, List, Option, None, Result, Ok, Err, IfErr, IfOk, OnErr, codes}
use Rattle.std.specs.Fs.{file_type, metadata_len, IsFile}
use Rattle.std.specs.declared.fs.File.{File}
use Rattle.std.specs.declared.fs.attrs.Metadata.{Metadata}
use Rattle.block_device.specs.declared.file_id.FileId.{FileId}
use Rattle.block_device.specs.declared.open_fault.OpenFault.{OpenFault}
use Rattle.block_device.specs.declared.open_fault.OpenFault.TheVariants.{NoMemory, OtherFault, TooLarge}
use Rattle.block_device.specs.Call.{Sync}
use Rattle.block_device.specs.Device.{Device}
use Rattle.block_device.specs.File.{IsOpened}
use Rattle.block_device.specs.FileCalls.{Called, IsOfFile, IsOfPath, IsUnsaidOfFile, IsUnsaidOfPath, Opened}
use Rattle.block_device.specs.Identity.{IsLongEnough, IsNotLengthened, IsNotShortened, IsShortEnough, IsToldId}
use Rattle.device_adapters.specs.declared.part.Part.{Part}
use Rattle.device_adapters.specs.Parts.{LiesInside}
use Rattle.device_adapters.specs.Windows.{windowed}
use Rattle.image_files.specs.declared.images.FileText.{FileText}
use Rattle.image_files.specs.declared.images.OpenImage.{OpenImage}
use Rattle.image_files.specs.Calls.{FileRelations}
use Rattle.image_files.specs.Drafts.{Replaces, Tries}
use Rattle.image_files.specs.FileLocks.{IsUnopenedFile, Locks, LocksAtMost}
use Rattle.image_files.specs.ImageCalls.{WasMade, Open, OpenPart, Narrow, Lack, ReadText, Close, ClosePart, Grow, Shrink, Measure, Compare, Replace, TryReplace}
use Rattle.image_files.specs.NewFiles.{FailsToMake, Makes}
use Rattle.image_files.specs.OnePlace.{IsPlaceUnknown, ResolvesAtMost}
use Rattle.image_files.specs.Opener.{IsLacking, Opener}

-- What a proof sees of a device, which file it is, whether the system opened it under a path, for writing too or not, which
-- files an opener has locked, and the file system by whose calls it makes and replaces files.
pub record FileView (S D C F : Type 0) : Type 1 where
  pub state : D → Device
  pub id : D → Option FileId
  pub opened : D → List ℕ → Bool → Type 0
  pub locked : S → List FileId
  -- the device of all sectors of its file, and what the system said of how many they are
  pub whole : D → Device
  pub sized : D → ℕ → Type 0
  -- the parts of its file whose sectors it lacks
  pub lost : D → List Part
  -- which file the system opened under a path to read a text, or why it opened none
  pub read : List ℕ → File → Type 0
  pub unread : List ℕ → OpenFault → Type 0
  -- what each call of the file system leaves, and the file system of an opener
  pub relations : FileRelations C F
  pub calls : S → C

-- a file as it was opened under its path, of the size that the system said of it, and which one it is
pub record IsOpenFile {S D C F : Type 0} (view : FileView S D C F) (image : OpenImage D) (path : List ℕ) (writable : Bool) : Type 0 where
  pub asked : view.opened image.device path writable
  pub device : IsOpened (view.state image.device) writable
  pub size : view.sized image.device (view.state image.device).size
  pub id : image.id ≡ view.id image.device

-- a part of one, inside of it: of all that was opened under the path
pub record IsOpenPart {S D C F : Type 0} (view : FileView S D C F) (image : OpenImage D) (path : List ℕ) (writable : Bool) (part : Part) : Type 0 where
  pub asked : view.opened image.device path writable
  pub is : IsOpened (view.whole image.device) writable
  pub size : view.sized image.device (view.whole image.device).size
  pub inside : LiesInside (view.whole image.device) part
  pub device : view.state image.device ≡ windowed (view.whole image.device) part
  pub id : image.id ≡ view.id image.device

-- a part of an open device, of the same file
pub record IsNarrowedFile {S D C F : Type 0} (view : FileView S D C F) (device : D) (part : Part) (narrowed : D) : Type 0 where
  pub whole : view.whole narrowed ≡ view.whole device
  pub part_state : view.state narrowed ≡ windowed (view.state device) part

-- an open device without the sectors of these parts of its file, and no others: all else is as it was
pub record IsLackingFile {S D C F : Type 0} (view : FileView S D C F) (device : D) (lost : List Part) (lacking : D) : Type 0 where
  pub lost_are : view.lost lacking ≡ lost
  pub holds : IsLacking (view.state device) (view.state lacking)
  pub steady : (view.state lacking).steady ≡ (view.state device).steady

abbrev pub OpensFile : {D E : Type 0} → (OpenImage D → Type 0) → Result (OpenImage D) E → Type 0
OpensFile Is (Ok image) = Is image
OpensFile Is (Err fault) = Unit {0}

-- a file that is opened for writing is locked from then on, and no lock is let go
abbrev pub LocksFile : {S D C F E : Type 0} → FileView S D C F → Bool → Result (OpenImage D) E → S → S → Type 0
LocksFile view writable (Ok image) old new = Locks writable image.id (view.locked old) (view.locked new)
LocksFile view writable (Err fault) old new = LocksAtMost (view.locked old) (view.locked new)

-- no file is locked or unlocked
abbrev pub LocksNoMore : {S D C F : Type 0} → FileView S D C F → S → S → Type 0
LocksNoMore view old new = view.locked new ≡ view.locked old

-- the file system isn't called
abbrev pub CallsNothing : {S D C F : Type 0} → FileView S D C F → S → S → Type 0
CallsNothing view old new = view.calls new ≡ view.calls old

-- the standard input is no file; another text is of the file that was opened to read it, with the identity that the system reported
pub record IsTextOf (Read : File → Type 0) (path : List ℕ) (text : FileText) : Type 0 where
  pub input : path ≡ codes "-" → text.id ≡ None
  pub file : (path ≡ codes "-" → ⊥) → (file : File) × Read file × ((said : Metadata) × IsOfFile file said × IsToldId said text.id)

-- a text that was opened isn't read: memory ran out, or the system failed
abbrev pub IsReadingFault : OpenFault → Type 0
IsReadingFault fault = (fault ≡ NoMemory) ⊎ (fault ≡ OtherFault)

-- a file was opened to read its text, and the system refused to say which one it is, or it isn't read
pub record IsOpenUnread (Read : File → Type 0) (fault : OpenFault) : Type 0 where
  pub file : File
  pub opened : Read file
  pub cause : IsUnsaidOfFile file fault ⊎ IsReadingFault fault

-- why there is no text: the standard input isn't read; another file isn't opened, or was opened and isn't read
pub record IsNoText (Read : File → Type 0) (Unread : OpenFault → Type 0) (path : List ℕ) (fault : OpenFault) : Type 0 where
  pub input : path ≡ codes "-" → IsReadingFault fault
  pub file : (path ≡ codes "-" → ⊥) → Unread fault ⊎ IsOpenUnread Read fault

-- the file system of an opener, and which files it has locked
pub record OpenerState (C : Type 0) : Type 0 where
  pub calls : C
  pub locked : List FileId

abbrev pub opener_state : {S D C F : Type 0} → FileView S D C F → S → OpenerState C
opener_state view opener = record { calls = view.calls opener; locked = view.locked opener }

-- a file that was opened for writing is locked from then on, by the identity that the system reported
pub record LocksOpened (file : File) (old new : List FileId) : Type 0 where
  pub id : Option FileId
  pub said : Metadata
  pub of : IsOfFile file said
  pub told : IsToldId said id
  pub locked : Locks true id old new

-- the system said that no regular file is under the path; the file system isn't called, and no file is locked
pub record IsOfFixedSize {C : Type 0} (old : OpenerState C) (path : List ℕ) (new : OpenerState C) : Type 0 where
  pub said : Metadata
  pub of : IsOfPath path said
  pub kind : IsFile (file_type said) → ⊥
  pub same : new ≡ old

-- The file was made if there was none, by no other call of the file system, is locked and has that many sectors. It is called on only
-- if it had fewer bytes.
pub record IsGrownFile {C F : Type 0} (r : FileRelations C F) (old : OpenerState C) (path : List ℕ) (sectors : ℕ) (new : OpenerState C) : Type 0 where
  pub makes : Makes r old.calls path new.calls
  pub file : File
  pub left : File
  pub opened : Opened path true file
  pub locks : LocksOpened file old.locked new.locked
  pub long : IsLongEnough file (sectors * 512) left

-- more sectors than a file may have
abbrev pub IsBeyondFiles : ℕ → OpenFault → Type 0
IsBeyondFiles sectors fault = (2 ^ 54 < sectors) × (fault ≡ TooLarge)

-- the file was opened, and isn't made longer
pub record IsOpenUngrown (path : List ℕ) (sectors : ℕ) (fault : OpenFault) : Type 0 where
  pub file : File
  pub opened : Opened path true file
  pub refused : IsNotLengthened file (sectors * 512) fault

-- Why a file isn't grown, and the calls of the file system until then: none if the system refused to say what is there, or there are
-- too many sectors; else those that failed to make it, or made it, and it wasn't opened or made longer.
abbrev pub IsUngrown : {C F : Type 0} → FileRelations C F → C → List ℕ → ℕ → OpenFault → C → Type 0
IsUngrown r old path sectors fault new =
    ((new ≡ old) × (IsUnsaidOfPath path fault ⊎ IsBeyondFiles sectors fault))
    ⊎ (FailsToMake r old path fault new ⊎ (Makes r old path new × (IsUnopenedFile path true fault ⊎ IsOpenUngrown path sectors fault)))

-- which calls of the file system are made to grow a file, or why it isn't grown
abbrev pub Grows : {C F : Type 0} → FileRelations C F → OpenerState C → List ℕ → ℕ → Result (Unit {0}) OpenFault → OpenerState C → Type 0
Grows r old path sectors (Ok done) new = IsOfFixedSize old path new ⊎ IsGrownFile r old path sectors new
Grows r old path sectors (Err fault) new = IsUngrown r old.calls path sectors fault new.calls

-- The file that was opened is locked, has at most that many sectors, and was synced. It is resized only if it had more bytes.
pub record IsShrunkFile {C : Type 0} (old : OpenerState C) (path : List ℕ) (sectors : ℕ) (new : OpenerState C) : Type 0 where
  pub file : File
  pub left : File
  pub synced : File
  pub opened : Opened path true file
  pub locks : LocksOpened file old.locked new.locked
  pub short : IsShortEnough file (sectors * 512) left
  pub syncs : Called left (Sync true) synced

-- it has at most that many sectors, and the system didn't sync it
pub record IsUnsyncedShort (file : File) (sectors : ℕ) (fault : OpenFault) : Type 0 where
  pub left : File
  pub synced : File
  pub short : IsShortEnough file (sectors * 512) left
  pub failed : Called left (Sync false) synced
  pub is : fault ≡ OtherFault

-- the file was opened, and isn't made shorter, or not synced
pub record IsOpenUnshrunk (path : List ℕ) (sectors : ℕ) (fault : OpenFault) : Type 0 where
  pub file : File
  pub opened : Opened path true file
  pub refused : IsNotShortened file (sectors * 512) fault ⊎ IsUnsyncedShort file sectors fault

-- Why a file isn't shrunk: the system refused to say what is there, there are too many sectors, or it wasn't opened, made shorter or
-- synced.
abbrev pub IsUnshrunk : List ℕ → ℕ → OpenFault → Type 0
IsUnshrunk path sectors fault = IsUnsaidOfPath path fault ⊎ (IsBeyondFiles sectors fault ⊎ (IsUnopenedFile path true fault ⊎ IsOpenUnshrunk path sectors fault))

-- a regular file is opened, shortened and synced, or there is a reason why not
abbrev pub Shrinks : {C : Type 0} → OpenerState C → List ℕ → ℕ → Result (Unit {0}) OpenFault → OpenerState C → Type 0
Shrinks old path sectors (Ok done) new = IsOfFixedSize old path new ⊎ IsShrunkFile old path sectors new
Shrinks old path sectors (Err fault) new = IsUnshrunk path sectors fault

-- whether a regular file ends inside a sector, by the size that the system said of the path
abbrev pub EndsInPart : List ℕ → Result Bool OpenFault → Type 0
EndsInPart path (Ok part) = (said : Metadata) × IsOfPath path said × (IsTrue part ↔ (IsFile (file_type said) × (metadata_len said % 512 ≢ 0)))
EndsInPart path (Err fault) = Unit {0}

-- Each says that the call was made on this opener, and which calls of its file system it made. What files hold is not in the
-- opener, so none says that nothing changed.
abbrev pub file_relations : {S D C F : Type 0} → FileView S D C F → Opener S D
file_relations {D = D} view = record {
  opens = λ old path writable outcome new. WasMade old (Open path writable outcome) new × CallsNothing view old new × LocksFile view writable outcome old new × OpensFile (λ image. IsOpenFile view image path writable) outcome × IfErr outcome (IsUnopenedFile path writable);
  opens_part = λ old path writable part outcome new. WasMade old (OpenPart path writable part outcome) new × CallsNothing view old new × LocksFile view writable outcome old new × OpensFile (λ image. IsOpenPart view image path writable part) outcome;
  narrows = λ old device part narrowed new. WasMade old (Narrow device part narrowed) new × CallsNothing view old new × LocksNoMore view old new × IsNarrowedFile view device part narrowed;
  lacks = λ old device lost lacking new. WasMade old (Lack device lost lacking) new × CallsNothing view old new × LocksNoMore view old new × IsLackingFile view device lost lacking;
  tells = λ old path most outcome new. WasMade {D = D} old (ReadText path most outcome) new × CallsNothing view old new × LocksNoMore view old new × IfOk outcome (IsTextOf (view.read path) path) × IfErr outcome (IsNoText (view.read path) (view.unread path) path);
  takes = λ old path device new. WasMade old (Close path device) new × CallsNothing view old new × LocksNoMore view old new;
  takes_part = λ old path part device new. WasMade old (ClosePart path part device) new × CallsNothing view old new × LocksNoMore view old new;
  grows = λ old path sectors outcome new. WasMade {D = D} old (Grow path sectors outcome) new × LocksAtMost (view.locked old) (view.locked new) × Grows view.relations (opener_state view old) path sectors outcome (opener_state view new);
  shrinks = λ old path sectors outcome new. WasMade {D = D} old (Shrink path sectors outcome) new × CallsNothing view old new × LocksAtMost (view.locked old) (view.locked new) × Shrinks (opener_state view old) path sectors outcome (opener_state view new);
  measures = λ old path outcome new. WasMade {D = D} old (Measure path outcome) new × CallsNothing view old new × LocksNoMore view old new × EndsInPart path outcome × IfErr outcome (IsUnsaidOfPath path);
  compares = λ old path other outcome new. WasMade {D = D} old (Compare path other outcome) new × LocksNoMore view old new × ResolvesAtMost view.relations (view.calls old) path other (view.calls new) × OnErr outcome (IsPlaceUnknown view.relations (view.calls old) path other (view.calls new));
  replaces = λ old path bytes outcome new. WasMade {D = D} old (Replace path bytes outcome) new × LocksNoMore view old new × Replaces view.relations (view.calls old) path bytes outcome (view.calls new);
  tries = λ old path outcome new. WasMade {D = D} old (TryReplace path outcome) new × LocksNoMore view old new × Tries view.relations (view.calls old) path outcome (view.calls new);
}
