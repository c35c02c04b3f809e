-- What the commands on a hash image print, and how they end early. It begins at a sector of its file.
use Rattle.std.specs.Borrow.{Bor}
use Rattle.std.specs.Prelude.{◌≡◌, ◌⊎◌, ℕ, Bool, true, false, List, Option, None}
use Rattle.std.specs.Io.KnownBytes.{Appends}
use Rattle.allocation.specs.Refusal.{IsOutOfMemory}
use Rattle.block_device.specs.Device.{Device}
use Rattle.program_io.specs.Counted.{CountedRecord}
use Rattle.command_line.specs.declared.words.dump.DumpForm.{DumpForm}
use Rattle.image_files.specs.declared.placed_image.PlacedImage.{PlacedImage}
use Rattle.image_files.specs.Opener.{Calls, Opener, calls}
use Rattle.image_files.specs.OpenPlaces.{OpensPlace, RefusesPlace}
use Rattle.verity_format.specs.Line.{line_room}
use Rattle.verity_format.specs.Superblock.{SuperRecord}
use Rattle.verity_format.specs.Verifying.{IsReadCause, IsReadFrom}
use Rattle.image_commands.specs.declared.fault.ImageFault.{ImageFault}
use Rattle.image_pin.specs.declared.finding.NoTree.{NoTree}
use Rattle.image_commands.specs.declared.places.HashPlace.{HashPlace}
use Rattle.image_commands.specs.declared.table.LineWords.{LineWords}
use Rattle.image_pin.specs.declared.trusted.TrustedRoot.{TrustedRoot}
use Rattle.image_pin.specs.declared.pin.Pin.{Pin}
use Rattle.image_pin.specs.PinnedReads.{mismatch_of}
use Rattle.image_commands.specs.Endings.{IsCommonEnd, IsUnopened, IsVerifyEnd}
use Rattle.image_pin.specs.Finding.{IsNoTree, ReadsSuper, is_aligned}
use Rattle.image_commands.specs.Finding.{no_tree_fault}
use Rattle.image_commands.specs.Places.{IsPartState, behind, tree_start}
use Rattle.image_commands.specs.SuperblockJson.{RefusesDump, dump_text}
use Rattle.image_commands.specs.TableLines.{placed_line}

-- the superblock that begins at that sector was read, and a text of it written; it has the values of the pin, if there is one, and
-- its tree may begin there if that must be so
pub record SaysPlaced (device : Device) (first : ℕ) (pin : Option Pin) (may : SuperRecord → Bool) (text : SuperRecord → List ℕ) (old new : Option (List ℕ)) : Type 0 where
  pub super : SuperRecord
  pub sector : List ℕ
  pub read : IsReadFrom (behind device first) sector super
  pub pinned : mismatch_of pin super ≡ None
  pub allowed : may super ≡ true
  pub printed : Appends old new (text super)

-- `dump` and `table`, of the image under the path, which is only read
pub record PrintsPlacedSuper {S D : Type 0} (w : Calls S D) (path : List ℕ) (first : ℕ) (pin : Option Pin) (may : SuperRecord → Bool) (text : SuperRecord → List ℕ) (old new : Option (List ℕ)) : Type 0 where
  pub image : PlacedImage D
  pub opened : OpensPlace w path false image
  pub says : SaysPlaced (w.state image.device) first pin may text old new

-- ---- `Left` is what holds of a device that calls left: it is a part of one of its type (`IsPartState`)

-- there is no tree at that sector
pub record LacksPlacedTree (Left : Device → Type 0) (device : Device) (first : ℕ) (pin : Option Pin) (fault : ImageFault) : Type 0 where
  pub cause : NoTree
  pub device' : Device
  pub left : Left device'
  pub none : IsNoTree (behind device first) first pin device' cause
  pub is : fault ≡ no_tree_fault cause

-- `table`: there is no tree, memory ran out for that cause, or the text can't be written
abbrev pub IsPlacedSuperEnd : (Device → Type 0) → Type 0 → Device → ℕ → Option Pin → Bool → ImageFault → Type 0
IsPlacedSuperEnd Left memory device first pin failed fault = LacksPlacedTree Left device first pin fault ⊎ IsCommonEnd memory failed fault

-- `dump`: the superblock isn't read, memory ran out for that cause, or the text can't be written
abbrev pub IsPlacedDumpEnd : (Device → Type 0) → Type 0 → Device → ℕ → Bool → ImageFault → Type 0
IsPlacedDumpEnd Left memory device first failed fault = (device' : Device) × (Left device' × IsVerifyEnd memory (IsReadCause (behind device first) device') failed fault)

-- the superblock was read and has the values of the pin, if there is one, and room for its table line was refused
pub record RefusesLine (first : ℕ) (data_name hash_name : List ℕ) (trusted : TrustedRoot) (device : Device) : Type 0 where
  pub super : SuperRecord
  pub super_read : ReadsSuper (behind device first) first trusted.pin super
  pub refused : IsOutOfMemory (line_room super data_name hash_name trusted.root (tree_start first super.hash_block 1))

-- the superblock was read, and memory for its text in that form ran out
pub record RefusesDumpOf (first : ℕ) (form : DumpForm) (device : Device) : Type 0 where
  pub super : SuperRecord
  pub sector : List ℕ
  pub super_read : IsReadFrom (behind device first) sector super
  pub refused : RefusesDump form

pub record EndsPlacedSuper {S D : Type 0} (w : Calls S D) (path : List ℕ) (first : ℕ) (pin : Option Pin) (memory : Device → Type 0) (failed : Bool) (fault : ImageFault) : Type 0 where
  pub image : PlacedImage D
  pub opened : OpensPlace w path false image
  pub ends : IsPlacedSuperEnd (IsPartState w.state) (memory (w.state image.device)) (w.state image.device) first pin failed fault

pub record EndsPlacedDump {S D : Type 0} (w : Calls S D) (path : List ℕ) (first : ℕ) (memory : Device → Type 0) (failed : Bool) (fault : ImageFault) : Type 0 where
  pub image : PlacedImage D
  pub opened : OpensPlace w path false image
  pub ends : IsPlacedDumpEnd (IsPartState w.state) (memory (w.state image.device)) (w.state image.device) first failed fault

abbrev pub IsDumpImageEnd : {S D : Type 0} → Calls S D → List ℕ → ℕ → (Device → Type 0) → Bool → ImageFault → Type 0
IsDumpImageEnd w path first memory failed fault = IsUnopened (RefusesPlace w path false) fault ⊎ EndsPlacedDump w path first memory failed fault

abbrev pub IsPlacedImageEnd : {S D : Type 0} → Calls S D → List ℕ → ℕ → Option Pin → (Device → Type 0) → Bool → ImageFault → Type 0
IsPlacedImageEnd w path first pin memory failed fault = IsUnopened (RefusesPlace w path false) fault ⊎ EndsPlacedSuper w path first pin memory failed fault

-- ---- as a call sees them: an opener's relations and what a proof sees of its devices, what gives generators and what a proof sees of one,
-- and what a proof sees of a writer, each with its value before and after

abbrev pub DumpsImageAt : {S D W : Type 0} → Opener S D → (D → Device) → S → S → (W → Option (List ℕ)) → CountedRecord W → CountedRecord W → HashPlace → DumpForm → Type 0
DumpsImageAt relations state images images' contents writer writer' place form =
    PrintsPlacedSuper (calls relations state images images') place.path.now place.first None (λ s. true) (dump_text form) (contents writer.inner) (contents writer'.inner)

abbrev pub PrintsLineAt : {S D W : Type 0} → Opener S D → (D → Device) → S → S → (W → Option (List ℕ)) → CountedRecord W → CountedRecord W → HashPlace → Option (Bor (List ℕ)) → LineWords → Type 0
PrintsLineAt relations state images images' contents writer writer' place name words =
    PrintsPlacedSuper (calls relations state images images') place.path.now place.first words.root.now.pin (λ s. is_aligned place.first s.hash_block) (λ s. placed_line name s words place.first) (contents writer.inner) (contents writer'.inner)

abbrev pub FailsToPrintAt : {S D W : Type 0} → Opener S D → (D → Device) → S → S → CountedRecord W → HashPlace → Option Pin → (Device → Type 0) → ImageFault → Type 0
FailsToPrintAt relations state images images' writer' place pin memory = IsPlacedImageEnd (calls relations state images images') place.path.now place.first pin memory writer'.failed

abbrev pub FailsToDumpAt : {S D W : Type 0} → Opener S D → (D → Device) → S → S → CountedRecord W → HashPlace → (Device → Type 0) → ImageFault → Type 0
FailsToDumpAt relations state images images' writer' place memory = IsDumpImageEnd (calls relations state images images') place.path.now place.first memory writer'.failed

-- room for the line of these words was refused
abbrev pub RefusesLineOf : ℕ → LineWords → Device → Type 0
RefusesLineOf first words device = RefusesLine first words.data_name.now words.hash_name.now words.root.now device

-- what `dump` prints of an open device
abbrev pub SaysFieldsAt : {H W : Type 0} → (H → Device) → H → (W → Option (List ℕ)) → CountedRecord W → CountedRecord W → ℕ → DumpForm → Type 0
SaysFieldsAt state hash_dev contents writer writer' first form =
    SaysPlaced (state hash_dev) first None (λ s. true) (dump_text form) (contents writer.inner) (contents writer'.inner)

abbrev pub SaysLineAt : {H W : Type 0} → (H → Device) → H × ℕ → (W → Option (List ℕ)) → CountedRecord W → CountedRecord W → Option (Bor (List ℕ)) → LineWords → Type 0
SaysLineAt state placed contents writer writer' name words =
    SaysPlaced (state placed.0) placed.1 words.root.now.pin (λ s. is_aligned placed.1 s.hash_block) (λ s. placed_line name s words placed.1) (contents writer.inner) (contents writer'.inner)
