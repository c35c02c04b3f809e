-- Images in memory as a proof sees them.
use Rattle.std.specs.Prelude.{◌≡◌, ◌==◌, ℕ, Bool, not, IsSome, List, length, ◌/◌, ◌%◌, take, Option, Some, None, Result, Ok, Err}
use Rattle.std.specs.Str.{bytes_eq}
use Rattle.block_device.specs.declared.file_id.FileId.{FileId}
use Rattle.block_device.specs.declared.file_id.FileId.TheVariants.{Inode}
use Rattle.block_device.specs.declared.memory.MemoryDev.{MemoryDev}
use Rattle.block_device.specs.declared.open_fault.OpenFault.{OpenFault}
use Rattle.block_device.specs.contracts.memory.MemoryDevBlockDev.TheImpl.{ghosts}
use Rattle.block_device.specs.Device.{in_memory, sectors_of}
use Rattle.block_device.specs.Memory.{memory_bytes}
use Rattle.image_files.specs.declared.images.FileText.{FileText}
use Rattle.image_files.specs.declared.images.OpenImage.{OpenImage}
use Rattle.image_files.specs.declared.parts.PartFault.{PartFault}
use Rattle.image_files.specs.declared.parts.PartFault.TheVariants.{Open, Outside}
use Rattle.device_adapters.specs.declared.part.Part.{Part}
use Rattle.memory_images.specs.declared.named_images.MemoryImages.{MemoryImages}
use Rattle.memory_images.specs.Named.{IsChanged, AreBytesPut, IsUncopied, Stands, named_place}
use Rattle.memory_images.specs.Parts.{LiesWithin, grown_image, part_bytes, shrunk_image, with_part}
use Rattle.image_files.specs.Opener.{Opener}
use Rattle.image_files.specs.declared.texts.ReplaceFault.{ReplaceFault}

-- these bytes are the image with that name, at this index
abbrev pub StandsAt : MemoryImages → List ℕ → ℕ → List ℕ → Type 0
StandsAt m path place bytes = Stands m.names.items m.images.items path place bytes

-- the identity of the image at an index
abbrev pub id_at : ℕ → Option FileId
id_at place = Some (Inode 0 place)

-- a device over a copy of the image with that name
pub record IsCopy (m : MemoryImages) (path : List ℕ) (writable : Bool) (image : OpenImage MemoryDev) : Type 0 where
  pub place : ℕ
  pub bytes : List ℕ
  pub stands : StandsAt m path place bytes
  pub is : ghosts.state image.device ≡ in_memory (sectors_of (length bytes / 512) bytes) writable
  pub holds : memory_bytes image.device ≡ bytes
  pub id : image.id ≡ id_at place

abbrev pub OpensCopy : MemoryImages → List ℕ → Bool → Result (OpenImage MemoryDev) OpenFault → Type 0
OpensCopy m path writable (Ok image) = IsCopy m path writable image
OpensCopy m path writable (Err fault) = IsUncopied m.names.items m.images.items path fault

-- the first bytes of the image with that name
pub record IsText (m : MemoryImages) (path : List ℕ) (most : ℕ) (text : FileText) : Type 0 where
  pub place : ℕ
  pub bytes : List ℕ
  pub stands : StandsAt m path place bytes
  pub is : text.bytes.items ≡ take most bytes
  pub id : text.id ≡ id_at place

abbrev pub TellsText : MemoryImages → List ℕ → ℕ → Result FileText OpenFault → Type 0
TellsText m path most (Ok text) = IsText m path most text
TellsText m path most (Err fault) = IsUncopied m.names.items m.images.items path fault

-- the image at an index gets the bytes of a device
abbrev pub PutsAt : Option ℕ → List ℕ → MemoryImages → MemoryImages → Type 0
PutsAt None bytes old new = new ≡ old
PutsAt (Some place) bytes old new = (new.names ≡ old.names) × AreBytesPut old.images.items place bytes new.images.items

-- a device over a copy of a part of the image with that name
pub record IsPartCopy (m : MemoryImages) (path : List ℕ) (writable : Bool) (part : Part) (image : OpenImage MemoryDev) : Type 0 where
  pub place : ℕ
  pub bytes : List ℕ
  pub stands : StandsAt m path place bytes
  pub inside : LiesWithin bytes part
  pub is : ghosts.state image.device ≡ in_memory (sectors_of (length (part_bytes bytes part) / 512) (part_bytes bytes part)) writable
  pub holds : memory_bytes image.device ≡ part_bytes bytes part
  pub id : image.id ≡ id_at place

-- a device over that part of a device's bytes
pub record IsNarrowedCopy (device : MemoryDev) (part : Part) (narrowed : MemoryDev) : Type 0 where
  pub is : ghosts.state narrowed ≡ in_memory (sectors_of (length (part_bytes (memory_bytes device) part) / 512) (part_bytes (memory_bytes device) part)) (ghosts.state device).may_write
  pub holds : memory_bytes narrowed ≡ part_bytes (memory_bytes device) part

-- the part isn't within the image with that name
pub record IsOutside (m : MemoryImages) (path : List ℕ) (part : Part) : Type 0 where
  pub place : ℕ
  pub bytes : List ℕ
  pub stands : StandsAt m path place bytes
  pub outside : LiesWithin bytes part → ⊥

abbrev pub OpensPartCopy : MemoryImages → List ℕ → Bool → Part → Result (OpenImage MemoryDev) PartFault → Type 0
OpensPartCopy m path writable part (Ok image) = IsPartCopy m path writable part image
OpensPartCopy m path writable part (Err (Open fault)) = IsUncopied m.names.items m.images.items path fault
OpensPartCopy m path writable part (Err Outside) = IsOutside m path part

-- the image at an index is changed by this function
abbrev pub ChangesAt : Option ℕ → (List ℕ → List ℕ) → MemoryImages → MemoryImages → Type 0
ChangesAt None change old new = new ≡ old
ChangesAt (Some place) change old new = (new.names ≡ old.names) × IsChanged old.images.items place change new.images.items

-- the image is extended, or unchanged
abbrev pub GrowsAt : MemoryImages → List ℕ → ℕ → Result (Unit {0}) OpenFault → MemoryImages → Type 0
GrowsAt old path sectors (Ok done) new = ChangesAt (named_place old.names.items path) (λ image. grown_image image sectors) old new
GrowsAt old path sectors (Err fault) new = ChangesAt (named_place old.names.items path) (λ image. image) old new

-- the image is shortened, or all is unchanged
abbrev pub ShrinksAt : MemoryImages → List ℕ → ℕ → Result (Unit {0}) OpenFault → MemoryImages → Type 0
ShrinksAt old path sectors (Ok done) new = ChangesAt (named_place old.names.items path) (λ image. shrunk_image image sectors) old new
ShrinksAt old path sectors (Err fault) new = new ≡ old

-- whether the image with that name ends inside a sector
pub record IsMeasured (m : MemoryImages) (path : List ℕ) (part : Bool) : Type 0 where
  pub place : ℕ
  pub bytes : List ℕ
  pub stands : StandsAt m path place bytes
  pub is : part ≡ not (length bytes % 512 == 0)

abbrev pub Measures : MemoryImages → List ℕ → Result Bool OpenFault → Type 0
Measures m path (Ok part) = IsMeasured m path part
Measures m path (Err fault) = IsUncopied m.names.items m.images.items path fault

-- the image with that name is replaced by these bytes
pub record IsReplaced (old : MemoryImages) (path bytes : List ℕ) (new : MemoryImages) : Type 0 where
  pub place : ℕ
  pub held : List ℕ
  pub stands : StandsAt old path place held
  pub names : new.names ≡ old.names
  pub put : AreBytesPut old.images.items place bytes new.images.items

-- the image is replaced, or all is unchanged
abbrev pub ReplacesAt : MemoryImages → List ℕ → List ℕ → Result (Unit {0}) ReplaceFault → MemoryImages → Type 0
ReplacesAt old path bytes (Ok done) new = IsReplaced old path bytes new
ReplacesAt old path bytes (Err fault) new = new ≡ old

-- an image whose name doesn't exist isn't created
abbrev pub IsTrial : MemoryImages → List ℕ → Result (Unit {0}) ReplaceFault → Type 0
IsTrial m path (Ok done) = IsSome (named_place m.names.items path)
IsTrial m path (Err fault) = named_place m.names.items path ≡ None

abbrev pub memory_relations : Opener MemoryImages MemoryDev
memory_relations = record {
  opens = λ old path writable outcome new. (new ≡ old) × OpensCopy old path writable outcome;
  opens_part = λ old path writable part outcome new. (new ≡ old) × OpensPartCopy old path writable part outcome;
  narrows = λ old device part narrowed new. (new ≡ old) × IsNarrowedCopy device part narrowed;
  lacks = λ old device lost lacking new. (new ≡ old) × (lacking ≡ device);
  tells = λ old path most outcome new. (new ≡ old) × TellsText old path most outcome;
  takes = λ old path device new. PutsAt (named_place old.names.items path) (memory_bytes device) old new;
  takes_part = λ old path part device new. ChangesAt (named_place old.names.items path) (λ image. with_part image part (memory_bytes device)) old new;
  grows = GrowsAt;
  shrinks = ShrinksAt;
  measures = λ old path outcome new. (new ≡ old) × Measures old path outcome;
  compares = λ old path other outcome new. (new ≡ old) × (outcome ≡ Ok (bytes_eq path other));
  replaces = ReplacesAt;
  tries = λ old path outcome new. (new ≡ old) × IsTrial old path outcome;
}
