-- What is read through a `verity` line over a disk that was assembled.
use Rattle.std.specs.Prelude.{◌≡◌, ◌≢◌, ℕ, ◌+◌, ◌-◌, ◌/◌, ◌<◌, ◌≤◌, IsTrue, List, [], ◌∷◌, length, Option, Some, Ok}
use Rattle.std.specs.List.{concat, slice_index_or}
use Rattle.block_device.specs.Device.{Device, run_of}
use Rattle.command_line.specs.words.Assemble.{AssembleRecord}
use Rattle.device_adapters.specs.declared.part.Part.{Part}
use Rattle.dm_table.specs.declared.table.Line.{Line}
use Rattle.dm_table.specs.declared.table.Target.TheVariants.{Linear, Verity as verity_target}
use Rattle.dm_table.specs.declared.verity.Verity.{Verity}
use Rattle.image_commands.specs.Drawing.{Gives}
use Rattle.image_files.specs.Opener.{Opener}
use Rattle.rand_core.specs.Stream.{Stream}
use Rattle.stack_engine.specs.Bytes.{MayBeBytes}
use Rattle.stack_engine.specs.Laws.{ChainCollides, LiesInVerity, named_sector}
use Rattle.stack_meaning.specs.Meaning.{sector}
use Rattle.stack_meaning.specs.Outcomes.{AreWhole, Images, part, span}
use Rattle.stack_rules.specs.Names.{lines_of, mapped, named}
use Rattle.stack_rules.specs.declared.lower.Lower.TheVariants.{Leaf as leaf}
use Rattle.stack_rules.specs.Records.{Configuration}
use Rattle.stack_rules.specs.Rules.{IsLoaded}
use Rattle.stack_rules.specs.Trees.{block_sectors}
use Rattle.verity_format.specs.Blocks.{blocks_at}
use Rattle.verity_format.specs.Line.{verity_line}
use Rattle.verity_format.specs.Superblock.{SuperRecord}
use Rattle.assemble_commands.specs.Laws.{HasAssembled}

-- sector s of a device lies in the line that `partitions --root` prints of an image with this superblock and root hash, over devices
-- of these names
pub record LiesInImageLine (c : Configuration) (d s : ℕ) (super : SuperRecord) (root data_name hash_name : List ℕ) : Type 0 where
  pub number : ℕ
  pub line : Line
  pub v : Verity
  pub lies : LiesInVerity c d s number line v
  pub is : verity_target v ≡ (verity_line super data_name hash_name root 1).target

-- sector w of a device
abbrev pub sector_of : Device → ℕ → List ℕ
sector_of device w = slice_index_or device.image w []

-- the data blocks of an image of this superblock
abbrev pub blocks_of : SuperRecord → Device → List (List ℕ)
blocks_of super data_dev = blocks_at data_dev.image super.data_block 0 super.blocks

-- If DATA was steady: whatever the disk returns, a sector that is read through the line is DATA's, or a chain of its block shows two
-- different inputs of one SHA-256 digest.
abbrev pub OtherDataCollide : {S D T G : Type 0} → Opener S D → (D → Device) → Gives T G → (G → Stream) → Type 0
OtherDataCollide {S} {D} {T} {G} relations state gives stream =
    (images images' : S) (generators generators' : T) (a : AssembleRecord) (old new : Option (List ℕ)) → (done : HasAssembled relations state gives stream images images' generators generators' a old new)
    → IsTrue (state done.fills.image.device).steady
    → (c : Configuration) → IsLoaded c → (d first n : ℕ) (bytes : List ℕ) → MayBeBytes c (mapped d) first n bytes
    → (j : ℕ) → j < n → (data_name hash_name : List ℕ) → (here : LiesInImageLine c d (first + j) done.plan.superblock done.made.root data_name hash_name)
    → let w = first + j - here.line.start in
    part bytes j ≢ sector_of (state done.fills.image.device) w → ChainCollides here.v (blocks_of done.plan.superblock (state done.fills.image.device)) (w / block_sectors here.v)

-- the device of that name has what a device holds
abbrev pub NamedHolds : Configuration → Images → List ℕ → Device → Type 0
NamedHolds c images name device = span (named_sector c images name) 0 device.size ≡ Ok (concat device.image)

-- the device of that name is one linear line over a part of a leaf, which holds what a device holds
pub record IsLinearPart (c : Configuration) (images : Images) (name : List ℕ) (part : Part) (device : Device) : Type 0 where
  pub number : ℕ
  pub leaf_name : List ℕ
  pub leaf_number : ℕ
  pub named_is : named c name ≡ Some (mapped number)
  pub lines_are : lines_of c number ≡ record { start = 0; length = part.count; target = Linear (record { device = leaf_name; offset = part.first }) } ∷ []
  pub leaf_is : named c leaf_name ≡ Some (leaf leaf_number)
  pub inside : part.first + part.count ≤ length (slice_index_or images leaf_number [])
  pub holds : run_of (slice_index_or images leaf_number []) part.first part.count ≡ device.image

-- such a device has what that device holds, as `partitions --root` prints them of a disk's parts
abbrev pub LinearPartsHold : {D : Type 0} → (D → Device) → Type 0
LinearPartsHold {D} state =
    (c : Configuration) → IsLoaded c → (images : Images) (name : List ℕ) (part : Part) (device : D) → IsLinearPart c images name part (state device) → NamedHolds c images name (state device)

-- If DATA and the two parts were steady, and the devices beneath the line hold what the parts held when they were closed, each sector of
-- the line is DATA's.
abbrev pub AssembledDataIsRead : {S D T G : Type 0} → Opener S D → (D → Device) → Gives T G → (G → Stream) → Type 0
AssembledDataIsRead {S} {D} {T} {G} relations state gives stream =
    (images images' : S) (generators generators' : T) (a : AssembleRecord) (old new : Option (List ℕ)) → (done : HasAssembled relations state gives stream images images' generators generators' a old new)
    → IsTrue (state done.fills.image.device).steady → IsTrue (state done.fills.fills.copies.image.device).steady → IsTrue (state done.fills.fills.makes.image.device).steady
    → (c : Configuration) → IsLoaded c → (leaves : Images) → AreWhole leaves → (data_name hash_name : List ℕ)
    → NamedHolds c leaves data_name (state done.fills.fills.copies.device') → NamedHolds c leaves hash_name (state done.fills.fills.makes.device')
    → (d s : ℕ) → (here : LiesInImageLine c d s done.plan.superblock done.made.root data_name hash_name)
    → sector c leaves (mapped d) s ≡ Ok (sector_of (state done.fills.image.device) (s - here.line.start))
