-- The steps of filling a disk, by the opener's calls.
use Rattle.std.specs.Prelude.{◌≡◌, ◌-◌, ◌^◌, ◌≤◌, ◌||◌, ℕ, nat_lt, Bool, true, false, List, Ok, replicate}
use Rattle.block_device.specs.Device.{Device, synced}
use Rattle.device_adapters.specs.declared.part.Part.{Part}
use Rattle.device_adapters.specs.Copying.{AreCopied}
use Rattle.disk_layout.specs.Ends.{back_bytes, back_sector, front_bytes}
use Rattle.disk_layout.specs.Writing.{PutsEnds}
use Rattle.fec_area.specs.declared.layout.Layout.{Layout}
use Rattle.fec_area.specs.Layouts.{IsLaidOn, IsLayoutOf}
use Rattle.fec_commands.specs.Protecting.{IsSealed}
use Rattle.image_commands.specs.declared.format.MadeImage.{MadeImage}
use Rattle.image_commands.specs.Formats.{IsMade}
use Rattle.image_commands.specs.Places.{IsStateOf}
use Rattle.image_files.specs.declared.file_use.FileUse.{FileUse}
use Rattle.image_files.specs.declared.images.OpenImage.{OpenImage}
use Rattle.image_files.specs.Apart.{OpensApart}
use Rattle.image_files.specs.Opener.{Calls}
use Rattle.image_files.specs.OpenParts.{OpensPart}
use Rattle.partition_table.specs.Disks.{disk_of}
use Rattle.verity_format.specs.declared.formatting.FormatOptions.{FormatOptions}
use Rattle.verity_format.specs.Superblock.{shape_of}
use Rattle.assemble_commands.specs.declared.plan.DiskPlan.{DiskPlan}
use Rattle.assemble_commands.specs.Plans.{disk_id, partitions_of}

-- the disk under a path was opened beside other files, used so, and closed
pub record OnDisk {S D : Type 0} (w : Calls S D) (files : List FileUse) (path : List ℕ) (Does : Device → Device → Type 0) : Type 0 where
  pub between : S
  pub image : OpenImage D
  pub device' : D
  pub opened : OpensApart (record w { new = between }) files path true image
  pub used : Does (w.state image.device) (w.state device')
  pub closed : w.relations.takes between path device' w.new

-- a part of it was
pub record OnPart {S D : Type 0} (w : Calls S D) (files : List FileUse) (path : List ℕ) (part : Part) (Does : Device → Device → Type 0) : Type 0 where
  pub between : S
  pub image : OpenImage D
  pub device' : D
  pub opened : OpensPart (record w { new = between }) files path true part image
  pub used : Does (w.state image.device) (w.state device')
  pub closed : w.relations.takes_part between path part device' w.new

abbrev pub OpensDiskPart : {S D : Type 0} → Calls S D → List FileUse → List ℕ → Part → OpenImage D → Type 0
OpensDiskPart w files path part image = OpensPart w files path true part image

-- the file under a path has at least so many sectors
abbrev pub GrowsDisk : {S D : Type 0} → Calls S D → List ℕ → ℕ → Type 0
GrowsDisk w path sectors = w.relations.grows w.old path sectors (Ok tt) w.new

-- a disk is too small: it has fewer sectors than needed, or than 2 MiB
abbrev pub is_short : ℕ → ℕ → Bool
is_short sectors needed = nat_lt sectors needed || nat_lt sectors 4096

-- the first and the last 64 sectors of a disk that is large enough are zeros, and synced
pub record Clears (needed : ℕ) (old new : Device) : Type 0 where
  pub long : is_short old.size needed ≡ false
  pub puts : PutsEnds old (replicate 32768 0) (old.size - 64) (replicate 32768 0) new

abbrev pub ClearsEnds : {S D : Type 0} → Calls S D → List FileUse → List ℕ → ℕ → Type 0
ClearsEnds w files path needed = OnDisk w files path (Clears needed)

-- both copies of the table of such a disk and the master boot record were written, and synced
pub record Tables (plan : DiskPlan) (made : MadeImage) (old new : Device) : Type 0 where
  pub long : is_short old.size plan.parts.sectors ≡ false
  pub few : old.size ≤ 2 ^ 54
  pub puts : PutsEnds old (front_bytes (disk_of old plan.size) (disk_id made) (partitions_of plan made)) (back_sector (disk_of old plan.size))
      (back_bytes (disk_of old plan.size) (disk_id made) (partitions_of plan made)) new

abbrev pub PutsTable : {S D : Type 0} → Calls S D → List FileUse → List ℕ → DiskPlan → MadeImage → Type 0
PutsTable w files path plan made = OnDisk w files path (Tables plan made)

-- all sectors of the data were copied to a part, and synced
pub record CopiesSynced (from to from' to' : Device) : Type 0 where
  pub copied_dev : Device
  pub copied : AreCopied from to 0 from.size from' copied_dev
  pub kept : to' ≡ synced copied_dev

abbrev pub CopiesPart : {S D : Type 0} → Calls S D → List FileUse → List ℕ → Part → D → D → Type 0
CopiesPart w files path part data_dev data_dev' = OnPart w files path part (λ to to'. CopiesSynced (w.state data_dev) to (w.state data_dev') to')

-- the hash image of the data was made in a part, and synced
abbrev pub MakesPart : {S D : Type 0} → Calls S D → List FileUse → List ℕ → Part → D → D → FormatOptions → MadeImage → Type 0
MakesPart w files path part data_dev data_dev' options made =
    OnPart w files path part (λ hash_dev hash_dev'. IsMade (IsStateOf w.state) options (w.state data_dev) hash_dev (w.state data_dev') hash_dev' made)

-- The parts of the hash image and of the parity were opened. The parity of the data and of the hash image was written and synced.
pub record WritesParity {S D : Type 0} (w : Calls S D) (files : List FileUse) (path : List ℕ) (data_dev : D) (plan : DiskPlan) : Type 0 where
  pub hash_opened : S
  pub parity_opened : S
  pub hash : OpenImage D
  pub parity : OpenImage D
  pub parity_dev' : D
  pub layout : Layout
  pub opens_hash : OpensPart (record w { new = hash_opened }) files path true plan.parts.hash hash
  pub opens_parity : OpensPart (record w { old = hash_opened; new = parity_opened }) files path true plan.parts.parity parity
  pub is : IsLayoutOf (shape_of plan.superblock) (w.state hash.device).size 2 layout
  pub laid : IsLaidOn layout (w.state data_dev) (w.state hash.device)
  pub sealed : IsSealed (IsStateOf w.state) (IsStateOf w.state) layout (w.state data_dev) (w.state hash.device) (w.state parity.device) (w.state parity_dev')
  pub closed : w.relations.takes_part parity_opened path plan.parts.parity parity_dev' w.new

-- that, or nothing if the disk is to have no parity
abbrev pub ProtectsAs : {S D : Type 0} → Bool → Calls S D → List FileUse → List ℕ → D → D → DiskPlan → Type 0
ProtectsAs true w files path data_dev data_dev' plan = WritesParity w files path data_dev plan
ProtectsAs false w files path data_dev data_dev' plan = (w.new ≡ w.old) × (data_dev' ≡ data_dev)

abbrev pub ProtectsParts : {S D : Type 0} → Calls S D → List FileUse → List ℕ → D → D → DiskPlan → Type 0
ProtectsParts w files path data_dev data_dev' plan = ProtectsAs plan.has_parity w files path data_dev data_dev' plan
