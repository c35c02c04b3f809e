-- How a step of filling a disk ends early, by the opener's calls. After such an end nothing more is called.
use Rattle.std.specs.Prelude.{◌≡◌, ◌≢◌, ◌⊎◌, ◌<◌, ℕ, true, List}
use Rattle.allocation.specs.Refusal.{IsOutOfMemory}
use Rattle.block_device.specs.declared.open_fault.OpenFault.TheVariants.{NotFound}
use Rattle.block_device.specs.Device.{Device, HasFailed}
use Rattle.device_adapters.specs.declared.part.Part.{Part}
use Rattle.device_adapters.specs.Copying.{FailsToCopy}
use Rattle.fec_area.specs.declared.layout.Layout.{Layout}
use Rattle.fec_area.specs.declared.writing.ParityFault.{ParityFault}
use Rattle.fec_area.specs.Layouts.{IsLaidOn, IsLayoutOf}
use Rattle.fec_commands.specs.declared.fault.FecFault.{FecFault}
use Rattle.fec_commands.specs.declared.fault.FecFault.TheVariants.{BlockSizes, Parity, Verity}
use Rattle.fec_commands.specs.Protecting.{IsSealingEnd}
use Rattle.image_commands.specs.declared.fault.ImageFault.{ImageFault}
use Rattle.image_commands.specs.declared.fault.ImageFault.TheVariants.{Format, NoMemory, Open}
use Rattle.image_commands.specs.Formats.{IsFormatEnd}
use Rattle.image_commands.specs.Places.{IsStateOf}
use Rattle.image_files.specs.declared.file_use.FileUse.{FileUse}
use Rattle.image_files.specs.declared.images.OpenImage.{OpenImage}
use Rattle.image_files.specs.declared.opening.UnopenedFile.{UnopenedFile}
use Rattle.image_files.specs.declared.parts.UnopenedPart.{UnopenedPart}
use Rattle.image_files.specs.declared.parts.UnopenedPart.TheVariants.{File, Outside}
use Rattle.image_files.specs.Apart.{OpensApart, RefusesApart}
use Rattle.image_files.specs.Opener.{Calls}
use Rattle.image_files.specs.OpenParts.{OpensPart, RefusesPart}
use Rattle.image_files.specs.OpenPlaces.{FailsToGrowFile}
use Rattle.tree_shape.specs.Shape.{ShapeRecord}
use Rattle.verity_commands.specs.declared.verity_fault.VerityFault.TheVariants.{Image}
use Rattle.verity_format.specs.declared.formatting.FormatFault.TheVariants.{DataTooSmall, Device as DeviceFailed, HashTooSmall}
use Rattle.verity_format.specs.Superblock.{shape_of}
use Rattle.assemble_commands.specs.declared.plan.DiskPlan.{DiskPlan}
use Rattle.assemble_commands.specs.Steps.{is_short}

-- the largest allocation besides the names of types, in elements
abbrev pub step_room : ℕ
step_room = 65536

abbrev pub IsMemoryEnd : ℕ → ImageFault → Type 0
IsMemoryEnd room fault = (fault ≡ NoMemory) × IsOutOfMemory room

-- memory ran out, and nothing was called
abbrev pub EndsUncalled : {S D : Type 0} → Calls S D → ImageFault → Type 0
EndsUncalled w fault = IsMemoryEnd step_room fault × (w.new ≡ w.old)

-- a fault that is handed on
abbrev pub IsOfImage : (ImageFault → Type 0) → FecFault → Type 0
IsOfImage Ends fault = (cause : ImageFault) × (fault ≡ Verity (Image cause)) × Ends cause

-- ---- the disk

-- the file can't be made so long
abbrev pub FailsToGrow : {S D : Type 0} → Calls S D → List ℕ → ℕ → ImageFault → Type 0
FailsToGrow w path sectors fault = (file : UnopenedFile) × (fault ≡ Open file) × FailsToGrowFile w path sectors file

-- the disk isn't opened beside these files
abbrev pub IsDiskUnopened : {S D : Type 0} → Calls S D → List FileUse → List ℕ → ImageFault → Type 0
IsDiskUnopened w files path fault = (file : UnopenedFile) × (fault ≡ Open file) × RefusesApart w files path true file

-- it was opened for writing, and what was done on it failed
pub record FailsOnDisk {S D : Type 0} (w : Calls S D) (files : List FileUse) (path : List ℕ) (Fails : Device → Device → Type 0) : Type 0 where
  pub image : OpenImage D
  pub device' : D
  pub opened : OpensApart w files path true image
  pub fails : Fails (w.state image.device) (w.state device')

-- a disk is too small, or failed when its ends were written
abbrev pub IsDiskFault : ℕ → ImageFault → Device → Device → Type 0
IsDiskFault needed fault device device' =
    ((is_short device.size needed ≡ true) × (fault ≡ Format (HashTooSmall needed))) ⊎ (HasFailed device device' × (fault ≡ Format DeviceFailed))

abbrev pub EndsClearing : {S D : Type 0} → Calls S D → List FileUse → List ℕ → ℕ → ImageFault → Type 0
EndsClearing w files path needed fault =
    EndsUncalled w fault ⊎ (IsDiskUnopened w files path fault ⊎ FailsOnDisk w files path (λ disk disk'. IsDiskFault needed fault disk disk'))

abbrev pub EndsTable : {S D : Type 0} → Calls S D → List FileUse → List ℕ → ℕ → ImageFault → Type 0
EndsTable w files path needed fault =
    IsDiskUnopened w files path fault ⊎ FailsOnDisk w files path (λ disk disk'. IsMemoryEnd step_room fault ⊎ IsDiskFault needed fault disk disk')

-- ---- its parts

-- a part that isn't inside the disk is not found
abbrev pub part_fault : UnopenedPart → ImageFault
part_fault (File file) = Open file
part_fault (Outside at) = Open (record { fault = NotFound; path = at })

-- a part of the disk isn't opened beside these files
abbrev pub IsPartUnopened : {S D : Type 0} → Calls S D → List FileUse → List ℕ → Part → ImageFault → Type 0
IsPartUnopened w files path part fault = (cause : UnopenedPart) × (fault ≡ part_fault cause) × RefusesPart w files path true part cause

-- it was opened for writing, and what was done on it failed
pub record FailsOnPart {S D : Type 0} (w : Calls S D) (files : List FileUse) (path : List ℕ) (part : Part) (Fails : Device → Device → Type 0) : Type 0 where
  pub image : OpenImage D
  pub device' : D
  pub opened : OpensPart w files path true part image
  pub fails : Fails (w.state image.device) (w.state device')

-- the part of the data is too small, or a device failed
abbrev pub IsCopyFault : ImageFault → Device → Device → Device → Device → Type 0
IsCopyFault fault from to from' to' = ((to.size < from.size) × (fault ≡ Format DataTooSmall)) ⊎ (FailsToCopy from to from' to' × (fault ≡ Format DeviceFailed))

abbrev pub EndsCopying : {S D : Type 0} → Calls S D → List FileUse → List ℕ → Part → D → ImageFault → Type 0
EndsCopying {S} {D} w files path part data_dev fault =
    EndsUncalled w fault
    ⊎ (IsPartUnopened w files path part fault ⊎ FailsOnPart w files path part (λ to to'. (data_dev' : D) × IsCopyFault fault (w.state data_dev) to (w.state data_dev') to'))

-- the hash image isn't made
abbrev pub EndsMaking : {S D : Type 0} → Calls S D → List FileUse → List ℕ → D → DiskPlan → ImageFault → Type 0
EndsMaking {S} {D} w files path data_dev plan fault =
    IsPartUnopened w files path plan.parts.hash fault
    ⊎ FailsOnPart w files path plan.parts.hash (λ hash_dev hash_dev'. (data_dev' : D) × IsFormatEnd (IsStateOf w.state) plan.options (w.state data_dev) hash_dev (w.state data_dev') hash_dev' fault)

-- ---- the parity

-- no layout covers blocks of the two devices
abbrev pub IsUnlaid : ShapeRecord → Device → Device → Type 0
IsUnlaid shape data_dev hash_dev =
    (shape.data_block ≢ shape.hash_block) ⊎ ((layout : Layout) × IsLayoutOf shape hash_dev.size 2 layout × (IsLaidOn layout data_dev hash_dev → ⊥))

-- the parity is laid out, and isn't written and synced
pub record IsUnwritten {D : Type 0} (state : D → Device) (shape : ShapeRecord) (data_dev hash_dev parity_dev : D) (fault : FecFault) : Type 0 where
  pub cause : ParityFault
  pub layout : Layout
  pub parity_dev' : D
  pub is : IsLayoutOf shape (state hash_dev).size 2 layout
  pub laid : IsLaidOn layout (state data_dev) (state hash_dev)
  pub ends : IsSealingEnd (IsStateOf state) (IsStateOf state) layout (state data_dev) (state hash_dev) (state parity_dev) (state parity_dev') cause
  pub fault_is : fault ≡ Parity cause

-- the part of the hash image was opened, and that of the parity wasn't
pub record IsParityUnopened {S D : Type 0} (w : Calls S D) (files : List FileUse) (path : List ℕ) (plan : DiskPlan) (fault : ImageFault) : Type 0 where
  pub between : S
  pub hash : OpenImage D
  pub opens_hash : OpensPart (record w { new = between }) files path true plan.parts.hash hash
  pub refused : IsPartUnopened (record w { old = between }) files path plan.parts.parity fault

-- both were opened, and there is no parity of the data and the hash image
pub record FailsToProtect {S D : Type 0} (w : Calls S D) (files : List FileUse) (path : List ℕ) (data_dev : D) (plan : DiskPlan) (fault : FecFault) : Type 0 where
  pub between : S
  pub hash : OpenImage D
  pub parity : OpenImage D
  pub opens_hash : OpensPart (record w { new = between }) files path true plan.parts.hash hash
  pub opens_parity : OpensPart (record w { old = between }) files path true plan.parts.parity parity
  pub fails : ((fault ≡ BlockSizes) × IsUnlaid (shape_of plan.superblock) (w.state data_dev) (w.state hash.device)) ⊎ IsUnwritten w.state (shape_of plan.superblock) data_dev hash.device parity.device fault

-- the disk is to have parity, and one of these
abbrev pub EndsProtecting : {S D : Type 0} → Calls S D → List FileUse → List ℕ → D → DiskPlan → FecFault → Type 0
EndsProtecting w files path data_dev plan fault =
    (plan.has_parity ≡ true)
    × (IsOfImage (λ cause. IsPartUnopened w files path plan.parts.hash cause ⊎ IsParityUnopened w files path plan cause) fault ⊎ FailsToProtect w files path data_dev plan fault)
