-- The parity of an image in files, written to a file.
use Rattle.std.specs.Prelude.{◌≡◌, ◌⊎◌, true}
use Rattle.block_device.specs.Device.{Device, IsUnsynced, synced}
use Rattle.fec_area.specs.declared.layout.Layout.{Layout}
use Rattle.fec_area.specs.declared.writing.ParityFault.{ParityFault}
use Rattle.fec_area.specs.declared.writing.ParityFault.TheVariants.{Device as DeviceFailed}
use Rattle.fec_area.specs.Layouts.{parity_sectors}
use Rattle.fec_area.specs.Writing.{IsParityCause, IsParityWritten}
use Rattle.image_files.specs.declared.opening.UnopenedFile.{UnopenedFile}
use Rattle.image_files.specs.Opener.{Calls}
use Rattle.image_files.specs.OpenPlaces.{ClosesPlace}
use Rattle.image_commands.specs.declared.tree_source.TreeSource.{TreeSource}
use Rattle.image_commands.specs.Places.{IsPartState, TwoPlaces, before, behind}
use Rattle.verity_format.specs.Blocks.{IsOnlyWritten}
use Rattle.fec_commands.specs.declared.fault.FecFault.{FecFault}
use Rattle.fec_commands.specs.declared.fault.FecFault.TheVariants.{Parity}
use Rattle.fec_commands.specs.declared.image.Extent.{Extent}
use Rattle.fec_commands.specs.declared.image.LaidTree.{LaidTree}
use Rattle.fec_commands.specs.declared.image.ThreeImages.{ThreeImages}
use Rattle.fec_commands.specs.FecFaults.{unopened}
use Rattle.command_line.specs.FecFiles.{FecRecord}
use Rattle.fec_commands.specs.Images.{FailsToOpenThree, OpensThree, extent_of}
use Rattle.fec_commands.specs.Layings.{IsLayoutEnd, LaysOut}

-- ---- `Data` and `Hash` are what holds of the devices that calls left: they are parts of ones of the opener's type

-- the parity was written and synced, and everything after it is unchanged
pub record IsSealed (Data Hash : Device → Type 0) (l : Layout) (data_dev hash_dev parity_dev parity_dev' : Device) : Type 0 where
  pub data_dev' : Device
  pub hash_dev' : Device
  pub left : Data data_dev' × Hash hash_dev'
  pub written_dev : Device
  pub written : IsParityWritten l data_dev hash_dev parity_dev data_dev' hash_dev' written_dev
  pub only : IsOnlyWritten parity_dev (parity_sectors l) written_dev
  pub is_synced : parity_dev' ≡ synced written_dev

-- the parity wasn't written, or not all of it, for this reason
pub record IsParityUnfinished (Data Hash : Device → Type 0) (l : Layout) (data_dev hash_dev parity_dev parity_dev' : Device) (fault : ParityFault) : Type 0 where
  pub data_dev' : Device
  pub hash_dev' : Device
  pub left : Data data_dev' × Hash hash_dev'
  pub cause : IsParityCause l data_dev hash_dev parity_dev data_dev' hash_dev' parity_dev' fault
  pub only : IsOnlyWritten parity_dev (parity_sectors l) parity_dev'

-- the parity was written, but its sync failed
pub record IsUnsealed (Data Hash : Device → Type 0) (l : Layout) (data_dev hash_dev parity_dev parity_dev' : Device) (fault : ParityFault) : Type 0 where
  pub data_dev' : Device
  pub hash_dev' : Device
  pub left : Data data_dev' × Hash hash_dev'
  pub written_dev : Device
  pub written : IsParityWritten l data_dev hash_dev parity_dev data_dev' hash_dev' written_dev
  pub only : IsOnlyWritten parity_dev (parity_sectors l) written_dev
  pub failed : IsUnsynced written_dev parity_dev'
  pub is : fault ≡ DeviceFailed

abbrev pub IsSealingEnd : (Device → Type 0) → (Device → Type 0) → Layout → Device → Device → Device → Device → ParityFault → Type 0
IsSealingEnd Data Hash l data_dev hash_dev parity_dev parity_dev' fault =
    IsParityUnfinished Data Hash l data_dev hash_dev parity_dev parity_dev' fault ⊎ IsUnsealed Data Hash l data_dev hash_dev parity_dev parity_dev' fault

-- the parity of the data before the data's end, and of the hash image after its first sector, whose tree is that of the source
pub record ProtectsBehind (Data Hash : Device → Type 0) (data_dev hash_dev parity_dev : Device) (extent : Extent) (source : TreeSource) (parity_dev' : Device) : Type 0 where
  pub laid : LaidTree
  pub read_dev : Device
  pub left : Hash read_dev
  pub lays : LaysOut (before data_dev extent.end) (behind hash_dev extent.first) extent.first source extent.roots read_dev laid
  pub sealed : IsSealed Data Hash laid.layout (before data_dev extent.end) read_dev parity_dev parity_dev'

-- there is no layout, and nothing was written
pub record EndsUnlaid (Hash : Device → Type 0) (data_dev hash_dev parity_dev : Device) (extent : Extent) (source : TreeSource) (parity_dev' : Device) (fault : FecFault) : Type 0 where
  pub read_dev : Device
  pub left : Hash read_dev
  pub ends : IsLayoutEnd (before data_dev extent.end) (behind hash_dev extent.first) extent.first source read_dev fault
  pub same : parity_dev' ≡ parity_dev

-- there is a layout, and the parity isn't written and synced
pub record EndsUnsealed (Data Hash : Device → Type 0) (data_dev hash_dev parity_dev : Device) (extent : Extent) (source : TreeSource) (parity_dev' : Device) (fault : FecFault) : Type 0 where
  pub laid : LaidTree
  pub read_dev : Device
  pub left : Hash read_dev
  pub cause : ParityFault
  pub lays : LaysOut (before data_dev extent.end) (behind hash_dev extent.first) extent.first source extent.roots read_dev laid
  pub ends : IsSealingEnd Data Hash laid.layout (before data_dev extent.end) read_dev parity_dev parity_dev' cause
  pub is : fault ≡ Parity cause

abbrev pub IsParityEnd : (Device → Type 0) → (Device → Type 0) → Device → Device → Device → Extent → TreeSource → Device → FecFault → Type 0
IsParityEnd Data Hash data_dev hash_dev parity_dev extent source parity_dev' fault =
    EndsUnlaid Hash data_dev hash_dev parity_dev extent source parity_dev' fault ⊎ EndsUnsealed Data Hash data_dev hash_dev parity_dev extent source parity_dev' fault

-- ---- in terms of devices of any type

abbrev pub IsProtectedBy : {D H P : Type 0} → (D → Device) → (H → Device) → (P → Device) → D → H → P → Extent → TreeSource → P → Type 0
IsProtectedBy data_state hash_state parity_state data_dev hash_dev parity extent source parity' =
    ProtectsBehind (IsPartState data_state) (IsPartState hash_state) (data_state data_dev) (hash_state hash_dev) (parity_state parity) extent source (parity_state parity')

abbrev pub IsUnprotected : {D H P : Type 0} → (D → Device) → (H → Device) → (P → Device) → D → H → P → Extent → TreeSource → P → FecFault → Type 0
IsUnprotected data_state hash_state parity_state data_dev hash_dev parity extent source parity' fault =
    IsParityEnd (IsPartState data_state) (IsPartState hash_state) (data_state data_dev) (hash_state hash_dev) (parity_state parity) extent source (parity_state parity') fault

-- ---- in terms of files

-- The parity of the image was written to the file, which is neither of the images, synced, and closed.
pub record ProtectsImage {S D : Type 0} (source : TreeSource) (w : Calls S D) (places : TwoPlaces) (fec : FecRecord) : Type 0 where
  pub between : S
  pub three : ThreeImages D
  pub closed_dev : D
  pub opened : OpensThree (record w { new = between }) places fec true three
  pub protects : ProtectsBehind (IsPartState w.state) (IsPartState w.state) (w.state three.«data».device) (w.state three.hash.device) (w.state three.parity.device) (extent_of places fec three) source (w.state closed_dev)
  pub closed : ClosesPlace (record w { old = between }) three.parity.place closed_dev

-- a file can't be opened
pub record IsProtectUnopened {S D : Type 0} (w : Calls S D) (places : TwoPlaces) (fec : FecRecord) (fault : FecFault) : Type 0 where
  pub file : UnopenedFile
  pub refused : FailsToOpenThree w places fec true file
  pub is : fault ≡ unopened file

-- all three files are open, and the parity isn't written and synced
pub record EndsUnprotected {S D : Type 0} (source : TreeSource) (w : Calls S D) (places : TwoPlaces) (fec : FecRecord) (fault : FecFault) : Type 0 where
  pub three : ThreeImages D
  pub parity_dev' : D
  pub opened : OpensThree w places fec true three
  pub ends : IsParityEnd (IsPartState w.state) (IsPartState w.state) (w.state three.«data».device) (w.state three.hash.device) (w.state three.parity.device) (extent_of places fec three) source (w.state parity_dev') fault

abbrev pub IsProtectEnd : {S D : Type 0} → TreeSource → Calls S D → TwoPlaces → FecRecord → FecFault → Type 0
IsProtectEnd source w places fec fault = IsProtectUnopened w places fec fault ⊎ EndsUnprotected source w places fec fault
