-- The size of the parity file, checked before anything is written or printed.
use Rattle.std.specs.Prelude.{◌≡◌, ◌⊎◌, ℕ, ◌<◌, ◌≤◌, Bool, true, false}
use Rattle.block_device.specs.Device.{Device}
use Rattle.command_line.specs.FecFiles.{FecRecord}
use Rattle.fec_area.specs.declared.layout.Layout.{Layout}
use Rattle.fec_area.specs.declared.writing.ParityFault.{ParityFault}
use Rattle.fec_area.specs.declared.writing.ParityFault.TheVariants.{TooSmall, ReadOnly, Device as DeviceFailed, NoMemory}
use Rattle.fec_area.specs.Layouts.{parity_sectors}
use Rattle.image_files.specs.declared.opening.UnopenedFile.{UnopenedFile}
use Rattle.image_files.specs.Opener.{Calls}
use Rattle.image_commands.specs.Places.{TwoPlaces, before, behind}
use Rattle.fec_commands.specs.declared.fault.FecFault.{FecFault}
use Rattle.fec_commands.specs.declared.fault.FecFault.TheVariants.{Parity}
use Rattle.fec_commands.specs.declared.image.Extent.{Extent}
use Rattle.fec_commands.specs.declared.image.ThreeImages.{ThreeImages}
use Rattle.fec_commands.specs.FecFaults.{unopened}
use Rattle.fec_commands.specs.declared.finding.FoundThree.{FoundThree}
use Rattle.fec_commands.specs.declared.wanted.WantedTree.{WantedTree}
use Rattle.fec_commands.specs.Finding.{FindsThree, IsUnfound}
use Rattle.fec_commands.specs.FixedSize.{FitsFixedSize, IsFixedTooShort}
use Rattle.fec_commands.specs.Images.{OpensThree, extent_of}
use Rattle.fec_commands.specs.Needed.{AreEnough, IsNeeded}
use Rattle.fec_commands.specs.Protecting.{IsProtectUnopened}

-- ---- for an image that is to be made

-- a device has enough sectors for the parity of what the options make
abbrev pub FitsByOptions : WantedTree → Device → Device → Device → Extent → Type 0
FitsByOptions wanted data_dev hash_dev parity_dev extent =
    AreEnough (IsNeeded wanted (before data_dev extent.end).size (behind hash_dev extent.first).size extent.roots) wanted (before data_dev extent.end).size parity_dev.size

-- a device has fewer sectors than needed
pub record IsShortOf (wanted : WantedTree) (data_dev hash_dev parity_dev : Device) (extent : Extent) (needed : ℕ) : Type 0 where
  pub needs : IsNeeded wanted (before data_dev extent.end).size (behind hash_dev extent.first).size extent.roots needed
  pub short : parity_dev.size < needed

abbrev pub IsShortByOptions : WantedTree → Device → Device → Device → Extent → ParityFault → Type 0
IsShortByOptions wanted data_dev hash_dev parity_dev extent (TooSmall needed) = IsShortOf wanted data_dev hash_dev parity_dev extent needed
IsShortByOptions wanted data_dev hash_dev parity_dev extent ReadOnly = ⊥
IsShortByOptions wanted data_dev hash_dev parity_dev extent DeviceFailed = ⊥
IsShortByOptions wanted data_dev hash_dev parity_dev extent NoMemory = ⊥

-- DATA and HASH were opened for reading, and the parity file for writing; it is neither of them, and has enough sectors
pub record OpensForWords {S D : Type 0} (wanted : WantedTree) (w : Calls S D) (places : TwoPlaces) (fec : FecRecord) : Type 0 where
  pub three : ThreeImages D
  pub opened : OpensThree w places fec true three
  pub enough : FitsByOptions wanted (w.state three.«data».device) (w.state three.hash.device) (w.state three.parity.device) (extent_of places fec three)

-- all were opened, and the file is too short for the parity of what the options make
pub record EndsTooShort {S D : Type 0} (wanted : WantedTree) (w : Calls S D) (places : TwoPlaces) (fec : FecRecord) (fault : FecFault) : Type 0 where
  pub three : ThreeImages D
  pub opened : OpensThree w places fec true three
  pub cause : ParityFault
  pub short : IsShortByOptions wanted (w.state three.«data».device) (w.state three.hash.device) (w.state three.parity.device) (extent_of places fec three) cause
  pub is : fault ≡ Parity cause

abbrev pub IsTooShortByWords : {S D : Type 0} → WantedTree → Calls S D → TwoPlaces → FecRecord → FecFault → Type 0
IsTooShortByWords wanted w places fec fault = IsProtectUnopened w places fec fault ⊎ EndsTooShort wanted w places fec fault

-- ---- for an image that is to be made in files that grow

-- the files that exist were opened; FILE is none of the others, can be created, and isn't a block device that is too short
pub record FitsGrown {S D : Type 0} (wanted : WantedTree) (w : Calls S D) (places : TwoPlaces) (fec : FecRecord) : Type 0 where
  pub found : FoundThree D
  pub finds : FindsThree w places fec found
  pub fixed : FitsFixedSize w.state found wanted places.first fec.roots

-- a file that exists can't be opened, or FILE can't be created
pub record EndsUnfound {S D : Type 0} (w : Calls S D) (places : TwoPlaces) (fec : FecRecord) (fault : FecFault) : Type 0 where
  pub file : UnopenedFile
  pub unfound : IsUnfound w places fec file
  pub is : fault ≡ unopened file

-- FILE is a block device that is too short; files were opened, and none was created, written or extended
pub record EndsFixedTooShort {S D : Type 0} (wanted : WantedTree) (w : Calls S D) (places : TwoPlaces) (fec : FecRecord) (fault : FecFault) : Type 0 where
  pub found : FoundThree D
  pub cause : ParityFault
  pub finds : FindsThree w places fec found
  pub short : IsFixedTooShort w.state found wanted places.first fec.roots cause
  pub is : fault ≡ Parity cause

-- ---- `format --fec`, with `--grow` and without

abbrev pub FitsFile : {S D : Type 0} → Bool → WantedTree → Calls S D → TwoPlaces → FecRecord → Type 0
FitsFile true wanted w places fec = FitsGrown wanted w places fec
FitsFile false wanted w places fec = OpensForWords wanted w places fec

abbrev pub IsUnfit : {S D : Type 0} → Bool → WantedTree → Calls S D → TwoPlaces → FecRecord → FecFault → Type 0
IsUnfit true wanted w places fec fault = EndsUnfound w places fec fault ⊎ EndsFixedTooShort wanted w places fec fault
IsUnfit false wanted w places fec fault = IsTooShortByWords wanted w places fec fault
