-- Why no image is opened under a path, by the calls that were made.
use Rattle.std.specs.Prelude.{◌≡◌, ◌⊎◌, ℕ, Bool, List}
use Rattle.std.specs.Fs.{file_type}
use Rattle.std.specs.declared.fs.File.{File}
use Rattle.std.specs.declared.fs.attrs.Metadata.{Metadata}
use Rattle.block_device.specs.declared.open_fault.OpenFault.{OpenFault}
use Rattle.block_device.specs.declared.open_fault.OpenFault.TheVariants.{OtherFault}
use Rattle.block_device.specs.File.{IsImage, IsRefused}
use Rattle.block_device.specs.FileCalls.{IsOfFile, IsOfPath, IsOpeningRefused, IsUnsaidOfFile, IsUnsaidOfPath, Opened}

-- the system said that neither a file nor a block device is under the path
pub record IsNoImage (path : List ℕ) (fault : OpenFault) : Type 0 where
  pub said : Metadata
  pub of : IsOfPath path said
  pub kind : IsImage (file_type said) → ⊥
  pub is : fault ≡ OtherFault

-- the system refused to say what an open file is, or it is no image, too large, or a block device without a known end
abbrev pub IsNotTaken : File → OpenFault → Type 0
IsNotTaken file fault = IsUnsaidOfFile file fault ⊎ ((said : Metadata) × IsOfFile file said × IsRefused said fault)

-- a file was opened, and then not taken
pub record IsOpenedInVain (path : List ℕ) (writable : Bool) (fault : OpenFault) : Type 0 where
  pub file : File
  pub opened : Opened path writable file
  pub not_taken : IsNotTaken file fault

-- the first call that failed, or what the system said
abbrev pub IsUnopenedImage : List ℕ → Bool → OpenFault → Type 0
IsUnopenedImage path writable fault = IsUnsaidOfPath path fault ⊎ (IsNoImage path fault ⊎ (IsOpeningRefused path writable fault ⊎ IsOpenedInVain path writable fault))
