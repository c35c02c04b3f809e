-- What a proof sees of what commands open. S is the opener, D a device that it opens.
use Rattle.std.specs.Prelude.{◌≡◌, ℕ, Bool, false, List, Result}
use Rattle.device_adapters.specs.declared.part.Part.{Part}
use Rattle.block_device.specs.declared.open_fault.OpenFault.{OpenFault}
use Rattle.block_device.specs.Device.{Device, run_of}
use Rattle.image_files.specs.declared.images.FileText.{FileText}
use Rattle.image_files.specs.declared.images.OpenImage.{OpenImage}
use Rattle.image_files.specs.declared.parts.PartFault.{PartFault}
use Rattle.image_files.specs.declared.texts.ReplaceFault.{ReplaceFault}

-- Relations of the opener before a call, the call's arguments, its outcome, and the opener after it. What is generic over the
-- opener knows none of them but by a call, so that a clause that cites one says which call was made.
pub record Opener (S D : Type 0) : Type 1 where
  -- a path, and whether its image is opened for writing too
  pub opens : S → List ℕ → Bool → Result (OpenImage D) OpenFault → S → Type 0
  -- a path, whether its image is opened for writing too, and a part of it
  pub opens_part : S → List ℕ → Bool → Part → Result (OpenImage D) PartFault → S → Type 0
  -- an open device, a part of it, and the device of that part
  pub narrows : S → D → Part → D → S → Type 0
  -- an open device, parts of its file, and the device without their sectors
  pub lacks : S → D → List Part → D → S → Type 0
  -- a path, and how many bytes of its file are taken at most
  pub tells : S → List ℕ → ℕ → Result FileText OpenFault → S → Type 0
  -- a path, and the device that is closed
  pub takes : S → List ℕ → D → S → Type 0
  -- a path, a part of its image, and the device that is closed
  pub takes_part : S → List ℕ → Part → D → S → Type 0
  -- a path, and how many sectors its file has then at least
  pub grows : S → List ℕ → ℕ → Result (Unit {0}) OpenFault → S → Type 0
  -- a path, and how many sectors its file has then at most
  pub shrinks : S → List ℕ → ℕ → Result (Unit {0}) OpenFault → S → Type 0
  -- a path, and whether its file ends inside a sector
  pub measures : S → List ℕ → Result Bool OpenFault → S → Type 0
  -- a path and another one, and whether both lead to one place
  pub compares : S → List ℕ → List ℕ → Result Bool OpenFault → S → Type 0
  -- a path, and the bytes that are put in the place of what its file holds
  pub replaces : S → List ℕ → List ℕ → Result (Unit {0}) ReplaceFault → S → Type 0
  -- a path, and whether a file can be created beside it
  pub tries : S → List ℕ → Result (Unit {0}) ReplaceFault → S → Type 0

-- a device that was just opened
pub record IsFresh (device : Device) (writable : Bool) : Type 0 where
  pub may_write : device.may_write ≡ writable
  pub clean : device.dirty ≡ false

-- A part of a device as a device of its own. Whether it is steady isn't said: the whole one needn't be.
pub record IsNarrowed (device : Device) (part : Part) (narrowed : Device) : Type 0 where
  pub size : narrowed.size ≡ part.count
  pub image : narrowed.image ≡ run_of device.image part.first part.count
  pub may_write : narrowed.may_write ≡ device.may_write
  pub clean : device.dirty ≡ false → narrowed.dirty ≡ false

-- A device that lacks some sectors, and holds what the device holds. Whether it is steady isn't said.
pub record IsLacking (device lacking : Device) : Type 0 where
  pub size : lacking.size ≡ device.size
  pub image : lacking.image ≡ device.image
  pub may_write : lacking.may_write ≡ device.may_write
  pub clean : device.dirty ≡ false → lacking.dirty ≡ false

-- an opener before and after some calls, its relations, and what a proof sees of its devices
pub record Calls (S D : Type 0) : Type 1 where
  pub relations : Opener S D
  pub state : D → Device
  pub old : S
  pub new : S

abbrev pub calls : {S D : Type 0} → Opener S D → (D → Device) → S → S → Calls S D
calls relations state old new = record { relations = relations; state = state; old = old; new = new }
