-- Calls of `FileImages`, as evidence: the definition isn't unfoldable, so code knows it only from a call that was made.
use Rattle.std.specs.Prelude.{ℕ, Bool, List, Result}
use Rattle.block_device.specs.declared.open_fault.OpenFault.{OpenFault}
use Rattle.device_adapters.specs.declared.part.Part.{Part}
use Rattle.image_files.specs.declared.images.FileText.{FileText}
use Rattle.image_files.specs.declared.images.OpenImage.{OpenImage}
use Rattle.image_files.specs.declared.parts.PartFault.{PartFault}
use Rattle.image_files.specs.declared.seal.Seal.{Seal}
use Rattle.image_files.specs.declared.texts.ReplaceFault.{ReplaceFault}

-- a call, its path or device and other arguments, and its outcome
pub data ImageCall (D : Type 0) : Type 0 where
  Open : List ℕ → Bool → Result (OpenImage D) OpenFault → ImageCall D
  OpenPart : List ℕ → Bool → Part → Result (OpenImage D) PartFault → ImageCall D
  Narrow : D → Part → D → ImageCall D
  Lack : D → List Part → D → ImageCall D
  ReadText : List ℕ → ℕ → Result FileText OpenFault → ImageCall D
  Close : List ℕ → D → ImageCall D
  ClosePart : List ℕ → Part → D → ImageCall D
  Grow : List ℕ → ℕ → Result (Unit {0}) OpenFault → ImageCall D
  Shrink : List ℕ → ℕ → Result (Unit {0}) OpenFault → ImageCall D
  Measure : List ℕ → Result Bool OpenFault → ImageCall D
  Compare : List ℕ → List ℕ → Result Bool OpenFault → ImageCall D
  Replace : List ℕ → List ℕ → Result (Unit {0}) ReplaceFault → ImageCall D
  TryReplace : List ℕ → Result (Unit {0}) ReplaceFault → ImageCall D

-- The call was made on an opener, which is `new` afterwards. What the files hold then may differ from what they held before.
pub WasMade : {S D : Type 0} → S → ImageCall D → S → Type 0
WasMade old call new = Unit {0}

-- only the proofs of this crate can name a `Seal`
pub was-made : {S D : Type 0} (old : S) (call : ImageCall D) (new : S) → Seal → WasMade old call new
unfolding WasMade
was-made old call new seal = tt
