-- Why the scan of an image ends early.
use Rattle.std.specs.Prelude.{◌≡◌, ◌⊎◌, ℕ, ◌<◌, ◌≤◌, Bool, true, List}
use Rattle.allocation.specs.Refusal.{IsOutOfMemory}
use Rattle.block_device.specs.Device.{Device}
use Rattle.tree_shape.specs.Shape.{ShapeRecord}
use Rattle.verity_format.specs.declared.tree.VerityTree.{VerityTree}
use Rattle.verity_format.specs.declared.verifying.VerifyFault.TheVariants.{TooSmall, NoMemory}
use Rattle.verity_format.specs.Image.{data_sectors, tree_sectors}
use Rattle.verity_format.specs.Superblock.{SuperRecord, shape_of}
use Rattle.verity_format.specs.Verifying.{IsReadCause, IsReadFrom}
use Rattle.tree_path.specs.Path.{largest_block}
use Rattle.tree_survey.specs.declared.fault.SurveyFault.{SurveyFault}
use Rattle.tree_survey.specs.declared.fault.SurveyFault.TheVariants.{Image, Write}

-- The most elements that one allocation requests: the bytes of a piece.
abbrev pub largest_allocation : ℕ
largest_allocation = 65536

-- an allocation was refused while neither device failed, or a line can't be reported
abbrev pub IsPassCause : Device → Device → Device → Device → Bool → SurveyFault → Type 0
IsPassCause data_dev hash_dev data_dev' hash_dev' failed (Image NoMemory) = (data_dev'.failures ≡ data_dev.failures) × (hash_dev'.failures ≡ hash_dev.failures) × IsOutOfMemory largest_allocation
IsPassCause data_dev hash_dev data_dev' hash_dev' failed Write = failed ≡ true
IsPassCause data_dev hash_dev data_dev' hash_dev' failed fault = ⊥

-- a superblock was read from the hash device, and the data and the tree fit on the devices
pub record AreImages (data_dev hash_dev : Device) (s : SuperRecord) : Type 0 where
  pub sector : List ℕ
  pub from : IsReadFrom hash_dev sector s
  pub data_fits : data_sectors (shape_of s) ≤ data_dev.size
  pub tree_fits : tree_sectors (shape_of s) ≤ hash_dev.size

-- a superblock was read, but the data or the tree don't fit on their device
pub record AreCut (data_dev hash_dev : Device) : Type 0 where
  pub s : SuperRecord
  pub sector : List ℕ
  pub from : IsReadFrom hash_dev sector s
  pub past : (data_dev.size < data_sectors (shape_of s)) ⊎ (hash_dev.size < tree_sectors (shape_of s))

-- why there is no superblock
abbrev pub IsImageCause : Device → Device → Device → SurveyFault → Type 0
IsImageCause data_dev hash_dev hash_dev' (Image TooSmall) = IsReadCause hash_dev hash_dev' TooSmall ⊎ AreCut data_dev hash_dev
IsImageCause data_dev hash_dev hash_dev' (Image fault) = IsReadCause hash_dev hash_dev' fault
IsImageCause data_dev hash_dev hash_dev' Write = ⊥

-- the data and the tree fit on the devices
pub record HasRoom (shape : ShapeRecord) (data_dev hash_dev : Device) : Type 0 where
  pub data_fits : data_sectors shape ≤ data_dev.size
  pub tree_fits : tree_sectors shape ≤ hash_dev.size

-- the data or the tree doesn't fit on its device
abbrev pub IsCutOff : ShapeRecord → Device → Device → SurveyFault → Type 0
IsCutOff shape data_dev hash_dev (Image TooSmall) = (data_dev.size < data_sectors shape) ⊎ (hash_dev.size < tree_sectors shape)
IsCutOff shape data_dev hash_dev fault = ⊥

-- All causes. If the data or the tree don't fit, nothing was read.
abbrev pub IsSurveyCause : ShapeRecord → Device → Device → Device → Device → Bool → SurveyFault → Type 0
IsSurveyCause shape data_dev hash_dev data_dev' hash_dev' failed (Image TooSmall) = IsCutOff shape data_dev hash_dev (Image TooSmall) × ((data_dev' ≡ data_dev) × (hash_dev' ≡ hash_dev))
IsSurveyCause shape data_dev hash_dev data_dev' hash_dev' failed fault = IsPassCause data_dev hash_dev data_dev' hash_dev' failed fault

-- the memory for the hash blocks on a path was refused, and nothing was read
abbrev pub IsPathRefused : Device → Device → Type 0
IsPathRefused device device' = (device' ≡ device) × IsOutOfMemory largest_block

-- why the check of a tree's hash blocks ended early: no memory for a path, or a line can't be reported
abbrev pub IsHashesCause : Device → Device → Bool → SurveyFault → Type 0
IsHashesCause device device' failed (Image NoMemory) = IsPathRefused device device'
IsHashesCause device device' failed Write = failed ≡ true
IsHashesCause device device' failed fault = ⊥

-- ---- causes for calls: the devices before and after, as a proof sees them

-- why the scan of the data blocks ended early
abbrev pub EndsPass : {D H : Type 0} → (D → Device) → (H → Device) → D → H → D → H → Bool → SurveyFault → Type 0
EndsPass data_state hash_state d h d' h' failed fault = IsPassCause (data_state d) (hash_state h) (data_state d') (hash_state h') failed fault

-- why the scan of an image ended early
abbrev pub EndsSurvey : {D H : Type 0} → VerityTree → (D → Device) → (H → Device) → D → H → D → H → Bool → SurveyFault → Type 0
EndsSurvey tree data_state hash_state d h d' h' failed fault = IsSurveyCause tree.shape (data_state d) (hash_state h) (data_state d') (hash_state h') failed fault

-- why the check of the hash blocks ended early
abbrev pub EndsHashes : {H : Type 0} → (H → Device) → H → H → Bool → SurveyFault → Type 0
EndsHashes state h h' failed fault = IsHashesCause (state h) (state h') failed fault
