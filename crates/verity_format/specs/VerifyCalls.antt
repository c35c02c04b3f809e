-- The calls of verifying, and what the bytes that they returned mean, whatever the devices return.
use Rattle.std.specs.Prelude.{◌≡◌, ◌≢◌, ◌⊎◌, ℕ, true, false, List, Option, Some, None, Result, Ok, Err}
use Rattle.block_device.specs.Call.{Call, Read}
use Rattle.tree_shape.specs.Shape.{ShapeRecord}
use Rattle.verity_format.specs.declared.verifying.Verdict.{Verdict}
use Rattle.verity_format.specs.declared.verifying.Verdict.TheVariants.{Matches, RootDiffers, AreaDiffers}
use Rattle.verity_format.specs.declared.verifying.VerifyFault.{VerifyFault}
use Rattle.verity_format.specs.declared.verifying.VerifyFault.TheVariants.{Super, TooSmall, Device as DeviceFailed, NoMemory}
use Rattle.verity_format.specs.Superblock.{SuperRecord, shape_of, Carries, super_fault}
use Rattle.verity_format.specs.ComparedCalls.{ComparesPart, ComparesWhole}

-- the verdict, given the first changed hash block and the root hash of the data read
abbrev pub IsVerdictOf : Option ℕ → List ℕ → List ℕ → Verdict → Type 0
IsVerdictOf least computed root Matches = (least ≡ None) × (computed ≡ root)
IsVerdictOf least computed root RootDiffers = (least ≡ None) × (computed ≢ root)
IsVerdictOf least computed root (AreaDiffers block) = least ≡ Some block

-- all data blocks and all hash blocks of the tree were read, each once, and the verdict is true of what these reads
-- returned
pub record JudgesTree {D H : Type 0} (asks : D → Call → D → Type 0) (does : H → Call → H → Type 0) (shape : ShapeRecord) (salt : List ℕ) (d : D) (h : H) (d' : D) (h' : H) (root : List ℕ) (verdict : Verdict) : Type 0 where
  pub least : Option ℕ
  pub computed : List ℕ
  pub whole : ComparesWhole asks does shape salt d h d' h' least computed
  pub verdict_is : IsVerdictOf least computed root verdict

-- all calls of a verification that failed: none if a device is too small, and otherwise a part of the comparison
abbrev pub StopsJudging : {D H : Type 0} → (D → Call → D → Type 0) → (H → Call → H → Type 0) → ShapeRecord → List ℕ → D → H → D → H → VerifyFault → Type 0
StopsJudging asks does shape salt d h d' h' TooSmall = (d' ≡ d) × (h' ≡ h)
StopsJudging asks does shape salt d h d' h' (Super f) = ⊥
StopsJudging asks does shape salt d h d' h' DeviceFailed = ComparesPart asks does shape salt d h d' h'
StopsJudging asks does shape salt d h d' h' NoMemory = ComparesPart asks does shape salt d h d' h'

-- all calls of verifying a tree
abbrev pub JudgesTreeOver : {D H : Type 0} → (D → Call → D → Type 0) → (H → Call → H → Type 0) → ShapeRecord → List ℕ → D → H → D → H → List ℕ → Result Verdict VerifyFault → Type 0
JudgesTreeOver asks does shape salt d h d' h' root (Ok verdict) = JudgesTree asks does shape salt d h d' h' root verdict
JudgesTreeOver asks does shape salt d h d' h' root (Err fault) = StopsJudging asks does shape salt d h d' h' fault

-- the first sector was read, and it stores the superblock
pub record GivesSuper {H : Type 0} (does : H → Call → H → Type 0) (old : H) (s : SuperRecord) (new : H) : Type 0 where
  pub sector : List ℕ
  pub made : does old (Read 0 sector true) new
  pub carried : Carries s sector

-- why no superblock was read: no call if the device has no sector, a read that failed, or a wrong field of the sector
-- that was read
abbrev pub GivesNoSuper : {H : Type 0} → (H → Call → H → Type 0) → H → H → VerifyFault → Type 0
GivesNoSuper does old new TooSmall = new ≡ old
GivesNoSuper does old new DeviceFailed = (sector : List ℕ) × does old (Read 0 sector false) new
GivesNoSuper does old new (Super f) = (sector : List ℕ) × does old (Read 0 sector true) new × (super_fault sector ≡ Some f)
GivesNoSuper does old new NoMemory = ⊥

-- all calls of reading the superblock
abbrev pub ReadsSuper : {H : Type 0} → (H → Call → H → Type 0) → H → H → Result SuperRecord VerifyFault → Type 0
ReadsSuper does old new (Ok s) = GivesSuper does old s new
ReadsSuper does old new (Err fault) = GivesNoSuper does old new fault

-- the superblock was read first, and then its tree was verified
pub record JudgesImage {D H : Type 0} (asks : D → Call → D → Type 0) (does : H → Call → H → Type 0) (d : D) (h : H) (d' : D) (h' : H) (root : List ℕ) (result : Result Verdict VerifyFault) : Type 0 where
  pub superblock : SuperRecord
  pub between : H
  pub first : GivesSuper does h superblock between
  pub tree : JudgesTreeOver asks does (shape_of superblock) superblock.salt d between d' h' root result

-- all calls of verifying: if no superblock was read, the data device was not accessed
abbrev pub JudgesOver : {D H : Type 0} → (D → Call → D → Type 0) → (H → Call → H → Type 0) → D → H → D → H → List ℕ → Result Verdict VerifyFault → Type 0
JudgesOver asks does d h d' h' root (Ok verdict) = JudgesImage asks does d h d' h' root (Ok verdict)
JudgesOver asks does d h d' h' root (Err fault) = JudgesImage asks does d h d' h' root (Err fault) ⊎ ((d' ≡ d) × GivesNoSuper does h h' fault)
