-- A tree without a superblock, made where a superblock of an earlier format may be.
use Rattle.std.specs.Prelude.{◌≡◌, ◌⊎◌, ◌<◌, ℕ, Bool, true, false, IsTrue, List, drop, Some, None, Result, IsErrAnd}
use Rattle.block_device.specs.Call.{Call, DeviceDoes}
use Rattle.block_device.specs.Device.{Device, IsSameDevice}
use Rattle.verity_format.specs.declared.formatting.FormatFault.{FormatFault}
use Rattle.verity_format.specs.declared.formatting.FormatFault.TheVariants.{Device as DeviceFailed}
use Rattle.verity_format.specs.Blocks.{IsOnlyRead}
use Rattle.verity_format.specs.Handing.{HandsTreeOver}
use Rattle.verity_format.specs.Image.{tree_sectors, with_tree}
use Rattle.verity_format.specs.Superblock.{SuperRecord}
use Rattle.verity_format.specs.Trees.{IsBuildCause, IsTreeBuilt, shape_alone, tree_refusal}
use Rattle.image_commands.specs.Clearing.{HandsClearing, IsCleared, IsUncleared}
use Rattle.image_commands.specs.Places.{IsStateOf}

-- how many sectors a tree without a superblock takes
abbrev pub sectors_alone : SuperRecord → ℕ
sectors_alone s = tree_sectors (shape_alone s)

-- an old superblock was cleared at the first of a tree's sectors; a tree without hash blocks has none
abbrev pub IsTreeCleared : ℕ → Device → Device → Type 0
IsTreeCleared sectors old new = ((sectors ≡ 0) × (new ≡ old)) ⊎ ((0 < sectors) × IsCleared old new)

-- the device failed before that was done: no sector but the tree's first one changed
pub record IsTreeUncleared (sectors : ℕ) (old new : Device) : Type 0 where
  pub some : 0 < sectors
  pub uncleared : IsUncleared old new

-- over a steady device nothing after the tree changed
pub record IsKeptBehind (s : SuperRecord) (old new : Device) : Type 0 where
  pub same : IsSameDevice old new
  pub after : IsTrue old.steady → drop (sectors_alone s) new.image ≡ drop (sectors_alone s) old.image

-- No refusal applied. An old superblock was cleared; then the tree was made, with that root hash. Over steady devices the image is
-- the one that the tree alone leaves. `Hash` is what holds of the hash device that the calls of the clearing left.
pub record IsMadeCleared (Hash : Device → Type 0) (s : SuperRecord) (data_dev hash_dev data_dev' hash_dev' : Device) (root : List ℕ) : Type 0 where
  pub cleared : Device
  pub left : Hash cleared
  pub fit : tree_refusal (shape_alone s) data_dev hash_dev ≡ None
  pub clearing : IsTreeCleared (sectors_alone s) hash_dev cleared
  pub making : IsTreeBuilt (shape_alone s) s.salt data_dev cleared data_dev' hash_dev' root
  pub image : IsTrue data_dev.steady → IsTrue hash_dev.steady → hash_dev'.image ≡ with_tree (shape_alone s) s.salt data_dev.image hash_dev.image

-- a refusal applied, and neither device was accessed
pub record IsTreeRefused (s : SuperRecord) (data_dev hash_dev data_dev' hash_dev' : Device) (fault : FormatFault) : Type 0 where
  pub applies : tree_refusal (shape_alone s) data_dev hash_dev ≡ Some fault
  pub same : (data_dev' ≡ data_dev) × (hash_dev' ≡ hash_dev)

-- no refusal applied, and an old superblock couldn't be looked for or cleared
pub record IsUnclearedTree (s : SuperRecord) (data_dev hash_dev data_dev' hash_dev' : Device) (fault : FormatFault) : Type 0 where
  pub fit : tree_refusal (shape_alone s) data_dev hash_dev ≡ None
  pub uncleared : IsTreeUncleared (sectors_alone s) hash_dev hash_dev'
  pub same : data_dev' ≡ data_dev
  pub is : fault ≡ DeviceFailed

-- no refusal applied, an old superblock was cleared, and then the tree wasn't made
pub record IsUnfinishedTree (Hash : Device → Type 0) (s : SuperRecord) (data_dev hash_dev data_dev' hash_dev' : Device) (fault : FormatFault) : Type 0 where
  pub cleared : Device
  pub left : Hash cleared
  pub fit : tree_refusal (shape_alone s) data_dev hash_dev ≡ None
  pub clearing : IsTreeCleared (sectors_alone s) hash_dev cleared
  pub cause : IsBuildCause (shape_alone s) data_dev cleared data_dev' hash_dev' fault

-- a refusal applied, an old superblock wasn't cleared, or the tree wasn't made
abbrev pub IsClearedEnd : (Device → Type 0) → SuperRecord → Device → Device → Device → Device → FormatFault → Type 0
IsClearedEnd Hash s data_dev hash_dev data_dev' hash_dev' fault =
    IsTreeRefused s data_dev hash_dev data_dev' hash_dev' fault
    ⊎ (IsUnclearedTree s data_dev hash_dev data_dev' hash_dev' fault ⊎ IsUnfinishedTree Hash s data_dev hash_dev data_dev' hash_dev' fault)

-- ---- calls, by what a proof sees of the devices: as they were before, and then after

-- the data device was only read, and of the hash device nothing after the tree changed
abbrev pub OnlyTreeChanges : {D H : Type 0} → (D → Device) → (H → Device) → SuperRecord → D → H → D → H → Type 0
OnlyTreeChanges data_state hash_state s d h d' h' = IsOnlyRead (data_state d) (data_state d') × IsKeptBehind s (hash_state h) (hash_state h')

abbrev pub MakesCleared : {D H : Type 0} → (D → Device) → (H → Device) → SuperRecord → D → H → D → H → List ℕ → Type 0
MakesCleared data_state hash_state s d h d' h' root = IsMadeCleared (IsStateOf hash_state) s (data_state d) (hash_state h) (data_state d') (hash_state h') root

abbrev pub FailsToMakeCleared : {D H : Type 0} → (D → Device) → (H → Device) → SuperRecord → D → H → D → H → FormatFault → Type 0
FailsToMakeCleared data_state hash_state s d h d' h' fault = IsClearedEnd (IsStateOf hash_state) s (data_state d) (hash_state h) (data_state d') (hash_state h') fault

-- ---- all calls, whatever the devices do

-- an old superblock was cleared at the first of a tree's sectors; a tree without hash blocks has none
abbrev pub HandsTreeClearing : {H : Type 0} → ℕ → (H → Call → H → Type 0) → H → H → Bool → Type 0
HandsTreeClearing sectors does old new ok = ((sectors ≡ 0) × (new ≡ old)) ⊎ ((0 < sectors) × HandsClearing does old new ok)

-- an old superblock was cleared, and these were the calls after that
pub record HandsClearedTree {D H : Type 0} (asks : D → Call → D → Type 0) (does : H → Call → H → Type 0) (s : SuperRecord) (d : D) (h : H) (d' : D) (h' : H) (result : Result (List ℕ) FormatFault) : Type 0 where
  pub cleared : H
  pub clearing : HandsTreeClearing (sectors_alone s) does h cleared true
  pub tree : HandsTreeOver asks does (shape_alone s) s.salt d cleared d' h' result

-- nothing was written of the tree: no device was called, or the clearing failed
abbrev pub StopsAhead : {D H : Type 0} → (H → Call → H → Type 0) → SuperRecord → D → H → D → H → Type 0
StopsAhead does s d h d' h' = (d' ≡ d) × ((h' ≡ h) ⊎ HandsTreeClearing (sectors_alone s) does h h' false)

-- all calls, by what each promises of the devices
abbrev pub HandsCleared : {D H : Type 0} → (D → Device) → (D → Call → D → Type 0) → (H → Device) → (H → Call → H → Type 0) → SuperRecord → D → H → D → H → Result (List ℕ) FormatFault → Type 0
HandsCleared data_state asks hash_state does s d h d' h' result =
    HandsClearedTree (DeviceDoes data_state asks) (DeviceDoes hash_state does) s d h d' h' result
    ⊎ IsErrAnd result (λ fault. StopsAhead (DeviceDoes hash_state does) s d h d' h')
