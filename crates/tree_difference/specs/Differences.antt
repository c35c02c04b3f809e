-- The trees of two hash images, and why their comparison ends early.
use Rattle.std.specs.Prelude.{◌≡◌, ℕ, ◌+◌, ◌-◌, ◌*◌, ◌/◌, ◌≤◌, nat_lt, if◌then◌else◌, Bool, true, List, Option, Some, None}
use Rattle.allocation.specs.Refusal.{IsOutOfMemory}
use Rattle.block_device.specs.Device.{Device, HasFailed}
use Rattle.tree_shape.specs.Shape.{ShapeRecord, IsShape, levels}
use Rattle.verity_format.specs.Image.{tree_sectors}
use Rattle.verity_format.specs.declared.verifying.VerifyFault.TheVariants.{Device as DeviceFailed, TooSmall}
use Rattle.tree_path.specs.Path.{largest_block}
use Rattle.tree_path.specs.Steps.{IsDown, steps}
use Rattle.runs.specs.declared.kind.Kind.TheVariants.{Removed, Added}
use Rattle.runs.specs.declared.run.Run.{Run}
use Rattle.runs.specs.declared.kind.Kind.{Kind}
use Rattle.runs.specs.declared.tally.Tally.{Tally}
use Rattle.runs.specs.Limits.{limited_lines}
use Rattle.runs.specs.Runs.{run}
use Rattle.tree_difference.specs.declared.difference.Totals.{Totals}
use Rattle.tree_difference.specs.declared.fault.DifferenceFault.{DifferenceFault}
use Rattle.tree_difference.specs.declared.fault.DifferenceFault.TheVariants.{Image, Unlike, Hash, NoMemory, Write}
use Rattle.tree_difference.specs.declared.fault.Which.TheVariants.{First, Second}
use Rattle.tree_difference.specs.declared.trees.TreePair.{TreePair}
use Rattle.tree_difference.specs.declared.walk.Walk.{Walk}
use Rattle.tree_difference.specs.Causes.{IsBadBlock, IsWalkCause}
use Rattle.tree_difference.specs.Comparisons.{Compares, ReadsDiffering, DifferenceWorld, IsReported, difference_world}
use Rattle.tree_difference.specs.Refusals.{CanCompareTrees, IsPairRefused}
use Rattle.tree_difference.specs.Rests.{last_runs}
use Rattle.tree_difference.specs.RootBlocks.{IsRootRead, root_sectors}
use Rattle.tree_difference.specs.Trees.{Trees, AreComparable, common_blocks, common_levels}
use Rattle.tree_difference.specs.Walks.{IsOn, WalkSides, walk_sides}

-- two trees and their root hashes
abbrev pub trees_of : TreePair → Trees
trees_of pair = record {
  first = pair.first.shape;
  second = pair.second.shape;
  first_salt = pair.first.salt;
  second_salt = pair.second.salt;
  first_root = pair.roots.first;
  second_root = pair.roots.second;
}

-- both shapes are valid
abbrev pub AreShapes : Trees → Type 0
AreShapes t = IsShape t.first × IsShape t.second

-- the trees of a walk
abbrev pub trees_in : Walk → Trees
trees_in w = record { first = w.first.shape; second = w.second.shape; first_salt = w.first.salt; second_salt = w.second.salt; first_root = w.first.root; second_root = w.second.root }

-- a walk of these trees
pub record IsWalkOf (t : Trees) (w : Walk) : Type 0 where
  pub trees : trees_in w ≡ t
  pub shape : w.shape ≡ t.first
  pub levels : w.levels ≡ common_levels t
  pub blocks : w.blocks ≡ common_blocks t

-- both shapes are valid, and the trees fit on the devices
pub record HaveTrees (w : Walk) (first second : Device) : Type 0 where
  pub of : IsWalkOf (trees_in w) w
  pub alike : AreComparable (trees_in w)
  pub first_valid : IsShape w.first.shape
  pub second_valid : IsShape w.second.shape
  pub first_fits : tree_sectors w.first.shape ≤ first.size
  pub second_fits : tree_sectors w.second.shape ≤ second.size

-- the first hash blocks of the levels that only one of the trees has were read
pub record IsAligned (s : WalkSides) : Type 0 where
  pub first : IsDown (steps s.old.first s.new.first s.first s.first' 0 (levels s.old.first.shape)) s.old.levels s.old.levels
  pub second : IsDown (steps s.old.second s.new.second s.second s.second' 0 (levels s.old.second.shape)) s.old.levels s.old.levels
  pub shape : s.new.shape ≡ s.old.shape
  pub levels : s.new.levels ≡ s.old.levels
  pub blocks : s.new.blocks ≡ s.old.blocks

pub record CanCompare (w : Walk) (first second : Device) : Type 0 where
  pub have : HaveTrees w first second
  pub on : IsOn w first second 0 w.levels

-- the data blocks that are in one tree only
abbrev pub rest_run : Walk → Option (Run Kind)
rest_run w =
    if nat_lt w.blocks w.first.shape.blocks then Some (run w.blocks (w.first.shape.blocks - w.blocks) Removed)
    else if nat_lt w.blocks w.second.shape.blocks then Some (run w.blocks (w.second.shape.blocks - w.blocks) Added)
    else None

-- the last lines: the open run, and the data blocks that are in one tree only
abbrev pub last_lines : Tally → Walk → List ℕ
last_lines tally w = limited_lines tally.limit (last_runs tally.last (rest_run w))

-- the totals of a walk with so many changed data blocks
abbrev pub totals_in : Walk → ℕ → Totals
totals_in w changed = record { same = w.blocks - changed; changed = changed; removed = w.first.shape.blocks - w.blocks; added = w.second.shape.blocks - w.blocks }

-- a walk ended early, or a line can't be reported
abbrev pub IsComparisonCause : Walk → Device → Device → Device → Device → Bool → DifferenceFault → Type 0
IsComparisonCause w first second first' second' failed Write = failed ≡ true
IsComparisonCause w first second first' second' failed fault = IsWalkCause w first second first' second' fault

-- how many sectors of an image are read besides the pairs of hash blocks that differ: the root hash block, which is checked
-- first, and the first hash block of each level that the other tree doesn't have
abbrev pub sectors_before : ShapeRecord → Trees → ℕ
sectors_before s t = root_sectors s + (levels s - common_levels t) * (s.hash_block / 512)

-- the trees can be compared; both root hash blocks were read, and the trees compared
pub record IsDifference (w : DifferenceWorld) (pair : TreePair) (most : Option ℕ) (totals : Totals) : Type 0 where
  pub can : CanCompareTrees pair w.first.size w.second.size
  pub first_root : IsRootRead pair.first.shape pair.first.salt pair.roots.first w.first
  pub second_root : IsRootRead pair.second.shape pair.second.salt pair.roots.second w.second
  pub compares : Compares (trees_of pair) w most totals
  pub reads : ReadsDiffering (trees_of pair) w (sectors_before pair.first.shape (trees_of pair)) (sectors_before pair.second.shape (trees_of pair))

-- the trees can't be compared, and neither device was accessed
abbrev pub RefusesPair : DifferenceWorld → TreePair → DifferenceFault → Type 0
RefusesPair w pair fault = IsPairRefused pair w.first.size w.second.size fault × (w.first' ≡ w.first) × (w.second' ≡ w.second)

-- why two trees weren't compared to the end
abbrev pub IsDifferenceCause : DifferenceWorld → TreePair → Bool → DifferenceFault → Type 0
IsDifferenceCause w pair failed (Image First TooSmall) = RefusesPair w pair (Image First TooSmall)
IsDifferenceCause w pair failed (Image Second TooSmall) = RefusesPair w pair (Image Second TooSmall)
IsDifferenceCause w pair failed (Unlike field) = RefusesPair w pair (Unlike field)
IsDifferenceCause w pair failed (Image First DeviceFailed) = HasFailed w.first w.first'
IsDifferenceCause w pair failed (Image Second DeviceFailed) = HasFailed w.second w.second'
IsDifferenceCause w pair failed (Hash First level number) = IsBadBlock pair.first.shape pair.first.salt pair.roots.first w.first level number
IsDifferenceCause w pair failed (Hash Second level number) = IsBadBlock pair.second.shape pair.second.salt pair.roots.second w.second level number
IsDifferenceCause w pair failed NoMemory = (w.first'.failures ≡ w.first.failures) × (w.second'.failures ≡ w.second.failures) × IsOutOfMemory largest_block
IsDifferenceCause w pair failed Write = failed ≡ true
IsDifferenceCause w pair failed fault = ⊥

-- ---- relations for calls: the two devices before and after, as a proof sees them

-- the first hash blocks of the levels that only one of the trees has were read
abbrev pub Aligns : {D E : Type 0} → (D → Device) → (E → Device) → Walk → Walk → D → E → D → E → Type 0
Aligns first_state second_state old new d e d' e' = IsAligned (walk_sides old new (first_state d) (second_state e) (first_state d') (second_state e'))

-- the devices and what was reported, before and after, as a proof sees them
abbrev pub seen_world : {D E L : Type 0} → (D → Device) → (E → Device) → (L → Option (List ℕ)) → D → E → D → E → L → L → DifferenceWorld
seen_world first_state second_state told d e d' e' l l' = difference_world (first_state d) (second_state e) (first_state d') (second_state e') (told l) (told l')

-- the data blocks of both trees were compared, and at most so many lines were reported
abbrev pub ComparesBlocks : {D E L : Type 0} → (D → Device) → (E → Device) → (L → Option (List ℕ)) → Walk → D → E → D → E → L → L → Option ℕ → Totals → Type 0
ComparesBlocks first_state second_state told w d e d' e' l l' most totals = Compares (trees_in w) (seen_world first_state second_state told d e d' e' l l') most totals

-- the pairs of hash blocks that differ were read, each once, and nothing else
abbrev pub ReadsPairs : {D E L : Type 0} → (D → Device) → (E → Device) → (L → Option (List ℕ)) → Walk → D → E → D → E → L → L → Type 0
ReadsPairs first_state second_state told w d e d' e' l l' = ReadsDiffering (trees_in w) (seen_world first_state second_state told d e d' e' l l') 0 0

-- the runs of the data blocks compared before were reported, unless a line can't be
abbrev pub ReportsRuns : {D E L : Type 0} → (D → Device) → (E → Device) → (L → Option (List ℕ)) → Walk → D → E → D → E → L → L → Option ℕ → DifferenceFault → Type 0
ReportsRuns first_state second_state told w d e d' e' l l' most = IsReported (trees_in w) (seen_world first_state second_state told d e d' e' l l') most

-- why the comparison of the data blocks ended early
abbrev pub EndsDifference : {D E : Type 0} → (D → Device) → (E → Device) → Walk → D → E → D → E → Bool → DifferenceFault → Type 0
EndsDifference first_state second_state w d e d' e' failed fault = IsComparisonCause w (first_state d) (second_state e) (first_state d') (second_state e') failed fault
