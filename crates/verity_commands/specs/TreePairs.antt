-- The two trees of `diff`, which are found before they are compared.
use Rattle.std.specs.Prelude.{◌≡◌, ◌⊎◌, ℕ, ◌<◌, ◌≤◌, not, Option, Some, None, if◌then◌else◌}
use Rattle.block_device.specs.Device.{Device}
use Rattle.image_commands.specs.declared.tree_source.NoSource.{NoSource}
use Rattle.image_commands.specs.declared.tree_source.NoSource.TheVariants.{Shape, Stored}
use Rattle.image_commands.specs.declared.tree_source.TreeSource.{TreeSource}
use Rattle.image_commands.specs.TreeSources.{IsNoTreeOf, IsSourceRefused, IsTreeOf, may_seek}
use Rattle.image_pin.specs.declared.finding.NoTree.TheVariants as no_tree
use Rattle.tree_difference.specs.declared.fault.DifferenceFault.TheVariants.{Image, Unaligned, Unlike, Unpinned}
use Rattle.tree_difference.specs.declared.fault.Unlike.{Unlike as Field}
use Rattle.tree_difference.specs.declared.fault.Which.{Which}
use Rattle.tree_difference.specs.declared.fault.Which.TheVariants.{First, Second}
use Rattle.tree_difference.specs.declared.trees.Roots.{Roots}
use Rattle.tree_difference.specs.declared.trees.TreePair.{TreePair}
use Rattle.tree_difference.specs.Likeness.{unlike}
use Rattle.verity_format.specs.declared.tree.VerityTree.{VerityTree}
use Rattle.verity_format.specs.declared.verifying.VerifyFault.TheVariants.{TooSmall}
use Rattle.verity_format.specs.Blocks.{IsOnlyRead}
use Rattle.verity_format.specs.Image.{tree_sectors}
use Rattle.verity_commands.specs.declared.tree_fault.TreeFault.{TreeFault}
use Rattle.verity_commands.specs.declared.tree_fault.TreeFault.TheVariants.{NoShape, Trees}
use Rattle.verity_commands.specs.declared.tree_pair.SoughtTrees.{SoughtTrees}
use Rattle.verity_commands.specs.declared.tree_pair.TreeStarts.{TreeStarts}

-- the first of the two trees that can't begin at its sector, as far as that is known before a file is opened
abbrev pub misplaced : TreeStarts → SoughtTrees → Option Which
misplaced starts sought =
    if not (may_seek sought.first.source starts.first) then Some First
    else if not (may_seek sought.second.source starts.second) then Some Second
    else None

-- ---- one image

-- The tree is that of its source: a superblock was read once, or nothing. No data are open, so options state how many data blocks
-- the tree covers. It fits on the device.
pub record IsTreeIn (device device' : Device) (first : ℕ) (source : TreeSource) (tree : VerityTree) : Type 0 where
  pub tree_of : IsTreeOf source 0 device first device' tree
  pub read : IsOnlyRead device device'
  pub fits : tree_sectors tree.shape ≤ device.size

-- with which fault a comparison ends if that image has no tree
abbrev pub pair_fault : Which → NoSource → TreeFault
pair_fault which (Stored (no_tree.Unread fault)) = Trees (Image which fault)
pair_fault which (Stored no_tree.Unaligned) = Trees (Unaligned which)
pair_fault which (Stored (no_tree.Unpinned mismatch)) = Trees (Unpinned which mismatch)
pair_fault which Shape = NoShape

-- the tree is that of its source, and doesn't fit on the device
pub record IsTreeCut (device device' : Device) (first : ℕ) (source : TreeSource) (which : Which) (fault : TreeFault) : Type 0 where
  pub tree : VerityTree
  pub tree_of : IsTreeOf source 0 device first device' tree
  pub past : device.size < tree_sectors tree.shape
  pub is : fault ≡ Trees (Image which TooSmall)

-- there is no tree of that source, or it doesn't fit
abbrev pub IsTreeMissing : Device → Device → ℕ → TreeSource → Which → TreeFault → Type 0
IsTreeMissing device device' first source which fault = IsSourceRefused (pair_fault which) (IsNoTreeOf source 0 device first device') fault ⊎ IsTreeCut device device' first source which fault

-- ---- both images

abbrev pub roots_of : SoughtTrees → Roots
roots_of sought = record { first = sought.first.root; second = sought.second.root }

-- both trees were found, and can be compared
pub record AreTreesFound (first second first' second' : Device) (starts : TreeStarts) (sought : SoughtTrees) (pair : TreePair) : Type 0 where
  pub first_found : IsTreeIn first first' starts.first sought.first.source pair.first
  pub second_found : IsTreeIn second second' starts.second sought.second.source pair.second
  pub alike : unlike pair.first pair.second ≡ None
  pub roots : pair.roots ≡ roots_of sought

-- the first tree was found, and not the second
pub record IsSecondMissing (first second first' second' : Device) (starts : TreeStarts) (sought : SoughtTrees) (fault : TreeFault) : Type 0 where
  pub tree : VerityTree
  pub first_found : IsTreeIn first first' starts.first sought.first.source tree
  pub cause : IsTreeMissing second second' starts.second sought.second.source Second fault

-- both trees were found, and can't be compared
pub record AreTreesUnlike (first second first' second' : Device) (starts : TreeStarts) (sought : SoughtTrees) (fault : TreeFault) : Type 0 where
  pub a : VerityTree
  pub b : VerityTree
  pub field : Field
  pub first_found : IsTreeIn first first' starts.first sought.first.source a
  pub second_found : IsTreeIn second second' starts.second sought.second.source b
  pub unlike : unlike a b ≡ Some field
  pub is : fault ≡ Trees (Unlike field)

-- why there are no two trees to compare; without the first tree, nothing is read of the second image
abbrev pub AreTreesMissing : Device → Device → Device → Device → TreeStarts → SoughtTrees → TreeFault → Type 0
AreTreesMissing first second first' second' starts sought fault =
    (IsTreeMissing first first' starts.first sought.first.source First fault × (second' ≡ second))
    ⊎ (IsSecondMissing first second first' second' starts sought fault ⊎ AreTreesUnlike first second first' second' starts sought fault)

-- ---- relations for calls: the two devices before and after, as a proof sees them

abbrev pub FindsTrees : {D E : Type 0} → (D → Device) → (E → Device) → D → E → D → E → TreeStarts → SoughtTrees → TreePair → Type 0
FindsTrees first_state second_state d e d' e' starts sought pair = AreTreesFound (first_state d) (second_state e) (first_state d') (second_state e') starts sought pair

abbrev pub FindsNoTrees : {D E : Type 0} → (D → Device) → (E → Device) → D → E → D → E → TreeStarts → SoughtTrees → TreeFault → Type 0
FindsNoTrees first_state second_state d e d' e' starts sought fault = AreTreesMissing (first_state d) (second_state e) (first_state d') (second_state e') starts sought fault
