-- Why two trees can't be compared.
use Rattle.std.specs.Prelude.{◌≡◌, ℕ, ◌<◌, ◌≤◌, Some, None}
use Rattle.verity_format.specs.Image.{tree_sectors}
use Rattle.verity_format.specs.declared.verifying.VerifyFault.TheVariants.{TooSmall}
use Rattle.tree_difference.specs.declared.fault.DifferenceFault.{DifferenceFault}
use Rattle.tree_difference.specs.declared.fault.DifferenceFault.TheVariants.{Image, Unlike}
use Rattle.tree_difference.specs.declared.fault.Which.TheVariants.{First, Second}
use Rattle.tree_difference.specs.declared.trees.TreePair.{TreePair}
use Rattle.tree_difference.specs.Likeness.{unlike}

-- the trees can be compared, and fit on devices of so many sectors
pub record CanCompareTrees (pair : TreePair) (first second : ℕ) : Type 0 where
  pub alike : unlike pair.first pair.second ≡ None
  pub first_fits : tree_sectors pair.first.shape ≤ first
  pub second_fits : tree_sectors pair.second.shape ≤ second

-- the first reason in this order: the first tree doesn't fit, the second one doesn't, they are incomparable
abbrev pub IsPairRefused : TreePair → ℕ → ℕ → DifferenceFault → Type 0
IsPairRefused pair first second (Image First TooSmall) = first < tree_sectors pair.first.shape
IsPairRefused pair first second (Image Second TooSmall) = (tree_sectors pair.first.shape ≤ first) × (second < tree_sectors pair.second.shape)
IsPairRefused pair first second (Unlike field) = (tree_sectors pair.first.shape ≤ first) × (tree_sectors pair.second.shape ≤ second) × (unlike pair.first pair.second ≡ Some field)
IsPairRefused pair first second fault = ⊥
