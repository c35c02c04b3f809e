-- What `repair` reads of an image before anything is written: what the last hash block of each level holds after its last used
-- entry.
use Rattle.std.specs.Prelude.{◌≡◌, ℕ, ◌*◌, ◌/◌, ◌≤◌, Bool, true, IsTrue, List}
use Rattle.block_device.specs.Device.{Device}
use Rattle.verity_commands.specs.declared.tree_fault.TreeFault.{TreeFault}
use Rattle.verity_commands.specs.declared.tree_fault.TreeFault.TheVariants.{Survey, UnusedEntries}
use Rattle.tree_path.specs.Steps.{HasReadAtMost}
use Rattle.tree_shape.specs.Shape.{levels}
use Rattle.tree_survey.specs.declared.fault.SurveyFault.TheVariants.{Image}
use Rattle.tree_survey.specs.Causes.{IsPathRefused}
use Rattle.tree_survey.specs.Passes.{tree_under}
use Rattle.tree_survey.specs.Unused.{FindsNonzero, FindsZerosAlone, IsWayGood}
use Rattle.verity_format.specs.declared.verifying.VerifyFault.TheVariants.{NoMemory}
use Rattle.verity_format.specs.Image.{tree_sectors}
use Rattle.verity_format.specs.declared.tree.VerityTree.{VerityTree}

-- If the tree fits on the device, the hash blocks on the path to the last data block were read, each at most once. Those that
-- verify hold zeros after their last used entries. `whole` is whether all of them verify.
pub record IsUnusedPassed (tree : VerityTree) (root : List ℕ) (hash_dev hash_dev' : Device) (whole : Bool) : Type 0 where
  pub few : HasReadAtMost hash_dev (levels tree.shape * (tree.shape.hash_block / 512)) hash_dev'
  pub zeros : tree_sectors tree.shape ≤ hash_dev.size → FindsZerosAlone (tree_under tree root) hash_dev hash_dev'
  pub good : whole ≡ true → IsTrue hash_dev.steady → IsWayGood (tree_under tree root) hash_dev.image

-- why an image is refused or couldn't be checked: a hash block that verifies holds something else, or memory was refused
abbrev pub IsUnusedCause : VerityTree → List ℕ → Device → Device → TreeFault → Type 0
IsUnusedCause tree root hash_dev hash_dev' (Survey (Image NoMemory)) = IsPathRefused hash_dev hash_dev'
IsUnusedCause tree root hash_dev hash_dev' UnusedEntries = FindsNonzero (tree_under tree root) hash_dev
IsUnusedCause tree root hash_dev hash_dev' fault = ⊥
