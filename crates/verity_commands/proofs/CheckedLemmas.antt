-- The second tree checked, and both compared.
use Rattle.std.proofs.Common.{◌≡◌, ◌≤◌, inl, inr, ℕ, Bool, true, false, List, Option}
use Rattle.std.specs.Prelude.{is_some}
use Rattle.allocation.specs.declared.out_of_memory.OutOfMemory.{OutOfMemory}
use Rattle.allocation.specs.Asked.{refused_size}
use Rattle.allocation.proofs.lemmas.AskedLemmas.{asked-refused}
use Rattle.block_device.specs.Device.{Device}
use Rattle.verity_format.specs.declared.verifying.VerifyFault.TheVariants as verify
use Rattle.tree_difference.specs.declared.fault.DifferenceFault.{DifferenceFault}
use Rattle.tree_difference.specs.declared.fault.DifferenceFault.TheVariants as difference
use Rattle.tree_difference.specs.declared.fault.Which.TheVariants.{First, Second}
use Rattle.tree_difference.specs.declared.trees.TreePair.{TreePair}
use Rattle.tree_difference.specs.Comparisons.{DifferenceWorld, difference_world}
use Rattle.tree_difference.specs.Differences.{IsDifferenceCause}
use Rattle.tree_survey.specs.declared.fault.SurveyFault.{SurveyFault}
use Rattle.tree_survey.specs.declared.fault.SurveyFault.TheVariants as survey
use Rattle.tree_survey.specs.Causes.{IsHashesCause}
use Rattle.verity_commands.specs.declared.checked_diff.CheckedTotals.{CheckedTotals}
use Rattle.verity_commands.specs.declared.tree_fault.TreeFault.{TreeFault}
use Rattle.verity_commands.specs.declared.tree_fault.TreeFault.TheVariants as tree
use Rattle.verity_commands.specs.CheckedDiffs.{IsCheckCause, IsCheckedCause, IsCheckedEnd, IsFoundEnd, IsKeptCheckCause, IsSayingEnd, SaysChecked}
use Rattle.verity_commands.specs.CheckedDiffs as checked
use Rattle.verity_commands.specs.Diffs.{unkept_difference}

pub check_cause : (d d' : Device) (failed : Bool) (fault : SurveyFault) → IsHashesCause d d' failed fault → IsCheckCause d d' failed (checked.check_fault fault)
check_cause d d' failed (survey.Image (verify.Super f)) h = absurd h
check_cause d d' failed (survey.Image verify.TooSmall) h = absurd h
check_cause d d' failed (survey.Image verify.Device) h = absurd h
check_cause d d' failed (survey.Image verify.NoMemory) h = h
check_cause d d' failed survey.Write h = h

-- a cause that doesn't depend on whether a line could be written
unfailed : (w : DifferenceWorld) (pair : TreePair) (most : Option ℕ) (failed : Bool) (fault : DifferenceFault)
    → ((d d' : Device) → IsCheckCause d d' failed fault → IsCheckCause d d' false fault)
    → ((v : DifferenceWorld) → IsDifferenceCause v pair failed fault → IsDifferenceCause v pair false fault)
    → IsCheckedCause w pair most failed fault → IsCheckedCause w pair most false fault
unfailed w pair most failed fault check compare (inl h) = inl (check w.second w.second' h)
unfailed w pair most failed fault check compare (inr e) =
    inr (record { whole = e.whole; middle = e.middle; between = e.between; checks = e.checks; cause = compare (record w { second = e.middle; printed = e.between }) e.cause; before = e.before })

-- a line that isn't received, in the check or in the comparison
written_check : (d e d' e' : Device) (old new : Option (List ℕ)) (pair : TreePair) (most : Option ℕ) (failed : Bool) → IsCheckedCause (difference_world d e d' e' old new) pair most failed difference.Write → failed ≡ true
written_check d e d' e' old new pair most failed (inl h) = h
written_check d e d' e' old new pair most failed (inr ends) = ends.cause

pub kept_check : (d e d' e' : Device) (old new : Option (List ℕ)) (pair : TreePair) (most : Option ℕ) (refused : Option OutOfMemory) → refused_size refused ≤ 1 → (fault : DifferenceFault) → IsCheckedCause (difference_world d e d' e' old new) pair most (is_some refused) fault → IsKeptCheckCause d e d' e' pair most (unkept_difference fault)
kept_check d e d' e' old new pair most refused few (difference.Image First (verify.Super f)) h = (old, (new, unfailed (difference_world d e d' e' old new) pair most (is_some refused) (difference.Image First (verify.Super f)) (λ a a' c. c) (λ v c. c) h))
kept_check d e d' e' old new pair most refused few (difference.Image First verify.TooSmall) h = (old, (new, unfailed (difference_world d e d' e' old new) pair most (is_some refused) (difference.Image First verify.TooSmall) (λ a a' c. c) (λ v c. c) h))
kept_check d e d' e' old new pair most refused few (difference.Image First verify.Device) h = (old, (new, unfailed (difference_world d e d' e' old new) pair most (is_some refused) (difference.Image First verify.Device) (λ a a' c. c) (λ v c. c) h))
kept_check d e d' e' old new pair most refused few (difference.Image First verify.NoMemory) h = (old, (new, unfailed (difference_world d e d' e' old new) pair most (is_some refused) (difference.Image First verify.NoMemory) (λ a a' c. c) (λ v c. c) h))
kept_check d e d' e' old new pair most refused few (difference.Image Second (verify.Super f)) h = (old, (new, unfailed (difference_world d e d' e' old new) pair most (is_some refused) (difference.Image Second (verify.Super f)) (λ a a' c. c) (λ v c. c) h))
kept_check d e d' e' old new pair most refused few (difference.Image Second verify.TooSmall) h = (old, (new, unfailed (difference_world d e d' e' old new) pair most (is_some refused) (difference.Image Second verify.TooSmall) (λ a a' c. c) (λ v c. c) h))
kept_check d e d' e' old new pair most refused few (difference.Image Second verify.Device) h = (old, (new, unfailed (difference_world d e d' e' old new) pair most (is_some refused) (difference.Image Second verify.Device) (λ a a' c. c) (λ v c. c) h))
kept_check d e d' e' old new pair most refused few (difference.Image Second verify.NoMemory) h = (old, (new, unfailed (difference_world d e d' e' old new) pair most (is_some refused) (difference.Image Second verify.NoMemory) (λ a a' c. c) (λ v c. c) h))
kept_check d e d' e' old new pair most refused few (difference.Unaligned which) h = (old, (new, unfailed (difference_world d e d' e' old new) pair most (is_some refused) (difference.Unaligned which) (λ a a' c. c) (λ v c. c) h))
kept_check d e d' e' old new pair most refused few (difference.Unpinned which mismatch) h = (old, (new, unfailed (difference_world d e d' e' old new) pair most (is_some refused) (difference.Unpinned which mismatch) (λ a a' c. c) (λ v c. c) h))
kept_check d e d' e' old new pair most refused few (difference.Unlike field) h = (old, (new, unfailed (difference_world d e d' e' old new) pair most (is_some refused) (difference.Unlike field) (λ a a' c. c) (λ v c. c) h))
kept_check d e d' e' old new pair most refused few (difference.Hash First level n) h = (old, (new, unfailed (difference_world d e d' e' old new) pair most (is_some refused) (difference.Hash First level n) (λ a a' c. c) (λ v c. c) h))
kept_check d e d' e' old new pair most refused few (difference.Hash Second level n) h = (old, (new, unfailed (difference_world d e d' e' old new) pair most (is_some refused) (difference.Hash Second level n) (λ a a' c. c) (λ v c. c) h))
kept_check d e d' e' old new pair most refused few difference.NoMemory h = inl (old, (new, unfailed (difference_world d e d' e' old new) pair most (is_some refused) difference.NoMemory (λ a a' c. c) (λ v c. c) h))
kept_check d e d' e' old new pair most refused few difference.Write h = inr (asked-refused refused 1 few (written_check d e d' e' old new pair most (is_some refused) h))

-- how a comparison ends of which all was printed
pub found-end : (json : Bool) (w : DifferenceWorld) (pair : TreePair) (most : Option ℕ) (failed : Bool) (found : CheckedTotals) → SaysChecked json w pair most found → (fault : TreeFault) → IsFoundEnd found fault → IsCheckedEnd json w pair most failed fault
found-end json w pair most failed found says (tree.Open file) h = absurd h
found-end json w pair most failed found says (tree.Trees fault) h = absurd h
found-end json w pair most failed found says tree.Differs h = (found, (says, h))
found-end json w pair most failed found says (tree.Survey fault) h = absurd h
found-end json w pair most failed found says tree.Unaligned h = absurd h
found-end json w pair most failed found says tree.NoShape h = absurd h
found-end json w pair most failed found says (tree.Unpinned mismatch) h = absurd h
found-end json w pair most failed found says tree.UnusedEntries h = absurd h
found-end json w pair most failed found says tree.Damaged h = (found, (says, h))
found-end json w pair most failed found says tree.Write h = absurd h

-- and of which it wasn't
pub said-end : (json : Bool) (w : DifferenceWorld) (pair : TreePair) (most : Option ℕ) (failed : Bool) (fault : TreeFault) → IsSayingEnd json w pair most failed fault → IsCheckedEnd json w pair most failed fault
said-end json w pair most failed (tree.Open file) h = h
said-end json w pair most failed (tree.Trees fault) h = h
said-end json w pair most failed tree.Differs h = absurd h
said-end json w pair most failed (tree.Survey fault) h = h
said-end json w pair most failed tree.Unaligned h = h
said-end json w pair most failed tree.NoShape h = h
said-end json w pair most failed (tree.Unpinned mismatch) h = absurd h
said-end json w pair most failed tree.UnusedEntries h = h
said-end json w pair most failed tree.Damaged h = absurd h
said-end json w pair most failed tree.Write h = h
