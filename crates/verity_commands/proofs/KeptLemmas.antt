-- Faults where lines are kept in memory.
use Rattle.std.proofs.Common.{◌≤◌, ℕ, List, Option, inl, inr}
use Rattle.std.specs.Prelude.{is_some}
use Rattle.allocation.specs.declared.out_of_memory.OutOfMemory.{OutOfMemory}
use Rattle.allocation.specs.Asked.{refused_size}
use Rattle.allocation.proofs.lemmas.AskedLemmas.{asked-refused}
use Rattle.block_device.specs.Device.{Device}
use Rattle.tree_shape.specs.Shape.{ShapeRecord}
use Rattle.verity_format.specs.declared.verifying.VerifyFault.TheVariants as verify
use Rattle.tree_difference.specs.declared.fault.DifferenceFault.{DifferenceFault}
use Rattle.tree_difference.specs.declared.fault.DifferenceFault.TheVariants as difference
use Rattle.tree_difference.specs.declared.fault.Which.TheVariants.{First, Second}
use Rattle.tree_difference.specs.declared.trees.TreePair.{TreePair}
use Rattle.tree_difference.specs.Comparisons.{difference_world}
use Rattle.tree_difference.specs.Differences.{IsDifferenceCause}
use Rattle.tree_survey.specs.declared.fault.SurveyFault.{SurveyFault}
use Rattle.tree_survey.specs.declared.fault.SurveyFault.TheVariants as survey
use Rattle.tree_survey.specs.Causes.{IsSurveyCause}
use Rattle.verity_commands.specs.Diffs.{IsTreesCause}
use Rattle.verity_commands.specs.Diffs as diffs
use Rattle.verity_commands.specs.Surveys.{IsKeptCause}
use Rattle.verity_commands.specs.Surveys as surveys

pub trees_cause : (d e d' e' : Device) (old new : Option (List ℕ)) (pair : TreePair) (refused : Option OutOfMemory) → refused_size refused ≤ 1 → (fault : DifferenceFault) → IsDifferenceCause (difference_world d e d' e' old new) pair (is_some refused) fault → IsTreesCause d e d' e' pair (diffs.unkept_difference fault)
trees_cause d e d' e' old new pair refused few (difference.Image First (verify.Super f)) h = h
trees_cause d e d' e' old new pair refused few (difference.Image First verify.TooSmall) h = h
trees_cause d e d' e' old new pair refused few (difference.Image First verify.Device) h = h
trees_cause d e d' e' old new pair refused few (difference.Image First verify.NoMemory) h = h
trees_cause d e d' e' old new pair refused few (difference.Image Second (verify.Super f)) h = h
trees_cause d e d' e' old new pair refused few (difference.Image Second verify.TooSmall) h = h
trees_cause d e d' e' old new pair refused few (difference.Image Second verify.Device) h = h
trees_cause d e d' e' old new pair refused few (difference.Image Second verify.NoMemory) h = h
trees_cause d e d' e' old new pair refused few (difference.Unaligned which) h = h
trees_cause d e d' e' old new pair refused few (difference.Unpinned which mismatch) h = h
trees_cause d e d' e' old new pair refused few (difference.Unlike field) h = h
trees_cause d e d' e' old new pair refused few (difference.Hash First level n) h = h
trees_cause d e d' e' old new pair refused few (difference.Hash Second level n) h = h
trees_cause d e d' e' old new pair refused few difference.NoMemory h = inl h
trees_cause d e d' e' old new pair refused few difference.Write h = inr (asked-refused refused 1 few h)

pub kept_cause : (shape : ShapeRecord) (d h d' h' : Device) (refused : Option OutOfMemory) → refused_size refused ≤ 1 → (fault : SurveyFault) → IsSurveyCause shape d h d' h' (is_some refused) fault → IsKeptCause shape d h d' h' (surveys.unkept_survey fault)
kept_cause shape d h d' h' refused few (survey.Image (verify.Super f)) p = p
kept_cause shape d h d' h' refused few (survey.Image verify.TooSmall) p = p
kept_cause shape d h d' h' refused few (survey.Image verify.Device) p = p
kept_cause shape d h d' h' refused few (survey.Image verify.NoMemory) p = inl p
kept_cause shape d h d' h' refused few survey.Write p = inr (asked-refused refused 1 few p)
