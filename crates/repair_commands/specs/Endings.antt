-- The faults of a repair.
use Rattle.verity_commands.specs.declared.tree_fault.TreeFault.{TreeFault}
use Rattle.verity_commands.specs.declared.tree_fault.TreeFault.TheVariants as trees
use Rattle.tree_repair.specs.declared.fault.RepairFault.{RepairFault}
use Rattle.tree_repair.specs.declared.fault.RepairFault.TheVariants.{Image, Write}
use Rattle.tree_survey.specs.declared.fault.SurveyFault.TheVariants as survey

-- the command's fault for a repair that ended early
abbrev pub ending_fault : RepairFault → TreeFault
ending_fault (Image fault) = trees.Survey (survey.Image fault)
ending_fault Write = trees.Write
