-- What is printed of commands on hash trees that end early, and their status.
use Rattle.std.specs.Prelude.{ℕ, List, [], ◌++◌, codes, decimal}
use Rattle.image_pin.specs.declared.mismatch.Mismatch.{Mismatch}
use Rattle.image_pin.specs.Mismatches.{mismatch_name, mismatch_number}
use Rattle.io_fault_text.specs.Opening.{open_text}
use Rattle.io_fault_text.specs.Texts.{kind_then, no_memory, refused_text}
use Rattle.verity_commands.specs.declared.tree_fault.TreeFault.{TreeFault}
use Rattle.verity_commands.specs.declared.tree_fault.TreeFault.TheVariants as trees
use Rattle.tree_difference.specs.declared.fault.DifferenceFault.{DifferenceFault}
use Rattle.tree_difference.specs.declared.fault.DifferenceFault.TheVariants as difference
use Rattle.tree_difference.specs.declared.fault.Unlike.{Unlike}
use Rattle.tree_difference.specs.declared.fault.Unlike.TheVariants as unlike
use Rattle.tree_difference.specs.declared.fault.Which.{Which}
use Rattle.tree_difference.specs.declared.fault.Which.TheVariants as which
use Rattle.tree_survey.specs.declared.fault.SurveyFault.{SurveyFault}
use Rattle.tree_survey.specs.declared.fault.SurveyFault.TheVariants as survey
use Rattle.verity_format.specs.declared.verifying.VerifyFault.{VerifyFault}
use Rattle.verity_format.specs.declared.verifying.VerifyFault.TheVariants as verify
use Rattle.verity_format.specs.FaultNames.{verify_number, verify_name}

-- ---- trees that aren't compared

abbrev pub which_name : Which → List ℕ
which_name which.First = codes "first"
which_name which.Second = codes "second"

-- one of the hash images has no superblock, or is too small, or failed
abbrev pub hash_image_text : Which → VerifyFault → List ℕ
hash_image_text of verify.NoMemory = no_memory
hash_image_text of fault = codes "refused " ++ kind_then (verify_number fault) (verify_name fault) (codes " " ++ (which_name of ++ codes "\n"))

-- no hash block begins where one of them begins
abbrev pub unaligned_text : Which → List ℕ
unaligned_text of = codes "refused 18 Unaligned " ++ (which_name of ++ codes "\n")

-- one of the superblocks differs from its pin
abbrev pub unpinned_text : Which → Mismatch → List ℕ
unpinned_text of mismatch = codes "refused " ++ kind_then (mismatch_number mismatch) (mismatch_name mismatch) (codes " " ++ (which_name of ++ codes "\n"))

abbrev pub unlike_text : Unlike → List ℕ
unlike_text unlike.DataBlockSize = codes "refused 20 OtherDataBlockSize\n"
unlike_text unlike.HashBlockSize = codes "refused 21 OtherHashBlockSize\n"
unlike_text unlike.Salt = codes "refused 22 OtherSalt\n"

-- a hash block that isn't the one whose digest is stored above it: of which tree, its level and its number there
abbrev pub hash_fault_text : Which → ℕ → ℕ → List ℕ
hash_fault_text of level index = codes "fault hash " ++ (which_name of ++ (codes " " ++ (decimal level ++ (codes " " ++ (decimal index ++ codes "\n")))))

abbrev pub difference_text : DifferenceFault → List ℕ
difference_text (difference.Image of fault) = hash_image_text of fault
difference_text (difference.Unaligned of) = unaligned_text of
difference_text (difference.Unpinned of mismatch) = unpinned_text of mismatch
difference_text (difference.Unlike found) = unlike_text found
difference_text (difference.Hash of level index) = hash_fault_text of level index
difference_text difference.NoMemory = no_memory
difference_text difference.Write = []

-- ---- an image that wasn't scanned

-- no superblock, or too small, or a device failed
abbrev pub image_fault_text : VerifyFault → List ℕ
image_fault_text verify.NoMemory = no_memory
image_fault_text fault = codes "refused " ++ kind_then (verify_number fault) (verify_name fault) (codes "\n")

abbrev pub survey_text : SurveyFault → List ℕ
survey_text (survey.Image fault) = image_fault_text fault
survey_text survey.Write = []

-- ---- all of them

abbrev pub tree_fault_text : TreeFault → List ℕ
tree_fault_text (trees.Open file) = open_text file
tree_fault_text (trees.Trees fault) = difference_text fault
tree_fault_text trees.Differs = []
tree_fault_text (trees.Survey fault) = survey_text fault
tree_fault_text trees.Unaligned = codes "refused 18 Unaligned\n"
tree_fault_text trees.NoShape = codes "refused 1 Shape\n"
tree_fault_text (trees.Unpinned mismatch) = refused_text (mismatch_number mismatch) (mismatch_name mismatch)
tree_fault_text trees.UnusedEntries = codes "refused 60 UnusedEntries\n"
tree_fault_text trees.Damaged = []
tree_fault_text trees.Write = []

-- 3 if they differ, or a block isn't the one that was formatted
abbrev pub tree_status : TreeFault → ℕ
tree_status trees.Differs = 3
tree_status trees.Damaged = 3
tree_status (trees.Trees (difference.Hash of level index)) = 3
tree_status fault = 1
