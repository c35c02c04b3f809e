-- The sentences on commands on hash trees.
use Rattle.std.specs.Prelude.{ℕ, List, codes, Option, Some, None}
use Rattle.tree_difference.specs.declared.fault.Unlike.{Unlike}
use Rattle.tree_difference.specs.declared.fault.Unlike.TheVariants as unlike
use Rattle.tree_difference.specs.declared.fault.DifferenceFault.{DifferenceFault}
use Rattle.tree_difference.specs.declared.fault.DifferenceFault.TheVariants as difference
use Rattle.tree_difference.specs.declared.fault.Which.TheVariants as which
use Rattle.tree_survey.specs.declared.fault.SurveyFault.{SurveyFault}
use Rattle.tree_survey.specs.declared.fault.SurveyFault.TheVariants as survey
use Rattle.verity_commands.specs.declared.tree_fault.TreeFault.{TreeFault}
use Rattle.verity_commands.specs.declared.tree_fault.TreeFault.TheVariants as trees
use Rattle.image_commands.specs.declared.fault.ImageFault.TheVariants as image
use Rattle.image_pin.specs.declared.mismatch.Mismatch.TheVariants as pinned
use Rattle.verity_format.specs.declared.formatting.FormatFault.TheVariants as format
use Rattle.manual_pages.specs.messages.Images.{verify_message}
use Rattle.manual_pages.specs.messages.Opening.{open_message}
use Rattle.manual_pages.specs.messages.Pins.{mismatch_message}
use Rattle.stack_commands.specs.messages.Images.{image_message}

-- trees that can't be compared
unfoldable pub unlike_message : Unlike → List ℕ
unlike_message unlike.DataBlockSize = mismatch_message pinned.DataBlockSize
unlike_message unlike.HashBlockSize = mismatch_message pinned.HashBlockSize
unlike_message unlike.Salt = mismatch_message pinned.Salt

-- trees that aren't compared to their end
unfoldable pub difference_message : DifferenceFault → Option (List ℕ)
difference_message (difference.Image of fault) = verify_message fault
difference_message (difference.Unaligned which.First) = Some (codes "the tree's offset isn't a multiple of the hash block size: check '--old-hash-offset'")
difference_message (difference.Unaligned which.Second) = image_message image.Unaligned
difference_message (difference.Unpinned of mismatch) = Some (mismatch_message mismatch)
difference_message (difference.Unlike fault) = Some (unlike_message fault)
difference_message (difference.Hash of level index) = Some (codes "a hash block fails verification: check the root hash or the pin; else that hash image was modified or is damaged")
difference_message difference.NoMemory = None
difference_message difference.Write = None

-- an image that isn't scanned to its end
unfoldable pub survey_message : SurveyFault → Option (List ℕ)
survey_message (survey.Image fault) = verify_message fault
survey_message survey.Write = None

-- a command on hash trees that ends early; none of differences
unfoldable pub tree_message : TreeFault → Option (List ℕ)
tree_message (trees.Open file) = open_message file.fault
tree_message (trees.Trees fault) = difference_message fault
tree_message trees.Differs = None
tree_message (trees.Survey fault) = survey_message fault
tree_message trees.Unaligned = image_message image.Unaligned
tree_message trees.NoShape = image_message (image.Format format.Shape)
tree_message (trees.Unpinned mismatch) = Some (mismatch_message mismatch)
tree_message trees.UnusedEntries = Some (codes "the superblock or --blocks states fewer data blocks than were formatted; nothing was written")
tree_message trees.Damaged = None
tree_message trees.Write = None
