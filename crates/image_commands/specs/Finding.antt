-- How a command ends that finds no tree.
use Rattle.image_pin.specs.declared.finding.NoTree.{NoTree}
use Rattle.image_pin.specs.declared.finding.NoTree.TheVariants.{Unaligned, Unpinned, Unread}
use Rattle.image_commands.specs.declared.fault.ImageFault.{ImageFault}
use Rattle.image_commands.specs.declared.fault.ImageFault.TheVariants as image_fault
use Rattle.image_commands.specs.declared.tree_source.NoSource.{NoSource}
use Rattle.image_commands.specs.declared.tree_source.NoSource.TheVariants as no_source
use Rattle.verity_format.specs.declared.formatting.FormatFault.TheVariants as format_fault

-- with which fault a command ends then
abbrev pub no_tree_fault : NoTree → ImageFault
no_tree_fault (Unread fault) = image_fault.Verify fault
no_tree_fault Unaligned = image_fault.Unaligned
no_tree_fault (Unpinned mismatch) = image_fault.Unpinned mismatch

-- and if it seeks the tree of a source
abbrev pub no_source_fault : NoSource → ImageFault
no_source_fault (no_source.Stored cause) = no_tree_fault cause
no_source_fault no_source.Shape = image_fault.Format format_fault.Shape
