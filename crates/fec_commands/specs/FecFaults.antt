-- Faults of the commands on images with parity that are those of images.
use Rattle.image_commands.specs.declared.fault.ImageFault.TheVariants as image
use Rattle.image_commands.specs.declared.tree_source.NoSource.{NoSource}
use Rattle.image_commands.specs.declared.tree_source.NoSource.TheVariants as no_source
use Rattle.image_commands.specs.Finding.{no_tree_fault}
use Rattle.image_files.specs.declared.opening.UnopenedFile.{UnopenedFile}
use Rattle.verity_commands.specs.declared.verity_fault.VerityFault.TheVariants as verity
use Rattle.verity_format.specs.declared.formatting.FormatFault.TheVariants as format
use Rattle.fec_commands.specs.declared.fault.FecFault.{FecFault}
use Rattle.fec_commands.specs.declared.fault.FecFault.TheVariants as fec

-- a file can't be opened
abbrev pub unopened : UnopenedFile → FecFault
unopened file = fec.Verity (verity.Image (image.Open file))

-- there is no tree of a source
abbrev pub no_source_fault : NoSource → FecFault
no_source_fault (no_source.Stored cause) = fec.Verity (verity.Image (no_tree_fault cause))
no_source_fault no_source.Shape = fec.Verity (verity.Image (image.Format format.Shape))

-- a line can't be written
abbrev pub unwritten : FecFault
unwritten = fec.Verity (verity.Image image.Write)
