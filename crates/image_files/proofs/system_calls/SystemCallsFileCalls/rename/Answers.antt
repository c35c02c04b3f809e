use Rattle.image_files.specs.SystemFiles.{was-asked}
use Rattle.image_files.specs.declared.seal.Seal.TheVariants.{Files}
use Rattle.image_files.proofs.system_calls.SystemCallsFileCalls.rename.Goals as goal

pub returns : goal.returns
returns g c = was-asked _ _ _ Files
