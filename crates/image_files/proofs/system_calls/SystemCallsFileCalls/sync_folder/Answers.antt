use Rattle.image_files.specs.SystemFiles.{was-asked}
use Rattle.image_files.specs.declared.seal.Seal.TheVariants.{Files}
use Rattle.image_files.proofs.system_calls.SystemCallsFileCalls.sync_folder.Goals as goal

pub returns-in-Ok : goal.returns-in-Ok
returns-in-Ok g c = was-asked _ _ _ Files

pub returns-in-Err : goal.returns-in-Err
returns-in-Err g c = was-asked _ _ _ Files
