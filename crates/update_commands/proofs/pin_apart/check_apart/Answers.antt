use Rattle.std.proofs.Common.{subst, sym}
use Rattle.image_commands.specs.declared.fault.ImageFault.TheVariants.{Open}
use Rattle.image_commands.specs.PinFiles.{AreOne}
use Rattle.image_files.specs.declared.opening.UnopenedFile.{UnopenedFile}
use Rattle.image_files.specs.Opener.{calls}
use Rattle.update_commands.proofs.PinApartLemmas.{one-file}
use Rattle.update_commands.proofs.pin_apart.check_apart.Goals as goal

pub returns-in-Err-clause-err : goal.returns-in-Err-clause-err
returns-in-Err-clause-err g c =
    let w = calls g.I.Images.relations g.I.Dev.BlockDev.state c.args.images.now c.check_other_file.new.images in
    let image = c.args.image.now in
    subst (λ (file : UnopenedFile). AreOne w image image c.args.pin_path.now (Open file)) (sym c.file_in.ensures) (one-file w image image c.args.pin_path.now c.in-Err.fault _ c.in-Err.ensures.err)
