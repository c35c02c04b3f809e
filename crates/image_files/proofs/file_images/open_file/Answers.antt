use Rattle.image_files.proofs.FileLemmas.{not-opened, unlocked}
use Rattle.image_files.proofs.file_images.open_file.Goals as goal

pub returns-in_err-lock-clause-err : goal.returns-in_err-lock-clause-err
returns-in_err-lock-clause-err g c =
    unlocked c.from_residual-in_err-lock.result c.args.path.now c.args.writable c.in_err-lock.field-0.0 c.in_ok-file.file c.from_residual-in_err-lock.ensures.1 c.in_ok-file.ensures.opened.0 c.in_err-lock.ensures.err

pub returns-in_err-file-clause-err : goal.returns-in_err-file-clause-err
returns-in_err-file-clause-err g c = not-opened c.from_residual.result c.args.path.now c.args.writable c.in_err-file.field-0.0 c.from_residual.ensures.1 c.in_err-file.ensures.err
