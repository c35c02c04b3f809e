use Rattle.std.proofs.Common.{refl}
use Rattle.block_device.specs.FileId.{file_id}
use Rattle.image_files.proofs.FileLemmas.{locks_at_most, made}
use Rattle.image_files.proofs.file_images.FileImagesImages.open_part.Goals as goal

pub returns-in-Err-clause-opened : goal.returns-in-Err-clause-opened
returns-in-Err-clause-opened g c = (
  made _ _ _,
  refl,
  locks_at_most c.args.writable (file_id c.in_ok-file.file) c.args.self.now.locks.files.items c.open_file.new.locks.files.items c.in_ok-file.ensures.locked.0,
  tt,
)
