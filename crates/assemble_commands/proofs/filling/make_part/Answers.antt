use Rattle.std.proofs.Common.{inl, inr}
use Rattle.assemble_commands.proofs.EndLemmas.{err-from}
use Rattle.assemble_commands.proofs.filling.make_part.Goals as goal

pub returns-in_err-image-clause-err : goal.returns-in_err-image-clause-err
returns-in_err-image-clause-err g c =
    err-from c.from_residual.result _ c.in_err-image.field-0.0 c.from_residual.ensures.1 (inl c.in_err-image.ensures.err)

pub returns-clause-err : goal.returns-clause-err
returns-clause-err g c =
    inr (record { image = c.in_ok-image.image; device' = c.make.new.hash_dev; opened = c.in_ok-image.ensures.ok; fails = (c.make.new.data_dev.inner, c.in-Err.ensures.err) })

pub returns-in-Ok-clause-ok : goal.returns-in-Ok-clause-ok
returns-in-Ok-clause-ok g c = record {
  between = c.open_disk_part.new.images;
  image = c.in_ok-image.image;
  device' = c.make.new.hash_dev;
  opened = c.in_ok-image.ensures.ok;
  used = c.in-Ok.ensures.ok;
  closed = c.close_part.ensures;
}
