use Rattle.std.proofs.Common.{inl, inr, refl}
use Rattle.stack_commands.specs.declared.fault.CommandFault.TheVariants.{Trees}
use Rattle.stack_commands.proofs.OpeningLemmas.{err-from}
use Rattle.stack_commands.proofs.update.update_image.Goals as goal

pub returns-in-Err-clause-err : goal.returns-in-Err-clause-err
returns-in-Err-clause-err g c = inl (c.in-Err.ensures.err, refl)

pub returns-in_err-update_images-clause-err : goal.returns-in_err-update_images-clause-err
returns-in_err-update_images-clause-err g c =
    err-from c.from_residual.result _ (Trees c.in_err-update_images.field-0.0) c.from_residual.ensures.1
    (inr (record {
      between = c.read_pin.new.images;
      pin = _;
      copies = c.args.words.now.copies.items;
      are = refl;
      told = c.in-Ok.ensures.ok;
      ends = rw c.as_slice-copies.ensures.value at c.in_err-update_images.ensures.err;
    }))

pub returns-clause-ok : goal.returns-clause-ok
returns-clause-ok g c = record {
  between = c.read_pin.new.images;
  pin = _;
  copies = c.args.words.now.copies.items;
  are = refl;
  told = c.in-Ok.ensures.ok;
  updates = rw c.as_slice-copies.ensures.value at c.in_ok-update_images.ensures.ok;
}
