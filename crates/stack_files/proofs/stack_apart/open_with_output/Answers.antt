use Rattle.std.proofs.Common.{inl, inr}
use Rattle.stack_files.specs.declared.opening_fault.OpeningFault.TheVariants.{Open}
use Rattle.stack_files.proofs.OpeningLemmas.{err-from}
use Rattle.stack_files.proofs.stack_apart.open_with_output.Goals as goal

pub returns-in_err-text-clause-err : goal.returns-in_err-text-clause-err
returns-in_err-text-clause-err g c =
    err-from c.from_residual.result _ c.in_err-text.field-0.0 c.from_residual.ensures.1 (inl c.in_err-text.ensures.err)

pub returns-in_err-image-clause-err : goal.returns-in_err-image-clause-err
returns-in_err-image-clause-err g c =
    err-from c.from_residual-in_err-image.result _ (Open c.in_err-image.field-0.0) c.from_residual-in_err-image.ensures.1
    (inr (inl (record { text = c.in_ok-text.text; between = c.read_apart.new.images; told = c.in_ok-text.ensures.ok; fails = rw c.text_use.ensures at c.in_err-image.ensures.err })))

pub returns-in_err-leaves-clause-err : goal.returns-in_err-leaves-clause-err
returns-in_err-leaves-clause-err g c =
    err-from c.from_residual-in_err-leaves.result _ c.in_err-leaves.field-0.0 c.from_residual-in_err-leaves.ensures.1
    (inr (inr (record {
      text = c.in_ok-text.text;
      image = c.in_ok-image.image;
      between = c.open_apart.new.images;
      told = record { between = c.read_apart.new.images; told = c.in_ok-text.ensures.ok; opened = rw c.text_use.ensures at c.in_ok-image.ensures.ok };
      fails = rw (c.text_use-2.ensures, c.image_use.ensures) at c.in_err-leaves.ensures.err;
    })))
