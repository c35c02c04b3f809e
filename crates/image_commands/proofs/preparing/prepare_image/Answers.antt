use Rattle.std.proofs.Common.{inr, refl}
use Rattle.image_commands.specs.declared.fault.ImageFault.TheVariants.{Format}
use Rattle.image_commands.proofs.OpeningLemmas.{err-from}
use Rattle.image_commands.proofs.preparing.prepare_image.Goals as goal

pub returns-in_err-check_data-clause-err : goal.returns-in_err-check_data-clause-err
returns-in_err-check_data-clause-err g c =
    err-from c.from_residual-in_err-check_data.result _ (Format c.in_err-check_data.field-0.0) c.from_residual-in_err-check_data.ensures.1
    (inr (inr (record {
      given = c.in_ok-given.given;
      are_given = c.in_ok-given.ensures.ok;
      cause = inr (record {
        image = c.in_ok-data.data;
        cause = c.in_err-check_data.field-0.0;
        opened = c.in_ok-data.ensures.ok;
        unfit = c.in_err-check_data.ensures.err;
        is = refl;
      });
    })))

pub returns-clause-ok : goal.returns-clause-ok
returns-clause-ok g c = record {
  given = c.in_ok-given.given;
  image = c.in_ok-data.data;
  aligned = cc (c.if-not-is_aligned.ensures);
  are_given = c.in_ok-given.ensures.ok;
  opened = c.in_ok-data.ensures.ok;
  room = c.in_ok-check_data.ensures.ok;
  is = c.said_options.ensures;
}
