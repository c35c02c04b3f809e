use Rattle.std.proofs.Common.{inl, inr, refl}
use Rattle.verity_commands.specs.declared.tree_fault.TreeFault.TheVariants.{Survey}
use Rattle.verity_commands.proofs.OpeningLemmas.{err-from}
use Rattle.verity_commands.proofs.survey_object.survey_object.Goals as goal

pub returns-in_err-found-clause-err : goal.returns-in_err-found-clause-err
returns-in_err-found-clause-err g c =
    err-from c.from_residual.result _ (Survey c.in_err-found.field-0.0) c.from_residual.ensures.1 (inl c.in_err-found.ensures.err, refl)

pub returns-in_err-line-clause-err : goal.returns-in_err-line-clause-err
returns-in_err-line-clause-err g c =
    err-from c.from_residual-in_err-line.result _ (Survey c.in_err-line.field-0.0) c.from_residual-in_err-line.ensures.1 (
      inr (record {
        found = c.in_ok-found.found;
        lines = c.keep_survey.new.kept.lines.items;
        survey = rw c.new-kept.ensures.lines at c.in_ok-found.ensures.ok;
        is = c.in_err-line.ensures.err;
      }),
      refl,
    )
