use Rattle.std.proofs.Common.{inl, inr, refl}
use Rattle.verity_commands.specs.declared.tree_fault.TreeFault.TheVariants.{Trees}
use Rattle.verity_commands.proofs.OpeningLemmas.{err-from}
use Rattle.verity_commands.proofs.diff_object.diff_object.Goals as goal

pub returns-in_err-totals-clause-err : goal.returns-in_err-totals-clause-err
returns-in_err-totals-clause-err g c =
    err-from c.from_residual.result _ (Trees c.in_err-totals.field-0.0) c.from_residual.ensures.1 (inl c.in_err-totals.ensures.err, refl)

pub returns-in_err-line-clause-err : goal.returns-in_err-line-clause-err
returns-in_err-line-clause-err g c =
    err-from c.from_residual-in_err-line.result _ (Trees c.in_err-line.field-0.0) c.from_residual-in_err-line.ensures.1 (
      inr (record {
        totals = c.in_ok-totals.totals;
        lines = c.keep_difference.new.kept.lines.items;
        difference = rw c.new-kept.ensures.lines at c.in_ok-totals.ensures.ok;
        is = c.in_err-line.ensures.err;
      }),
      refl,
    )
