use Rattle.verity_commands.specs.declared.tree_fault.TreeFault.TheVariants.{Trees}
use Rattle.verity_commands.proofs.OpeningLemmas.{err-from}
use Rattle.verity_commands.proofs.diff.diff_lines.Goals as goal

pub returns-in_err-totals-clause-err : goal.returns-in_err-totals-clause-err
returns-in_err-totals-clause-err g c =
    err-from c.from_residual.result _ (Trees c.in_err-totals.field-0.0) c.from_residual.ensures.1 (c.in_err-totals.ensures.err, c.in_err-totals.ensures.before)
