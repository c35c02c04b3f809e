use Rattle.std.proofs.Common.{inl, inr, refl}
use Rattle.stack_commands.specs.declared.fault.CommandFault.TheVariants.{Trees}
use Rattle.stack_commands.proofs.OpeningLemmas.{err-from}
use Rattle.stack_commands.proofs.diff.compare_images.Goals as goal

pub returns-in-Err-clause-err : goal.returns-in-Err-clause-err
returns-in-Err-clause-err g c = inl (c.in-Err.ensures.err, refl)

pub returns-in_err-invoke_diff-clause-err : goal.returns-in_err-invoke_diff-clause-err
returns-in_err-invoke_diff-clause-err g c =
    err-from c.from_residual.result _ (Trees c.in_err-invoke_diff.field-0.0) c.from_residual.ensures.1
    (inr (record { between = c.both_sought_in.new.images; sought = _; told = c.in-Ok.ensures.ok; ends = c.in_err-invoke_diff.ensures.err }))
