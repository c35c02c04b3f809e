use Rattle.std.proofs.Common.{inl, inr, refl}
use Rattle.stack_commands.specs.declared.fault.CommandFault.TheVariants.{Trees}
use Rattle.stack_commands.proofs.OpeningLemmas.{err-from}
use Rattle.stack_commands.proofs.tree_verify.go_over_tree.Goals as goal

pub returns-in-Err-clause-err : goal.returns-in-Err-clause-err
returns-in-Err-clause-err g c = inl (c.in-Err.ensures.err, refl)

pub returns-in_err-invoke_tree_survey-clause-err : goal.returns-in_err-invoke_tree_survey-clause-err
returns-in_err-invoke_tree_survey-clause-err g c =
    err-from c.from_residual.result _ (Trees c.in_err-invoke_tree_survey.field-0.0) c.from_residual.ensures.1
    (inr (record { between = c.sought_in.new.images; sought = _; told = c.in-Ok.ensures.ok; ends = c.in_err-invoke_tree_survey.ensures.err }))
