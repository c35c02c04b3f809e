use Rattle.std.proofs.Common.{inl}
use Rattle.verity_commands.proofs.EndingLemmas.{err-from, quiet}
use Rattle.verity_commands.proofs.trees.invoke_verify_tree.Goals as goal

pub returns-in_err-sought-clause-err : goal.returns-in_err-sought-clause-err
returns-in_err-sought-clause-err g c =
    let fault = c.in_err-sought.field-0.0 in
    err-from c.from_residual.result _ fault c.from_residual.ensures.1 (inl c.in_err-sought.ensures.err, quiet fault _)
