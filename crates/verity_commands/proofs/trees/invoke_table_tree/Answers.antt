use Rattle.std.proofs.Common.{inl, refl}
use Rattle.verity_commands.proofs.EndingLemmas.{err-from, quiet}
use Rattle.verity_commands.proofs.trees.invoke_table_tree.Goals as goal

pub returns-in_err-given-clause-err : goal.returns-in_err-given-clause-err
returns-in_err-given-clause-err g c =
    let fault = c.in_err-given.field-0.0 in
    err-from c.from_residual.result _ fault c.from_residual.ensures.1 (inl (c.in_err-given.ensures.err, refl), quiet fault _)
