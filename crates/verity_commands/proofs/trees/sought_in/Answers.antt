use Rattle.std.proofs.Common.{inl, inr, refl}
use Rattle.verity_commands.specs.declared.verity_fault.VerityFault.TheVariants.{Image}
use Rattle.verity_commands.proofs.EndingLemmas.{err-from}
use Rattle.verity_commands.proofs.trees.sought_in.Goals as goal

pub returns-in_err-options-clause-err : goal.returns-in_err-options-clause-err
returns-in_err-options-clause-err g c =
    err-from c.from_residual.result _ c.in_err-options.field-0.0 c.from_residual.ensures.1 (inl (c.in_err-options.ensures.err, refl))

pub returns-in_err-root-clause-err : goal.returns-in_err-root-clause-err
returns-in_err-root-clause-err g c =
    err-from c.from_residual-in_err-root.result _ (Image c.in_err-root.field-0.0) c.from_residual-in_err-root.ensures.1 (inr c.in_err-root.ensures.err)

pub returns-clause-ok : goal.returns-clause-ok
returns-clause-ok g c = record { given = c.in_ok-options.options; said = c.in_ok-options.ensures.ok; told = c.in_ok-root.ensures.ok; is = refl }
