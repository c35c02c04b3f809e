use Rattle.std.proofs.Common.{inl, inr, refl}
use Rattle.std.proofs.lemmas.Result.{IfErr-weaker, IfOk-weaker}
use Rattle.stack_files.specs.Endings.{opening_ending}
use Rattle.stack_files.proofs.OpeningLemmas.{err-from}
use Rattle.stack_files.proofs.configuration.open_configuration.Goals as goal

pub returns-in_err-text-clause-err : goal.returns-in_err-text-clause-err
returns-in_err-text-clause-err g c =
    err-from c.from_residual.result _ (opening_ending c.in_err-text.field-0.0) c.from_residual.ensures.1 (inl (c.in_err-text.field-0.0, refl, rw c.no_use.ensures at c.in_err-text.ensures.err))

pub returns-clause-ok : goal.returns-clause-ok
returns-clause-ok g c =
    IfOk-weaker c.configuration_of.result _ _
    (λ config makes. record { over = c.in_ok-text.field-0; opened = rw c.no_use.ensures at c.in_ok-text.ensures.ok; makes = rw c.as_slice.ensures.value at makes }) c.configuration_of.ensures.ok

pub returns-clause-err : goal.returns-clause-err
returns-clause-err g c =
    IfErr-weaker c.configuration_of.result _ _
    (λ fault fails. inr (c.in_ok-text.field-0, rw c.no_use.ensures at c.in_ok-text.ensures.ok, rw c.as_slice.ensures.value at fails)) c.configuration_of.ensures.err
