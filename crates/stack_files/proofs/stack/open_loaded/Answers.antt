use Rattle.std.proofs.Common.{inl, inr, refl}
use Rattle.std.proofs.lemmas.Result.{IfErr-weaker, IfOk-weaker}
use Rattle.stack_files.specs.Endings.{opening_ending}
use Rattle.stack_files.proofs.OpeningLemmas.{err-from}
use Rattle.stack_files.proofs.stack.open_loaded.Goals as goal

pub returns-in_err-over-clause-err : goal.returns-in_err-over-clause-err
returns-in_err-over-clause-err g c =
    err-from c.from_residual.result _ (opening_ending c.in_err-over.field-0.0) c.from_residual.ensures.1 (inl (c.in_err-over.field-0.0, refl, rw c.no_use.ensures at c.in_err-over.ensures.err))

pub returns-clause-ok : goal.returns-clause-ok
returns-clause-ok g c =
    IfOk-weaker c.load_stack.result _ _ (λ stack made. record { over = c.in_ok-over.over; opened = rw c.no_use.ensures at c.in_ok-over.ensures.ok; made = made }) c.load_stack.ensures.ok

pub returns-clause-err : goal.returns-clause-err
returns-clause-err g c = IfErr-weaker c.load_stack.result _ _ (λ fault fails. inr (c.in_ok-over.over, rw c.no_use.ensures at c.in_ok-over.ensures.ok, fails)) c.load_stack.ensures.err
