use Rattle.std.proofs.Common.{inl, inr, refl}
use Rattle.std.proofs.lemmas.Result.{IfErr-weaker, IfOk-weaker}
use Rattle.stack_files.specs.Endings.{opening_ending}
use Rattle.stack_files.proofs.OpeningLemmas.{err-from}
use Rattle.stack_files.proofs.device.open_device_apart.Goals as goal

pub returns-in_err-over-clause-err : goal.returns-in_err-over-clause-err
returns-in_err-over-clause-err g c =
    err-from c.from_residual.result _ (opening_ending c.in_err-over.field-0.0) c.from_residual.ensures.1 (inl (c.in_err-over.field-0.0, refl, c.in_err-over.ensures.err))

pub returns-clause-ok : goal.returns-clause-ok
returns-clause-ok g c =
    IfOk-weaker c.find_device.result _ _ (λ found has. record { over = c.in_ok-over.over; opened = c.in_ok-over.ensures.ok; has = has }) c.find_device.ensures.ok

pub returns-clause-err : goal.returns-clause-err
returns-clause-err g c =
    IfErr-weaker c.find_device.result _ _ (λ fault fails. inr (record { over = c.in_ok-over.over; opened = c.in_ok-over.ensures.ok; fails = fails })) c.find_device.ensures.err
