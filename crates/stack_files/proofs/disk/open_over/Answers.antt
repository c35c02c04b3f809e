use Rattle.std.proofs.Common.{inl, inr}
use Rattle.std.proofs.lemmas.Result.{IfErr-weaker, IfOk-weaker}
use Rattle.stack_files.specs.declared.opening_fault.OpeningFault.TheVariants.{Open}
use Rattle.stack_files.proofs.OpeningLemmas.{err-from}
use Rattle.stack_files.proofs.disk.open_over.Goals as goal

pub returns-in_err-disk-clause-err : goal.returns-in_err-disk-clause-err
returns-in_err-disk-clause-err g c =
    err-from c.from_residual.result _ (Open c.in_err-disk.field-0.0) c.from_residual.ensures.1 (inl c.in_err-disk.ensures.err)

pub returns-clause-ok : goal.returns-clause-ok
returns-clause-ok g c =
    IfOk-weaker c.disk_stack.result _ _ (λ over is. record { disk = c.in_ok-disk.disk; opened = c.in_ok-disk.ensures.ok; is = is }) c.disk_stack.ensures.ok

pub returns-clause-err : goal.returns-clause-err
returns-clause-err g c =
    IfErr-weaker c.disk_stack.result _ _ (λ fault unmade. inr (record { disk = c.in_ok-disk.disk; opened = c.in_ok-disk.ensures.ok; unmade = unmade })) c.disk_stack.ensures.err
