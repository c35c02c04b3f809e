use Rattle.stack_commands.specs.declared.fault.CommandFault.TheVariants.{Recovering}
use Rattle.stack_commands.proofs.OpeningLemmas.{err-from}
use Rattle.stack_commands.proofs.copy.invoke_copy.Goals as goal

pub returns-in_err-copy_device-clause-err : goal.returns-in_err-copy_device-clause-err
returns-in_err-copy_device-clause-err g c =
    err-from c.from_residual.result _ (Recovering c.in_err-copy_device.field-0.0) c.from_residual.ensures.1 (rw c.device_source-read.ensures at c.in_err-copy_device.ensures.err)

pub returns-clause-ok : goal.returns-clause-ok
returns-clause-ok g c = rw c.device_source-read.ensures at c.in_ok-copy_device.ensures.ok

pub returns-in_err-copy_device-clause-noted : goal.returns-in_err-copy_device-clause-noted
returns-in_err-copy_device-clause-noted g c = rw c.device_source-read.ensures at c.in_err-copy_device.ensures.noted

pub returns-clause-noted : goal.returns-clause-noted
returns-clause-noted g c = rw c.device_source-read.ensures at c.in_ok-copy_device.ensures.noted
