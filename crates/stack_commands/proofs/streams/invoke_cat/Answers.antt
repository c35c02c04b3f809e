use Rattle.stack_commands.proofs.NoteLemmas.{device-notes}
use Rattle.stack_commands.proofs.streams.invoke_cat.Goals as goal

pub returns-in_err-cat_device-clause-noted : goal.returns-in_err-cat_device-clause-noted
returns-in_err-cat_device-clause-noted g c = device-notes _ _ _ _ c.stack_file-file.ensures c.in_err-cat_device.ensures.noted

pub returns-clause-noted : goal.returns-clause-noted
returns-clause-noted g c = device-notes _ _ _ _ c.stack_file-file.ensures c.in_ok-cat_device.ensures.noted
