use Rattle.block_device.proofs.file_calls.open_at.Goals as goal

pub returns-in-Ok-clause-ok : goal.returns-in-Ok-clause-ok
returns-in-Ok-clause-ok g c = rw (c.write.ensures.value, c.read.ensures.value, c.new.ensures, c.in-Ok.is) at c.open_by.ensures

pub returns-in-Err-clause-err : goal.returns-in-Err-clause-err
returns-in-Err-clause-err g c = (c.in-Err.kind, rw (c.write.ensures.value, c.read.ensures.value, c.new.ensures, c.in-Err.is) at c.open_by.ensures, c.from.ensures)
