use Rattle.image_files.proofs.system_calls.open_to_read.Goals as goal

pub returns-in-Ok-clause-ok : goal.returns-in-Ok-clause-ok
returns-in-Ok-clause-ok g c = (c.new.result, rw (c.read.ensures.value, c.new-2.ensures, c.in-Ok.is) at c.open_by.ensures)

pub returns-in-Err-clause-err : goal.returns-in-Err-clause-err
returns-in-Err-clause-err g c = (c.new.result, c.in-Err.kind, rw (c.read.ensures.value, c.new-2.ensures, c.in-Err.is) at c.open_by.ensures, c.from.ensures)
