use Rattle.stack_files.proofs.device_source.open_source.Goals as goal

pub returns-in-Stack-clause-ok : goal.returns-in-Stack-clause-ok
returns-in-Stack-clause-ok g c = rw c.in-Stack.is c.open_device_apart.ensures.ok

pub returns-in-Stack-clause-err : goal.returns-in-Stack-clause-err
returns-in-Stack-clause-err g c = rw c.in-Stack.is c.open_device_apart.ensures.err

pub returns-in-Disk-clause-ok : goal.returns-in-Disk-clause-ok
returns-in-Disk-clause-ok g c = rw c.in-Disk.is c.open_disk.ensures.ok

pub returns-in-Disk-clause-err : goal.returns-in-Disk-clause-err
returns-in-Disk-clause-err g c = rw c.in-Disk.is c.open_disk.ensures.err
