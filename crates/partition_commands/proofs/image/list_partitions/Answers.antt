use Rattle.partition_commands.proofs.image.list_partitions.Goals as goal

pub returns-in-Ok-clause-ok : goal.returns-in-Ok-clause-ok
returns-in-Ok-clause-ok g c = record { table = c.in-Ok.ensures.ok.table; found = c.in-Ok.ensures.ok.found; printed = c.in-Ok.ensures.ok.printed; noted = c.in-Ok.ensures.ok.noted }
