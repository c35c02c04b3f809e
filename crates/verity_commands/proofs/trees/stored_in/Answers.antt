use Rattle.verity_commands.proofs.trees.stored_in.Goals as goal

pub returns-in-Ok-clause-ok : goal.returns-in-Ok-clause-ok
returns-in-Ok-clause-ok g c = record { trusted = c.in-Ok.trusted; told = c.in-Ok.ensures.ok; is = c.stored_source.ensures }
