use Rattle.stack_commands.proofs.nbd.invoke_nbd.Goals as goal

pub returns-clause-err : goal.returns-clause-err
returns-clause-err g c = rw c.as_slice.ensures.value at c.serve_client.ensures.err
