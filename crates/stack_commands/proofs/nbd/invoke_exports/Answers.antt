use Rattle.stack_commands.proofs.nbd.invoke_exports.Goals as goal

pub returns-clause-err : goal.returns-clause-err
returns-clause-err g c = rw c.as_slice.ensures.value at c.serve_exports.ensures.err
