use Rattle.stack_files.proofs.StackLemmas.{stack-made}
use Rattle.stack_files.proofs.stack.load_stack.Goals as goal

pub returns-clause-ok : goal.returns-clause-ok
returns-clause-ok g c =
    stack-made g.D.BlockDev.state c.args.over c.in-Ok.config c.args.cache c.over.result (rw c.as_slice.ensures.value at c.in-Ok.ensures.ok) c.over.ensures
