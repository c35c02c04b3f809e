use Rattle.stack_commands.proofs.OpeningLemmas.{both-errs}
use Rattle.stack_commands.proofs.load.invoke_load.Goals as goal

pub returns-clause-err : goal.returns-clause-err
returns-clause-err g c = both-errs c.load_stack_file.result _ _ (rw c.stack_file-file.ensures at c.load_stack_file.ensures.err) c.load_stack_file.ensures.quiet
