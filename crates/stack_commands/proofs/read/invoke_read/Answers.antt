use Rattle.stack_commands.proofs.NoteLemmas.{file-notes}
use Rattle.stack_commands.proofs.OpeningLemmas.{both-errs}
use Rattle.stack_commands.proofs.read.invoke_read.Goals as goal

pub returns-clause-err : goal.returns-clause-err
returns-clause-err g c = both-errs c.read_stack_file.result _ _ (rw c.stack_file-file.ensures at c.read_stack_file.ensures.err) c.read_stack_file.ensures.quiet

pub returns-clause-noted : goal.returns-clause-noted
returns-clause-noted g c = file-notes _ _ _ c.stack_file-file.ensures c.read_stack_file.ensures.noted
