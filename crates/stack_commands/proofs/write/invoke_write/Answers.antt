use Rattle.stack_commands.proofs.NoteLemmas.{put-notes}
use Rattle.stack_commands.proofs.OpeningLemmas.{both-errs}
use Rattle.stack_commands.proofs.write.invoke_write.Goals as goal

pub returns-clause-ok : goal.returns-clause-ok
returns-clause-ok g c = rw c.stack_file-file.ensures at c.write_stack_file.ensures.ok

pub returns-clause-err : goal.returns-clause-err
returns-clause-err g c = both-errs c.write_stack_file.result _ _ (rw c.stack_file-file.ensures at c.write_stack_file.ensures.err) c.write_stack_file.ensures.quiet

pub returns-clause-noted : goal.returns-clause-noted
returns-clause-noted g c = put-notes _ _ _ _ _ c.stack_file-file.ensures c.write_stack_file.ensures.noted
