use Rattle.stack_commands.proofs.ServiceLogLemmas.{printed-or}
use Rattle.stack_commands.proofs.service_log.note_end.Goals as goal

pub returns : goal.returns
returns g c = printed-or g.E.Write.contents _ _ _ c.say_served-said.result (rw c.end_reason.ensures at c.say_served-said.ensures)
