use Rattle.stack_commands.specs.ServiceLog.{tally_text}
use Rattle.stack_commands.proofs.service_log.say_tally.Goals as goal

pub returns : goal.returns
unfolding tally_text
returns g c = rw c.saturating_sub-failed.ensures at c.print.ensures.writes
