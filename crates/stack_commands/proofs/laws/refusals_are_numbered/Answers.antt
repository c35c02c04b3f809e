use Rattle.stack_commands.proofs.RefusalLemmas.{are-numbered}
use Rattle.stack_commands.proofs.laws.refusals_are_numbered.Goals as goal

pub returns : goal.returns
returns c = are-numbered c.refusals_have_own_numbers.ensures
