use Rattle.manual_pages.specs.Commands.{commands}
use Rattle.manual_pages.proofs.command.command_named.Goals as goal

pub returns : goal.returns
unfolding commands
returns c = c.command_in.ensures
