use Rattle.manual_pages.proofs.NameLemmas.{command_in-found}
use Rattle.manual_pages.proofs.command.command_in.Goals as goal

pub returns : goal.returns
returns c = command_in-found c.args.name.now c.args.commands.now _ c.find_command.ensures
