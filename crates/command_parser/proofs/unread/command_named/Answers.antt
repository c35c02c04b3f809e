use Rattle.std.proofs.Common.{ap, ◌∙◌}
use Rattle.std.specs.Prelude.{find}
use Rattle.std.specs.Str.{bytes_eq}
use Rattle.command_parser.specs.Commands.{CommandText}
use Rattle.command_parser.specs.Unread.{command_named}
use Rattle.command_parser.proofs.unread.command_named.Goals as goal

pub returns : goal.returns
unfolding command_named
returns c = c.command_in.ensures ∙ ap (find (λ (command : CommandText). bytes_eq command.name c.args.name.now)) c.command_rows.ensures
