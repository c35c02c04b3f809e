use Rattle.std.proofs.Common.{refl}
use Rattle.command_parser.specs.Commands.{commands}
use Rattle.command_parser.proofs.rows.command_rows.Goals as goal

pub returns : goal.returns
unfolding commands
returns c = refl
