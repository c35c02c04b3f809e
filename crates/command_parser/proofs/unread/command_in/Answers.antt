use Rattle.std.proofs.Common.{refl}
use Rattle.std.specs.Str.{bytes_eq}
use Rattle.command_parser.specs.Grammar.{command_text}
use Rattle.command_parser.proofs.UnreadLemmas.{found-map}
use Rattle.command_parser.proofs.unread.command_in.Goals as goal

pub returns : goal.returns
returns c = found-map command_text (λ command. bytes_eq command.name c.args.name.now) _ c.args.rows.now _ c.row_named.ensures (λ row. refl)
