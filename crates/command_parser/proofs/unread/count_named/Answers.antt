use Rattle.std.proofs.Common.{◌≡◌, map, rules, ◌∙◌}
use Rattle.std.specs.Prelude.{count_by, string_bytes}
use Rattle.command_parser.specs.Grammar.{option_text}
use Rattle.command_parser.specs.Unread.{names_option}
use Rattle.command_parser.proofs.UnreadLemmas.{count_by-map}
use Rattle.command_parser.proofs.unread.count_named.Goals as goal

pub returns : goal.returns
returns c =
    let counted : c.count.result ≡ count_by (λ word. names_option (map option_text c.args.rows.now) c.args.name.now (string_bytes word)) c.args.words.now = search rules in
    counted ∙ count_by-map string_bytes (names_option (map option_text c.args.rows.now) c.args.name.now) c.args.words.now
