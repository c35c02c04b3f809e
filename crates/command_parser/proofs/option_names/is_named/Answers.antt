use Rattle.std.proofs.Common.{◌≡◌, false, rules, ◌∙◌}
use Rattle.std.specs.Str.{bytes_eq}
use Rattle.command_parser.proofs.UnreadLemmas.{list_any-map}
use Rattle.command_parser.proofs.option_names.is_named.Goals as goal

pub returns-else-eq : goal.returns-else-eq
returns-else-eq c =
    let differs : bytes_eq c.args.row.now.name.now c.args.name.now ≡ false = search rules in
    rw differs (c.has_other.ensures ∙ list_any-map (λ n. n.now) (λ other. bytes_eq other c.args.name.now) c.args.row.now.others.now)
