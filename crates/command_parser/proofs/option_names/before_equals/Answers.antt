use Rattle.std.proofs.Common.{◌∙◌, ◌==◌, ap, length, take}
use Rattle.std.specs.Prelude.{unwrap_or}
use Rattle.command_parser.proofs.OptionLemmas.{take-position}
use Rattle.command_parser.proofs.option_names.before_equals.Goals as goal

pub returns : goal.returns
returns c =
    ap (λ n. take n c.args.word.now) (c.unwrap_or-end.ensures ∙ ap (λ o. unwrap_or o (length c.args.word.now)) c.first_equals.ensures)
    ∙ take-position (λ b. b == 61) c.args.word.now
