use Rattle.std.proofs.Common.{map, ap}
use Rattle.std.specs.Prelude.{option_copied}
use Rattle.command_parser.specs.Grammar.{option_text}
use Rattle.command_parser.proofs.UnreadLemmas.{repeated_option-none, repeated_option-some}
use Rattle.command_parser.proofs.unread.repeated_option.Goals as goal

pub returns-in-Some : goal.returns-in-Some
returns-in-Some c =
    repeated_option-some (map option_text c.args.rows.now) c.args.words.now (option_copied c.repeated_word.result) c.in-Some.word.now c.as_str.result.now _ c.repeated_word.ensures
    (ap option_copied c.in-Some.is) c.as_str.ensures.value c.new.ensures

pub returns-in-None : goal.returns-in-None
returns-in-None c =
    repeated_option-none (map option_text c.args.rows.now) c.args.words.now (option_copied c.repeated_word.result) c.repeated_word.ensures (ap option_copied c.in-None.is)
