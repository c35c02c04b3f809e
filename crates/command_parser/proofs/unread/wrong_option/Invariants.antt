use Rattle.std.proofs.Common.{◌≡◌, false, length, map}
use Rattle.std.specs.Prelude.{string_bytes}
use Rattle.command_parser.specs.Grammar.{option_text}
use Rattle.command_parser.specs.Unread.{wrong_option}
use Rattle.command_parser.proofs.unread.wrong_option.Given as goal

-- what is left has the first option that is wrong
abbrev pub invariant-words : goal.invariant-words
invariant-words l = wrong_option (map option_text l.rows) false (map string_bytes l.words) ≡ wrong_option (map option_text l.rows) l.is_value (map string_bytes l.rest)

abbrev pub decreases-words : goal.decreases-words
decreases-words l = length l.rest
