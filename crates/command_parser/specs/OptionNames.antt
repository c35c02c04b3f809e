-- The options that words name.
use Rattle.std.specs.Prelude.{◌==◌, ◌||◌, Bool, List, codes, drop, find, Option, None, if◌then◌else◌}
use Rattle.std.specs.List.{before_first, list_any, starts_with}
use Rattle.std.specs.Str.{bytes_eq}
use Rattle.clap.specs.Walk.{Text}
use Rattle.command_parser.specs.Commands.{OptionText}

-- the option has that name, or one of its other names is that
abbrev pub is_named : Text → OptionText → Bool
is_named name option = bytes_eq option.name name || list_any (λ other. bytes_eq other name) option.others

-- the name in `--NAME` and `--NAME=VALUE`; 61 is `=`
abbrev pub long_name : Text → Text
long_name word = before_first (λ b. b == 61) (drop 2 word)

abbrev pub gives_value : Text → Bool
gives_value word = list_any (λ b. b == 61) word

-- the option that a word names
unfoldable pub option_of : List OptionText → Text → Option OptionText
option_of options word = if starts_with ◌==◌ word (codes "--") then find (is_named (long_name word)) options else None
