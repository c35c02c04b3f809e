-- Which argument keeps clap from taking the words of a command line.
use Rattle.std.specs.Prelude.{◌&&◌, ◌||◌, nat_lt, not, Bool, true, false, List, [], ◌∷◌, codes, count_by, find, Option, None, Some, option_map, unwrap_or, if◌then◌else◌}
use Rattle.std.specs.Option.{option_and_then, option_map_or, option_or}
use Rattle.std.specs.Str.{bytes_eq}
use Rattle.clap.specs.Walk.{Text}
use Rattle.command_line.specs.CommandWords.{is_option}
use Rattle.command_line.specs.Misuses.{MisuseRecord}
use Rattle.command_line.specs.declared.misuse.Cause.{Cause}
use Rattle.command_line.specs.declared.misuse.Cause.TheVariants.{NoValue, Repeated, Unknown, Unread, UnwantedValue}
use Rattle.command_parser.specs.Commands.{CommandText, OptionText, commands}
use Rattle.command_parser.specs.OptionNames.{gives_value, option_of}

-- the word isn't an option, or is `--` alone, which ends them
abbrev pub ends_options : Text → Bool
ends_options word = not (is_option word) || bytes_eq word (codes "--")

-- no value is next
abbrev pub lacks_value : List Text → Bool
lacks_value [] = true
lacks_value (word ∷ words) = is_option word

-- by whether the option has a value and whether the word gives one
abbrev pub value_fault : Bool → Bool → List Text → Option Cause
value_fault true true words = None
value_fault true false words = if lacks_value words then Some NoValue else None
value_fault false true words = Some UnwantedValue
value_fault false false words = None

-- what is wrong with a word that has the form of an option
abbrev pub option_fault : Option OptionText → Text → List Text → Option Cause
option_fault None word words = Some Unknown
option_fault (Some option) word words = value_fault option.has_value (gives_value word) words

-- the next word is the option's value
abbrev pub takes_next : Option OptionText → Text → Bool
takes_next None word = false
takes_next (Some option) word = option.has_value && not (gives_value word)

abbrev pub misused_or : Text → Option Cause → Option MisuseRecord → Option MisuseRecord
misused_or word None more = more
misused_or word (Some cause) more = Some (record { argument = word; cause = cause })

-- the first option that is wrong; the first word is a value if the flag says so
unfoldable pub wrong_option : List OptionText → Bool → List Text → Option MisuseRecord
wrong_option options is_value [] = None
wrong_option options true (word ∷ words) = wrong_option options false words
wrong_option options false (word ∷ words) =
    if ends_options word then None
    else misused_or word (option_fault (option_of options word) word words) (wrong_option options (takes_next (option_of options word) word) words)

-- the word names the option of that name
abbrev pub names_option : List OptionText → Text → Text → Bool
names_option options name word = option_map_or (λ option. bytes_eq option.name name) (option_of options word) false

-- the word names an option that two words name
abbrev pub is_repeated : List OptionText → List Text → Text → Bool
is_repeated options words word = option_map_or (λ option. nat_lt 1 (count_by (names_option options option.name) words)) (option_of options word) false

unfoldable pub repeated_option : List OptionText → List Text → Option MisuseRecord
repeated_option options words = option_map (λ word. record { argument = word; cause = Repeated }) (find (is_repeated options words) words)

unfoldable pub command_named : Text → Option CommandText
command_named name = find (λ command. bytes_eq command.name name) commands

-- the first option of a command that is wrong, or that is given twice
abbrev pub option_misuse : List OptionText → List Text → Option MisuseRecord
option_misuse options words = option_or (wrong_option options false words) (repeated_option options words)

-- no argument is named
abbrev pub unread : MisuseRecord
unread = record { argument = []; cause = Unread }

-- that option, or no argument if there is none
unfoldable pub unread_argument : List Text → MisuseRecord
unread_argument [] = unread
unread_argument (name ∷ words) = unwrap_or (option_and_then (λ command. option_misuse command.options words) (command_named name)) unread
