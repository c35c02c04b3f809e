-- Optional arguments at the end of a target's arguments.
use Rattle.std.specs.Prelude.{ℕ, ◌^◌, ◌<◌, Bool, true, false, not, ◌&&◌, ◌==◌, if◌then◌else◌, IsTrue, List, [], ◌∷◌, length, take, drop, Ok, Err}
use Rattle.std.specs.List.{list_any, position_or_len}
use Rattle.std.specs.Str.{bytes_eq}
use Rattle.dm_table.specs.declared.fault.TextKind.TheVariants as kinds
use Rattle.dm_table.specs.Words.{Word}
use Rattle.dm_table.specs.Reading.{Read, ◌>>=◌}
use Rattle.dm_table.specs.Arguments.{number_at}

-- the word equals one of the words
abbrev pub is_one_of : Word → List Word → Bool
is_one_of word words = list_any (λ one. bytes_eq one word) words

-- the name of an option: what comes before the colon, if there is one
unfoldable pub option_name : Word → Word
option_name word = take (position_or_len (λ b. b == 58) word) word

-- the option has the same name as one of the options
abbrev pub has_name_of : Word → List Word → Bool
has_name_of word words = list_any (λ one. bytes_eq (option_name one) (option_name word)) words

-- every word is a known option, and no two options have the same name
abbrev pub are_options : List Word → List Word → Bool
are_options known [] = true
are_options known (word ∷ more) = (is_one_of word known && not (has_name_of word more)) && are_options known more

-- the options in the order written
unfoldable pub known_at : List Word → List Word → Read (List Word)
known_at known words = if are_options known words then Ok words else Err kinds.Option

-- the options without their values: the words in `valued` are options with a value, the word after them. The first word is a
-- value if the flag is set
unfoldable pub option_names : List Word → Bool → List Word → List Word
option_names valued is_value [] = []
option_names valued true (value ∷ more) = option_names valued false more
option_names valued false (word ∷ more) = word ∷ option_names valued (is_one_of word valued) more

-- the value of an option that has one
unfoldable pub value_of : List Word → Word → Bool → List Word → Read Word
value_of valued name is_value [] = Err kinds.Option
value_of valued name true (value ∷ more) = value_of valued name false more
value_of valued name false (word ∷ more) =
    if bytes_eq word name then first_word more else value_of valued name (is_one_of word valued) more
  where
    first_word : List Word → Read Word
    first_word [] = Err kinds.Option
    first_word (value ∷ rest) = Ok value

-- the words after an option and its value
abbrev pub after_option : List Word → Word → List Word → List Word
after_option valued word more = if is_one_of word valued then drop 1 more else more

-- exactly n words; their number is checked before their contents
abbrev pub counted_at : List Word → List Word → ℕ → List Word → Read (List Word)
counted_at known valued n words =
    if length words == n then known_at known (option_names valued false words) else Err kinds.ArgCount

-- `[<#opt_params> <opt_params>]`: the options, without their values
unfoldable pub options_at : List Word → List Word → List Word → Read (List Word)
options_at known valued [] = Ok []
options_at known valued (count ∷ words) = do
  n ← number_at count
  counted_at known valued n words

-- what holds for options that are accepted
pub record AreOptionsOfGrammar (known options : List Word) : Type 0 where
  pub each : IsTrue (are_options known options)
  pub count : length options < 2 ^ 64
