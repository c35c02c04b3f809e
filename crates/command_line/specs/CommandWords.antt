-- What a command line invokes.
use Rattle.std.specs.Prelude.{◌≡◌, ℕ, ◌==◌, ◌&&◌, nat_lt, Bool, true, false, List, length, drop, find, slice_index, Option, None, Some, Err}
use Rattle.std.specs.Borrow.{Bor}
use Rattle.allocation.specs.Refusal.{IsOutOfMemory}
use Rattle.command_line.specs.declared.fault.WordsFault.{WordsFault}
use Rattle.command_line.specs.declared.fault.WordsFault.TheVariants.{Usage, NoMemory}
use Rattle.command_line.specs.declared.misuse.Cause.TheVariants.{LateOption}
use Rattle.command_line.specs.declared.option_words.OptionWords.{OptionWords}
use Rattle.command_line.specs.FormatOptions.{OptionTexts, option_texts, texts_of}
use Rattle.command_line.specs.Invocations.{InvocationRecord, invocation_said}
use Rattle.command_line.specs.Misuses.{MisuseRecord, Reading, misuse_record, misused}

-- the word begins with `-` (45) and isn't `-` alone
abbrev pub is_option : List ℕ → Bool
is_option word = nat_lt 1 (length word) && (slice_index word 0 == 45)

-- the first word after the first one that has the form of an option, unless `--` precedes them
abbrev pub late_option : List (List ℕ) → Bool → Option (List ℕ)
late_option words true = None
late_option words false = find is_option (drop 1 words)

-- by a command's name, the values of its options, and its positional arguments, if there is no late option
abbrev pub unless_late : Option (List ℕ) → Reading InvocationRecord → Reading InvocationRecord
unless_late (Some word) said = misused word LateOption
unless_late None said = said

unfoldable pub invocation_of : List ℕ → OptionTexts → List (List ℕ) → Bool → Reading InvocationRecord
invocation_of name texts words behind_dashes = unless_late (late_option words behind_dashes) (invocation_said name texts words)

-- the fault is a misuse that it holds of, or memory ran out
abbrev pub IsMisuse : (MisuseRecord → Type 0) → WordsFault → Type 0
IsMisuse Holds (Usage misuse) = Holds (misuse_record misuse)
IsMisuse Holds NoMemory = Unit {0}

-- the largest allocation of a reader, in elements: the bytes of a salt
abbrev pub largest_allocation : ℕ
largest_allocation = 256

-- the fault is the misuse of arguments that say nothing, or an allocation was refused
abbrev pub RefusesWords : {A : Type 0} → Reading A → WordsFault → Type 0
RefusesWords said (Usage misuse) = said ≡ Err (misuse_record misuse)
RefusesWords said NoMemory = IsOutOfMemory largest_allocation

-- what the program's own words invoke
abbrev pub invoked_by : List ℕ → OptionWords → List (Bor (List ℕ)) → Bool → Reading InvocationRecord
invoked_by name options words behind_dashes = invocation_of name (option_texts options) (texts_of words) behind_dashes
