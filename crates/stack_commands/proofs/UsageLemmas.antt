-- Words that are no command.
use Rattle.std.specs.Prelude.{◌≡◌, ℕ, List, Err}
use Rattle.command_line.specs.declared.fault.WordsFault.{WordsFault}
use Rattle.command_line.specs.declared.fault.WordsFault.TheVariants.{NoMemory, Usage}
use Rattle.command_line.specs.CommandWords.{IsMisuse}
use Rattle.command_parser.specs.CommandLines.{line_said}
use Rattle.command_parser.specs.Memory.{IsMemoryEnd}
use Rattle.stack_commands.specs.Endings.{command_words_ending}
use Rattle.stack_commands.specs.Uses.{IsUsageEnd}

-- what a fault of the words says is what it says as a command's
pub IsUsageEnd-words : (words : List (List ℕ)) (fault : WordsFault) → IsMisuse (λ misuse. line_said words ≡ Err misuse) fault → IsMemoryEnd words fault
    → IsUsageEnd words (command_words_ending fault)
IsUsageEnd-words words (Usage misuse) is memory = is
IsUsageEnd-words words NoMemory is memory = memory
