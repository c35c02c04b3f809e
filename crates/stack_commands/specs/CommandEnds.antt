-- How a command ends early.
use Rattle.std.specs.Prelude.{false}
use Rattle.command_line.specs.declared.fault.WordsFault.{WordsFault}
use Rattle.stack_commands.specs.declared.command_end.CommandEnd.{CommandEnd}
use Rattle.stack_commands.specs.Endings.{command_words_ending}

-- words that are no command have no option that asks for an object or for no sentence
abbrev pub words_end : WordsFault → CommandEnd
words_end fault = record { fault = command_words_ending fault; json = false; quiet = false }
