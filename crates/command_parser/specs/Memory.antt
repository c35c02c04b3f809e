-- Why arguments can't be parsed for lack of memory.
use Rattle.std.specs.Prelude.{◌⊎◌, List}
use Rattle.allocation.specs.Refusal.{IsOutOfMemory}
use Rattle.clap.specs.Walk.{Text}
use Rattle.command_line.specs.CommandWords.{largest_allocation}
use Rattle.command_line.specs.declared.fault.WordsFault.{WordsFault}
use Rattle.command_line.specs.declared.fault.WordsFault.TheVariants.{NoMemory, Usage}
use Rattle.command_parser.specs.declared.seal.Seal.{Seal}

-- Clap ran out of memory when it was given the command line's description, or parsed these words. The definition isn't unfoldable,
-- so other crates know it only from a call of this one.
pub IsClapOutOfMemory : List Text → Type 0
IsClapOutOfMemory words = Unit {0}

-- clap reported it; only the proofs of this crate can name a `Seal`
pub clap-refused : (words : List Text) → Seal → IsClapOutOfMemory words
unfolding IsClapOutOfMemory
clap-refused words seal = tt

-- clap ran out of memory, or an allocation of a reader of `command_line` was refused
abbrev pub IsLineOutOfMemory : List Text → Type 0
IsLineOutOfMemory words = IsClapOutOfMemory words ⊎ IsOutOfMemory largest_allocation

-- the cause of a fault `NoMemory`
abbrev pub IsMemoryEnd : List Text → WordsFault → Type 0
IsMemoryEnd words (Usage misuse) = Unit {0}
IsMemoryEnd words NoMemory = IsLineOutOfMemory words
