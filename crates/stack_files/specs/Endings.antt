-- The faults of a stack, by the faults of its parts.
use Rattle.std.specs.Prelude.{◌≡◌}
use Rattle.dm_table.specs.declared.fault.ParseFault.{ParseFault}
use Rattle.dm_table.specs.declared.fault.ParseFault.TheVariants as parse
use Rattle.stack_files.specs.declared.opening_fault.OpeningFault.{OpeningFault}
use Rattle.stack_files.specs.declared.opening_fault.OpeningFault.TheVariants as opening
use Rattle.stack_rules.specs.declared.refusal.LoadFault.{LoadFault}
use Rattle.stack_rules.specs.declared.refusal.LoadFault.TheVariants as load
use Rattle.stack_files.specs.declared.stack_fault.StackFault.{StackFault}
use Rattle.stack_files.specs.declared.stack_fault.StackFault.TheVariants.{Load, NoMemory, Open, Outside, Text, TooLong}

-- the text has a fault, or memory ran out for it
abbrev pub text_ending : ParseFault → StackFault
text_ending (parse.Text fault) = Text fault
text_ending parse.NoMemory = NoMemory

abbrev pub load_ending : LoadFault → StackFault
load_ending (load.Refused refusal) = Load refusal
load_ending load.NoMemory = NoMemory

-- a file can't be opened
abbrev pub opening_ending : OpeningFault → StackFault
opening_ending opening.NoMemory = NoMemory
opening_ending opening.TooLong = TooLong
opening_ending (opening.Open file) = Open file
opening_ending (opening.Outside path) = Outside path

-- a file can't be opened, and this is the fault
abbrev pub IsOpeningEnd : (OpeningFault → Type 0) → StackFault → Type 0
IsOpeningEnd Fails fault = (cause : OpeningFault) × (fault ≡ opening_ending cause) × Fails cause
