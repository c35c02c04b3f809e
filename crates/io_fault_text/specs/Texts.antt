-- The texts for faults of a read or a write, and for refusals.
use Rattle.std.specs.Prelude.{ℕ, List, ◌++◌, codes, decimal}
use Rattle.stack_meaning.specs.declared.fault.IoFault.{IoFault}
use Rattle.stack_meaning.specs.declared.fault.IoFault.TheVariants as io
use Rattle.stack_meaning.specs.IoFaults.{io_number, io_name}

abbrev pub no_memory : List ℕ
no_memory = codes "no memory\n"

-- wrong arguments, or a line that isn't a command
abbrev pub usage_text : List ℕ
usage_text = codes "usage\n"

-- a number, a name and a rest
abbrev pub kind_then : ℕ → List ℕ → List ℕ → List ℕ
kind_then number name rest = decimal number ++ (codes " " ++ (name ++ rest))

-- a refusal with a number and a name
abbrev pub refused_text : ℕ → List ℕ → List ℕ
refused_text number name = codes "refused " ++ kind_then number name (codes "\n")

-- the number and name of a fault and, for a device, the number of the leaf
abbrev pub io_words : IoFault → List ℕ
io_words (io.Device leaf) = kind_then (io_number (io.Device leaf)) (io_name (io.Device leaf)) (codes " " ++ (decimal leaf ++ codes "\n"))
io_words fault = kind_then (io_number fault) (io_name fault) (codes "\n")

abbrev pub io_text : IoFault → List ℕ
io_text io.NoMemory = no_memory
io_text fault = codes "fault " ++ io_words fault
