-- The numbers and names of the faults of a read or a write that are printed.
use Rattle.std.specs.Prelude.{ℕ, List, codes}
use Rattle.stack_meaning.specs.declared.fault.Fault.TheVariants.{ErrorTarget, Mismatch}
use Rattle.stack_meaning.specs.declared.fault.IoFault.{IoFault}
use Rattle.stack_meaning.specs.declared.fault.IoFault.TheVariants.{Stack, Device, NoMemory}

-- an allocation failure has no number of its own
abbrev pub io_number : IoFault → ℕ
io_number (Stack ErrorTarget) = 1
io_number (Stack Mismatch) = 2
io_number (Device leaf) = 3
io_number NoMemory = 0

abbrev pub io_name : IoFault → List ℕ
io_name (Stack ErrorTarget) = codes "ErrorTarget"
io_name (Stack Mismatch) = codes "Mismatch"
io_name (Device leaf) = codes "Device"
io_name NoMemory = codes "NoMemory"
