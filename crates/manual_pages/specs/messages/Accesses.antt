-- The sentences on reads and writes that fail.
use Rattle.std.specs.Prelude.{ℕ, List, codes, Option, Some, None}
use Rattle.stack_meaning.specs.declared.fault.IoFault.{IoFault}
use Rattle.stack_meaning.specs.declared.fault.IoFault.TheVariants as io
use Rattle.stack_meaning.specs.declared.fault.Fault.TheVariants as fault

-- a read or a write that fails
unfoldable pub io_message : IoFault → Option (List ℕ)
io_message (io.Stack fault.ErrorTarget) = Some (codes "a sector lies in a line of the target 'error'")
io_message (io.Stack fault.Mismatch) = Some (codes "a block of a verity line fails verification: 'dmstack verify --all' names the corrupt blocks")
io_message (io.Device leaf) = Some (codes "the image of the binding with that number can't be read, written or synced: 'dmesg' may say why")
io_message io.NoMemory = None
