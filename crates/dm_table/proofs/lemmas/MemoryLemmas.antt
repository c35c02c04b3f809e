-- A text that isn't read because an allocation was refused.
use Rattle.std.proofs.Common.{◌≡◌, ◌≤◌, Result, Ok, Err, IsErrAnd}
use Rattle.allocation.specs.Asked.{asked}
use Rattle.allocation.specs.declared.out_of_memory.OutOfMemory.{OutOfMemory}
use Rattle.dm_table.specs.declared.fault.ParseFault.{ParseFault}
use Rattle.dm_table.specs.declared.fault.ParseFault.TheVariants.{NoMemory}
use Rattle.dm_table.specs.declared.fault.TextFault.{TextFault}
use Rattle.dm_table.specs.Names.{most_name}
use Rattle.dm_table.specs.Reading.{IsAnswer}

-- the exit of a `?` with the error of the allocation
pub exit_memory : {A : Type 0} (r : Result A ParseFault) (answer : Result A TextFault) (e : OutOfMemory) → IsErrAnd r (λ fault. fault ≡ NoMemory) → asked e ≤ most_name → IsAnswer r answer
exit_memory (Ok x) answer e h low = absurd h
exit_memory (Err fault) answer e h low = rw h (e.asked, low, e.refused)
