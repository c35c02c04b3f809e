-- Numbers and names of the faults of submissions, as they are printed.
use Rattle.std.specs.Prelude.{ℕ, List, codes}
use Rattle.request_queue.specs.declared.fault.SubmitFault.{SubmitFault}
use Rattle.request_queue.specs.declared.fault.SubmitFault.TheVariants as submit

abbrev pub submit_number : SubmitFault → ℕ
submit_number submit.NoSuchDevice = 1
submit_number submit.OutOfRange = 2
submit_number submit.Length = 3
submit_number submit.ReadOnly = 4
submit_number submit.Full = 5
submit_number submit.NoMemory = 6

abbrev pub submit_name : SubmitFault → List ℕ
submit_name submit.NoSuchDevice = codes "NoSuchDevice"
submit_name submit.OutOfRange = codes "OutOfRange"
submit_name submit.Length = codes "Length"
submit_name submit.ReadOnly = codes "ReadOnly"
submit_name submit.Full = codes "Full"
submit_name submit.NoMemory = codes "NoMemory"
