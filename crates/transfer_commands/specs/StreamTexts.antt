-- The lines and statuses of `cat` and `store`.
use Rattle.std.specs.Prelude.{ℕ, List, [], ◌++◌, codes, decimal}
use Rattle.io_fault_text.specs.Texts.{io_text, refused_text}
use Rattle.request_queue.specs.declared.fault.SubmitFault.{SubmitFault}
use Rattle.request_queue.specs.declared.fault.SubmitFault.TheVariants as submit
use Rattle.request_queue.specs.SubmitFaults.{submit_name, submit_number}
use Rattle.stack_meaning.specs.declared.fault.IoFault.TheVariants as io
use Rattle.transfer_commands.specs.declared.stream_fault.CatFault.{CatFault}
use Rattle.transfer_commands.specs.declared.stream_fault.CatFault.TheVariants as cat
use Rattle.transfer_commands.specs.declared.stream_fault.StoreCause.{StoreCause}
use Rattle.transfer_commands.specs.declared.stream_fault.StoreCause.TheVariants as store
use Rattle.transfer_commands.specs.declared.stream_fault.StoreFault.{StoreFault}

-- the line of a refusal, as for a request
abbrev pub refused_request_text : SubmitFault → List ℕ
refused_request_text fault = refused_text (submit_number fault) (submit_name fault)

abbrev pub cat_text : CatFault → List ℕ
cat_text cat.Range = refused_request_text submit.OutOfRange
cat_text (cat.Read fault) = io_text fault
cat_text cat.Write = []

abbrev pub cat_status : CatFault → ℕ
cat_status (cat.Read io.NoMemory) = 1
cat_status (cat.Read fault) = 3
cat_status fault = 1

-- so many sectors were written
abbrev pub stored_text : ℕ → List ℕ
stored_text n = codes "written " ++ (decimal n ++ codes "\n")

-- the number of written sectors, and then another line
unfoldable pub late_text : ℕ → List ℕ → List ℕ
late_text n line = stored_text n ++ line

abbrev pub store_cause_text : ℕ → StoreCause → List ℕ
store_cause_text n store.ReadOnly = refused_request_text submit.ReadOnly
store_cause_text n store.Range = refused_request_text submit.OutOfRange
store_cause_text n store.Length = refused_request_text submit.Length
store_cause_text n store.TooLong = late_text n (codes "refused 7 TooLong\n")
store_cause_text n store.PartSector = late_text n (codes "refused 8 PartSector\n")
store_cause_text n store.Read = late_text n (codes "refused 9 Input\n")
store_cause_text n (store.Write fault) = stored_text n ++ io_text fault
store_cause_text n (store.Sync fault) = stored_text n ++ io_text fault

abbrev pub store_text : StoreFault → List ℕ
store_text fault = store_cause_text fault.written fault.cause

abbrev pub cause_status : StoreCause → ℕ
cause_status (store.Write io.NoMemory) = 1
cause_status (store.Write fault) = 3
cause_status (store.Sync io.NoMemory) = 1
cause_status (store.Sync fault) = 3
cause_status cause = 1

abbrev pub store_status : StoreFault → ℕ
store_status fault = cause_status fault.cause
