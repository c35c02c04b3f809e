-- The texts of replies.
use Rattle.std.specs.Prelude.{ℕ, zero, suc, ◌+◌, ◌/◌, ◌==◌, List, [], ◌++◌, length, take, drop, codes, decimal, slice_index, Result, Ok, Err, if◌then◌else◌}
use Rattle.std.specs.List.{list_all}
use Rattle.hex.specs.Hex.{encode_lower}
use Rattle.dm_table.specs.declared.fault.TextFault.{TextFault}
use Rattle.stack_rules.specs.declared.refusal.LoadFault.{LoadFault}
use Rattle.stack_rules.specs.declared.refusal.LoadFault.TheVariants as load
use Rattle.stack_rules.specs.declared.refusal.Refusal.{Refusal}
use Rattle.stack_rules.specs.declared.refusal.RemoveFault.{RemoveFault}
use Rattle.stack_meaning.specs.declared.fault.IoFault.{IoFault}
use Rattle.io_fault_text.specs.Texts.{io_text, kind_then, no_memory}
pub use Rattle.io_fault_text.specs.Texts.{refused_text, usage_text}
use Rattle.dm_table.specs.TextKinds.{text_number, text_name}
use Rattle.stack_rules.specs.FaultKinds.{load_number, load_name, removal_number, removal_name}
use Rattle.request_queue.specs.declared.fault.BusyOr.{BusyOr}
use Rattle.request_queue.specs.declared.fault.BusyOr.TheVariants.{Busy, Fault}
use Rattle.request_queue.specs.declared.fault.NoSuchTicket.{NoSuchTicket}
use Rattle.request_queue.specs.declared.fault.SubmitFault.{SubmitFault}
use Rattle.request_queue.specs.declared.fault.SubmitFault.TheVariants as submit
use Rattle.request_queue.specs.declared.reply.Progress.{Progress}
use Rattle.request_queue.specs.declared.reply.Progress.TheVariants.{More, Done}
use Rattle.request_queue.specs.declared.reply.Reply.{Reply}
use Rattle.request_queue.specs.declared.reply.Reply.TheVariants.{Sectors, Written}
use Rattle.request_queue.specs.SubmitFaults.{submit_number, submit_name}

-- sector n: one byte if all its bytes are equal, otherwise all digits
unfoldable pub sector_line : ℕ → List ℕ → List ℕ
sector_line n bytes =
    if list_all (λ b. b == slice_index bytes 0) bytes then decimal n ++ (codes " all " ++ (encode_lower (take 1 bytes) ++ codes "\n"))
    else decimal n ++ (codes " " ++ (encode_lower bytes ++ codes "\n"))

-- so many sectors, the first of which is sector n
abbrev pub sector_lines : ℕ → ℕ → List ℕ → List ℕ
sector_lines zero n bytes = []
sector_lines (suc count) n bytes = sector_line n (take 512 bytes) ++ sector_lines count (n + 1) (drop 512 bytes)

-- ---- loads and removals

-- requests are in flight
abbrev pub busy_text : List ℕ
busy_text = codes "busy\n"

abbrev pub loaded_text : ℕ → List ℕ
loaded_text count = codes "loaded " ++ (decimal count ++ codes "\n")

-- the first fault of a text: its entry, its line and its kind
abbrev pub fault_text : TextFault → List ℕ
fault_text f = codes "text fault " ++ (decimal f.entry ++ (codes " " ++ (decimal f.line ++ (codes " " ++ kind_then (text_number f.kind) (text_name f.kind) (codes "\n")))))

-- a load that is refused, with the device and the line of the configuration
abbrev pub load_refusal_text : Refusal → List ℕ
load_refusal_text r = codes "refused " ++ kind_then (load_number r.kind) (load_name r.kind) (codes " device " ++ (decimal r.device ++ (codes " line " ++ (decimal r.line ++ codes "\n"))))

-- a load of so many entries
abbrev pub load_reply_text : ℕ → Result Unit (BusyOr LoadFault) → List ℕ
load_reply_text count (Ok done) = loaded_text count
load_reply_text count (Err Busy) = busy_text
load_reply_text count (Err (Fault (load.Refused refusal))) = load_refusal_text refusal
load_reply_text count (Err (Fault load.NoMemory)) = no_memory

abbrev pub removed_text : List ℕ
removed_text = codes "removed\n"

-- a removal that is refused
abbrev pub removal_text : RemoveFault → List ℕ
removal_text fault = refused_text (removal_number fault) (removal_name fault)

abbrev pub remove_text : Result Unit (BusyOr RemoveFault) → List ℕ
remove_text (Ok done) = removed_text
remove_text (Err Busy) = busy_text
remove_text (Err (Fault fault)) = removal_text fault

-- ---- requests

-- a request that isn't accepted
abbrev pub submit_text : SubmitFault → List ℕ
submit_text submit.NoMemory = no_memory
submit_text fault = refused_text (submit_number fault) (submit_name fault)

-- the ticket of a request that is accepted
abbrev pub ticket_text : ℕ → List ℕ
ticket_text ticket = codes "ticket " ++ (decimal ticket ++ codes "\n")

abbrev pub submission_text : Result ℕ SubmitFault → List ℕ
submission_text (Ok ticket) = ticket_text ticket
submission_text (Err fault) = submit_text fault

abbrev pub written_text : List ℕ
written_text = codes "written\n"

-- the result of a request that began at that sector
abbrev pub reply_text : ℕ → Reply → List ℕ
reply_text first (Sectors got) = sector_lines (length got.bytes / 512) first got.bytes
reply_text first Written = written_text

-- the result of a request, or the fault that ended it
abbrev pub answer_text : ℕ → Result Reply IoFault → List ℕ
answer_text first (Ok reply) = reply_text first reply
answer_text first (Err fault) = io_text fault

-- a request that was served to its end, unless it wasn't accepted
abbrev pub run_reply_text : ℕ → Result (Result Reply IoFault) SubmitFault → List ℕ
run_reply_text first (Ok answer) = answer_text first answer
run_reply_text first (Err fault) = submit_text fault

abbrev pub more_reply : List ℕ
more_reply = codes "more\n"

abbrev pub no_ticket_text : List ℕ
no_ticket_text = codes "refused 1 NoSuchTicket\n"

-- a piece of a request that began at that sector
abbrev pub step_text : ℕ → Result Progress NoSuchTicket → List ℕ
step_text first (Ok More) = more_reply
step_text first (Ok (Done answer)) = answer_text first answer
step_text first (Err none) = no_ticket_text

-- ---- other replies

-- a device's size and depth, and the most sectors of backing devices that a read and a write of one sector transfer
abbrev pub cost_text : ℕ → ℕ → ℕ → ℕ → List ℕ
cost_text sectors depth read write =
    codes "sectors " ++ (decimal sectors ++ (codes " depth " ++ (decimal depth
    ++ (codes " read " ++ (decimal read ++ (codes " write " ++ (decimal write ++ codes "\n")))))))

-- how many sectors the backing devices have read and written
abbrev pub moved_text : ℕ → ℕ → List ℕ
moved_text reads writes = codes "moved " ++ (decimal reads ++ (codes " " ++ (decimal writes ++ codes "\n")))

-- ---- in terms of the arguments of a call

-- the whole sectors of these bytes; the first has that number
abbrev pub sectors_text : ℕ → List ℕ → List ℕ
sectors_text first bytes = sector_lines (length bytes / 512) first bytes

-- a number, a text and digits
abbrev pub digits_line : ℕ → List ℕ → List ℕ → List ℕ
digits_line number between digits = decimal number ++ (between ++ (digits ++ codes "\n"))
