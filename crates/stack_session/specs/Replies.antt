-- The replies of a queue to the lines of a session, and its state after each.
use Rattle.std.specs.Prelude.{◌≡◌, ◌⊎◌, ℕ, false, List, [], length, Result, Ok, Err, Option}
use Rattle.std.specs.Option.{option_map_or}
use Rattle.allocation.specs.Refusal.{IsOutOfMemory}
use Rattle.block_device.specs.Device.{Device, capped}
use Rattle.dm_table.specs.declared.stack.Entry.{Entry}
use Rattle.dm_table.specs.declared.fault.TextFault.{TextFault}
use Rattle.dm_table.specs.Names.{most_name}
use Rattle.dm_table.specs.Words.{Word}
use Rattle.dm_table.specs.StackText.{stack_of}
use Rattle.table_text.specs.Print.{printed_table}
use Rattle.stack_rules.specs.declared.refusal.LoadFault.{LoadFault}
use Rattle.stack_rules.specs.declared.refusal.RemoveFault.{RemoveFault}
use Rattle.stack_rules.specs.Records.{Configuration}
use Rattle.stack_rules.specs.Names.{mapped, device_named, lines_of, size}
use Rattle.stack_rules.specs.Descend.{depth, read_cost, write_cost}
use Rattle.stack_meaning.specs.declared.fault.IoFault.{IoFault}
use Rattle.stack_meaning.specs.Leaves.{reads_of, writes_of}
use Rattle.request_queue.specs.declared.fault.BusyOr.{BusyOr}
use Rattle.request_queue.specs.declared.fault.NoSuchTicket.{NoSuchTicket}
use Rattle.request_queue.specs.declared.fault.SubmitFault.{SubmitFault}
use Rattle.request_queue.specs.declared.fault.SubmitFault.TheVariants.{NoSuchDevice}
use Rattle.request_queue.specs.declared.reply.Progress.{Progress}
use Rattle.request_queue.specs.declared.reply.Reply.{Reply}
use Rattle.request_queue.specs.Parts.{EachPart}
use Rattle.request_queue.specs.Runs.{flight_of}
use Rattle.request_queue.specs.WholeRuns.{RunAnswers}
use Rattle.request_queue.specs.World.{World, Event, Step}
use Rattle.request_queue.specs.World as event
use Rattle.io_fault_text.specs.Texts.{no_memory}
use Rattle.stack_session.specs.Accesses.{access_record, first_of, request_room}
use Rattle.stack_session.specs.Commands.{CommandRecord, nothing, load, run, submit, step, remove, cost, table, moved, usage, line_command}
use Rattle.stack_session.specs.Session.{WritesReply}
use Rattle.stack_session.specs.Texts.{usage_text, fault_text, submit_text, load_reply_text, remove_text, submission_text, run_reply_text, step_text, cost_text, moved_text}
use Rattle.stack_session.specs.declared.access.Access.{Access}
use Rattle.program_io.specs.Counted.{CountedRecord}
use Rattle.program_io.specs.declared.fault.WriteFault.{WriteFault}

-- How an event leads from one state of a queue to the next.
abbrev pub Stepping : Type 1
Stepping = World → Event → World → Type 0

-- this text, and no change
abbrev pub Says : List ℕ → World → List ℕ → World → Type 0
Says text w reply w' = (reply ≡ text) × (w' ≡ w)

-- an allocation of at most so much was refused, and nothing was done
abbrev pub RepliesNoMemory : ℕ → World → List ℕ → World → Type 0
RepliesNoMemory most w reply w' = Says no_memory w reply w' × IsOutOfMemory most

-- the reply to a text to be loaded
abbrev pub RepliesToText : Stepping → World → Result (List Entry) TextFault → List ℕ → World → Type 0
RepliesToText steps w (Err fault) reply w' = Says (fault_text fault) w reply w'
RepliesToText steps w (Ok entries) reply w' =
    (result : Result Unit (BusyOr LoadFault)) × steps w (event.load entries result) w' × (reply ≡ load_reply_text (length entries) result)

-- the first sector of the request with that ticket
abbrev pub first_sector : World → ℕ → ℕ
first_sector w ticket = option_map_or (λ f. f.first) (flight_of w ticket) 0

-- what is printed for the device of that name, if there is one
abbrev pub device_text : Configuration → Word → (ℕ → List ℕ) → List ℕ
device_text c name text = option_map_or text (device_named c name) (submit_text NoSuchDevice)

-- the device's size, depth and costs
abbrev pub cost_of : Configuration → ℕ → List ℕ
cost_of c d = cost_text (size c (mapped d)) (depth c (mapped d)) (read_cost c (mapped d)) (write_cost c (mapped d))

-- the device's table, with zeros for keys
abbrev pub device_table : Configuration → ℕ → List ℕ
device_table c d = printed_table false (lines_of c d)

-- how many sectors the backing devices have read and written
abbrev pub leaves_moved_text : List Device → List ℕ
leaves_moved_text leaves = moved_text (capped (reads_of leaves)) (capped (writes_of leaves))

-- A command may get this reply, and leave the second state: it is one event of the queue, or changes nothing.
abbrev pub RepliesTo : Stepping → World → CommandRecord → List ℕ → World → Type 0
RepliesTo steps w nothing reply w' = Says [] w reply w'
RepliesTo steps w usage reply w' = Says usage_text w reply w'
RepliesTo steps w (load text) reply w' = RepliesToText steps w (stack_of text) reply w' ⊎ RepliesNoMemory most_name w reply w'
RepliesTo steps w (run r) reply w' =
    ((result : Result (Result Reply IoFault) SubmitFault) × steps w (event.run r result) w' × (reply ≡ run_reply_text (first_of r) result)) ⊎ RepliesNoMemory (request_room r) w reply w'
RepliesTo steps w (submit r) reply w' = ((result : Result ℕ SubmitFault) × steps w (event.submit r result) w' × (reply ≡ submission_text result)) ⊎ RepliesNoMemory (request_room r) w reply w'
RepliesTo steps w (step ticket) reply w' =
    (result : Result Progress NoSuchTicket) × steps w (event.step ticket result) w' × (reply ≡ step_text (first_sector w ticket) result)
RepliesTo steps w (remove name) reply w' = (result : Result Unit (BusyOr RemoveFault)) × steps w (event.remove_device name result) w' × (reply ≡ remove_text result)
RepliesTo steps w (cost name) reply w' = Says (device_text w.stack.config name (cost_of w.stack.config)) w reply w'
RepliesTo steps w (table name) reply w' = Says (device_text w.stack.config name (device_table w.stack.config)) w reply w' ⊎ RepliesNoMemory (length (device_text w.stack.config name (device_table w.stack.config))) w reply w'
RepliesTo steps w moved reply w' = Says (leaves_moved_text w.stack.leaves) w reply w'

-- a line may get this reply
pub record Replies (steps : Stepping) (w : World) (line reply : List ℕ) (w' : World) : Type 0 where
  pub to : RepliesTo steps w (line_command line) reply w'

-- the answer of a run is that for its request as a whole
abbrev pub IsWholeAnswer : World → Event → World → Type 0
IsWholeAnswer w (event.submit r result) w' = Unit {0}
IsWholeAnswer w (event.step ticket result) w' = Unit {0}
IsWholeAnswer w (event.read_bytes d first bytes result) w' = Unit {0}
IsWholeAnswer w (event.write_piece d first bytes result) w' = Unit {0}
IsWholeAnswer w (event.load text result) w' = Unit {0}
IsWholeAnswer w (event.remove_device name result) w' = Unit {0}
IsWholeAnswer w (event.run r result) w' = RunAnswers w r result w'
IsWholeAnswer w (event.sync result) w' = Unit {0}

-- all that is known of a step: each piece, and each run as a whole
pub record WholeStep (w : World) (e : Event) (w' : World) : Type 0 where
  pub each : Step EachPart w e w'
  pub whole : IsWholeAnswer w e w'

-- the text is the reply to a command, by all that is known
abbrev pub IsReplyTo : World → CommandRecord → World → List ℕ → Type 0
IsReplyTo w command w' reply = RepliesTo WholeStep w command reply w'

-- ---- in terms of the arguments of a call

-- the reply to a command was written, or the writer failed in it
abbrev pub RepliesBy : {T : Type 0} → (T → Option (List ℕ)) → CountedRecord T → CountedRecord T → World → World → CommandRecord → Result Unit WriteFault → Type 0
RepliesBy contents old new w w' command result = WritesReply contents old new (IsReplyTo w command w') result

-- the command that runs the request of a line
abbrev pub runs_access : Access → CommandRecord
runs_access access = run (access_record access)

-- the command that begins the request of a line
abbrev pub submits_access : Access → CommandRecord
submits_access access = submit (access_record access)
