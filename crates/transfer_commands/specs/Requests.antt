-- Requests to a stack.
use Rattle.std.specs.Prelude.{◌≡◌, ℕ, List, [], length, Result, Ok, Err}
use Rattle.allocation.specs.Refusal.{IsOutOfMemory}
use Rattle.command_line.specs.declared.invocation.Sectors.{Sectors}
use Rattle.command_line.specs.declared.invocation.Transfer.{Transfer}
use Rattle.stack_engine.specs.Stacks.{StackRecord}
use Rattle.stack_meaning.specs.declared.fault.IoFault.{IoFault}
use Rattle.request_queue.specs.declared.fault.SubmitFault.{SubmitFault}
use Rattle.request_queue.specs.declared.reply.Reply.{Reply}
use Rattle.request_queue.specs.Parts.{EachPart}
use Rattle.request_queue.specs.Requests.{RequestRecord, a_read, a_write}
use Rattle.request_queue.specs.WholeRuns.{RunAnswers}
use Rattle.request_queue.specs.World.{Step, World, run, world}
use Rattle.transfer_commands.specs.declared.request_fault.RequestFault.{RequestFault}
use Rattle.transfer_commands.specs.declared.request_fault.RequestFault.TheVariants.{Io, NoMemory, Submit}

-- a queue over a stack before its first request
abbrev pub new_world : StackRecord → World
new_world stack = world stack 0 []

-- what is known of a request that is run: each of its pieces, and the whole
pub record IsRequestRun (w : World) (r : RequestRecord) (answer : Result (Result Reply IoFault) SubmitFault) (w' : World) : Type 0 where
  pub each : Step EachPart w (run r answer) w'
  pub whole : RunAnswers w r answer w'

-- the request is served to its end, with that reply
abbrev pub HasReply : World → RequestRecord → Reply → World → Type 0
HasReply w r reply w' = IsRequestRun w r (Ok (Ok reply)) w'

-- the name of the device of a request
abbrev pub request_name : RequestRecord → List ℕ
request_name (a_read name first count) = name
request_name (a_write name first bytes) = name

-- why the request isn't served: the queue refused it, or it ended in a fault, or an allocation of the name was refused before
abbrev pub FailsToServe : World → RequestRecord → RequestFault → World → Type 0
FailsToServe w r (Submit fault) w' = IsRequestRun w r (Err fault) w'
FailsToServe w r (Io fault) w' = IsRequestRun w r (Ok (Err fault)) w'
FailsToServe w r NoMemory w' = (w' ≡ w) × IsOutOfMemory (length (request_name r))
FailsToServe w r fault w' = ⊥

-- the request for these sectors
abbrev pub read_request : Sectors → RequestRecord
read_request sectors = a_read sectors.name.now sectors.first sectors.count

-- the request to write bytes where a transfer goes
abbrev pub write_request : Transfer → List ℕ → RequestRecord
write_request transfer bytes = a_write transfer.name.now transfer.first bytes

-- the request isn't served, between these states of the queue
abbrev pub FailsServing : World → RequestRecord → World → RequestFault → Type 0
FailsServing w r w' = λ fault. FailsToServe w r fault w'
