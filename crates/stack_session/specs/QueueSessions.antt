-- A session whose lines are served by a queue.
use Rattle.std.specs.Prelude.{ℕ, List, Option, Result}
use Rattle.block_device.specs.Device.{Device}
use Rattle.stack_rules.specs.Names.{mapped}
use Rattle.stack_meaning.specs.Leaves.{AreSteady}
use Rattle.stack_lines.specs.Touches.{leaves_of}
use Rattle.request_queue.specs.Parts.{AgreedPart, AnyPart, EachPart, PartRelation}
use Rattle.request_queue.specs.Runs.{IsLed}
use Rattle.request_queue.specs.World.{World, Step}
use Rattle.stack_session.specs.declared.fault.SessionFault.{SessionFault}
use Rattle.program_io.specs.Counted.{CountedRecord}
use Rattle.program_io.specs.Streams.{Streams, streams}
use Rattle.stack_session.specs.Session.{IsSession}
use Rattle.stack_session.specs.Replies.{Replies, WholeStep}

-- A part of a request is what the stack means, if all of these backing devices that are below the request's device are steady, and
-- agree with what parity restores on them.
abbrev pub SteadyBeneath : List Device → PartRelation
SteadyBeneath leaves v d first part answer v' = AreSteady (leaves_of v.config (mapped d)) leaves → AgreedPart v d first part answer v'

-- What a session read and wrote, from the first state of its queue to the last.
pub record IsQueueSession (first end : World) (old new : Streams) (result : Result Unit SessionFault) : Type 0 where
  -- for any backing devices
  pub any : IsSession (Replies (Step AnyPart)) first end old new result
  -- for each request over steady backing devices, whatever the others are; a backing device stays as steady as it was at first
  pub steady : IsSession (Replies (Step (SteadyBeneath first.stack.leaves))) first end old new result
  -- for each read and each write as a whole; both hold at once
  pub whole : IsSession (Replies WholeStep) first end old new result
  -- in each case the lines that were served are a run of the queue, to which the queue's law applies
  pub led : IsLed EachPart first end

-- such a session, by a counted reader and a counted writer, before and after
abbrev pub IsQueueSessionOf : {R W : Type 0} → World → World → (R → Option (List ℕ)) → (W → Option (List ℕ)) → CountedRecord R → CountedRecord W → CountedRecord R → CountedRecord W → Result Unit SessionFault → Type 0
IsQueueSessionOf first end remaining contents reader writer reader' writer' result =
    IsQueueSession first end (streams (remaining reader.inner) (contents writer.inner)) (streams (remaining reader'.inner) (contents writer'.inner)) result
