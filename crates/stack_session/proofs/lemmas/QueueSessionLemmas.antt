-- A session all of whose leaves are steady.
use Rattle.std.proofs.Common.{List, Result}
use Rattle.block_device.specs.Device.{Device}
use Rattle.stack_rules.specs.Names.{mapped}
use Rattle.stack_meaning.specs.Leaves.{AllSteady}
use Rattle.stack_meaning.proofs.lemmas.LeafListLemmas.{some-steady}
use Rattle.stack_lines.specs.Touches.{leaves_of}
use Rattle.request_queue.specs.Parts.{AgreedPart}
use Rattle.request_queue.specs.World.{World, Step}
use Rattle.request_queue.proofs.lemmas.PremiseLemmas.{OutlivesSyncs, Passes, step-as}
use Rattle.program_io.specs.Streams.{Streams}
use Rattle.stack_session.specs.declared.fault.SessionFault.{SessionFault}
use Rattle.stack_session.specs.QueueSessions.{IsQueueSession, SteadyBeneath}
use Rattle.stack_session.specs.Replies.{Replies}
use Rattle.stack_session.specs.Session.{IsSession}
use Rattle.stack_session.proofs.SteppingLemmas.{Yields, session-as}

abbrev Anything : List Device → Type 0
Anything leaves = Unit {0}

outlives-any : OutlivesSyncs Anything
outlives-any = record { synced = λ leaves h. tt; unsynced = λ old new fault fails h. tt }

pass-steady : (first : List Device) → AllSteady first → Passes (SteadyBeneath first) AgreedPart Anything
pass-steady first steady v d at part answer v' h p = (p (some-steady (leaves_of v.config (mapped d)) first steady), tt)

yields_steady : (first : List Device) → AllSteady first → Yields (Step (SteadyBeneath first)) (Step AgreedPart) Anything
yields_steady first steady w e w' h s = step-as (SteadyBeneath first) AgreedPart Anything (pass-steady first steady) outlives-any w e w' h s

-- each part of each request is what the stack means, if the backing devices agree with what parity restores on them
pub steady-session : (first last : World) (old new : Streams) (result : Result Unit SessionFault) → AllSteady first.stack.leaves → IsQueueSession first last old new result
    → IsSession (Replies (Step AgreedPart)) first last old new result
steady-session first last old new result steady q =
    session-as (Step (SteadyBeneath first.stack.leaves)) (Step AgreedPart) Anything (yields_steady first.stack.leaves steady) first last old new result tt q.steady
