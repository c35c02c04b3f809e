-- Runs: one event after another, each with the world that it leaves.
use Rattle.std.specs.Prelude.{◌≡◌, ℕ, ◌+◌, ◌-◌, ◌*◌, ◌==◌, Bool, false, List, [], ◌∷◌, find, Option, Some, None, Ok, Err, if◌then◌else◌}
use Rattle.stack_rules.specs.Records.{Configuration}
use Rattle.stack_meaning.specs.Leaves.{reads_of, writes_of}
use Rattle.stack_engine.specs.Stacks.{StackRecord}
use Rattle.request_queue.specs.Flights.{FlightRecord, has_ticket, work_cost}
use Rattle.request_queue.specs.Parts.{PartRelation}
use Rattle.request_queue.specs.World.{World, Event, submit, step, read_bytes, write_piece, load, remove_device, run, sync, Step}

-- an event, and the world that it leaves
pub record Turn : Type 0 where
  pub event : Event
  pub after : World

-- from w, one turn after another
abbrev pub AreTurns : PartRelation → World → List Turn → Type 0
AreTurns part w [] = Unit {0}
AreTurns part w (x ∷ more) = Step part w x.event x.after × AreTurns part x.after more

abbrev pub last : World → List Turn → World
last w [] = w
last w (x ∷ more) = last x.after more

-- turns lead from the first world to the last
pub record IsLed (part : PartRelation) (w w' : World) : Type 0 where
  pub turns : List Turn
  pub run : AreTurns part w turns
  pub ends : last w turns ≡ w'

-- a count of each turn, added up
abbrev pub turns_total : (World → Turn → ℕ) → World → List Turn → ℕ
turns_total count w [] = 0
turns_total count w (x ∷ more) = count w x + turns_total count x.after more

-- the event serves a piece of that ticket
abbrev pub is_step : ℕ → Event → Bool
is_step t (submit r reply) = false
is_step t (step u (Ok progress)) = u == t
is_step t (step u (Err none)) = false
is_step t (read_bytes d first bytes reply) = false
is_step t (write_piece d first bytes result) = false
is_step t (load text reply) = false
is_step t (remove_device name reply) = false
is_step t (run r reply) = false
is_step t (sync reply) = false

-- the request in flight with that ticket
abbrev pub flight_of : World → ℕ → Option FlightRecord
flight_of w t = find (has_ticket t) w.in_flight

-- how many sectors all leaves together have read and written
abbrev pub moved_of : StackRecord → ℕ
moved_of v = reads_of v.leaves + writes_of v.leaves

-- how many leaf sectors a turn that serves that ticket moved
abbrev pub moved_for : ℕ → World → Turn → ℕ
moved_for t w x = if is_step t x.event then moved_of x.after.stack - moved_of w.stack else 0

-- whether it serves that ticket, as a number
abbrev pub served_for : ℕ → World → Turn → ℕ
served_for t w x = if is_step t x.event then 1 else 0

-- what is left of a request
abbrev pub rest_of : Option FlightRecord → ℕ
rest_of None = 0
rest_of (Some f) = f.rest.count

-- the most leaf sectors that it may still move
abbrev pub due_of : Configuration → Option FlightRecord → ℕ
due_of c None = 0
due_of c (Some f) = f.rest.count * work_cost c f.rest.device.0 f.work

abbrev pub rest_due : ℕ → World → ℕ
rest_due t w = due_of w.stack.config (flight_of w t)

abbrev pub rest : ℕ → World → ℕ
rest t w = rest_of (flight_of w t)
