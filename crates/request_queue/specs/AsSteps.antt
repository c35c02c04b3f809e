-- Calls as steps: each request that is run is begun, and served by its own steps.
use Rattle.std.specs.Prelude.{◌≡◌, ℕ, ◌+◌, Bool, true, false, List, [], ◌∷◌, ◌++◌, All, Some, Result, Ok, Err}
use Rattle.stack_meaning.specs.declared.fault.IoFault.{IoFault}
use Rattle.request_queue.specs.declared.reply.Reply.{Reply}
use Rattle.request_queue.specs.Laws.{answer_at_last}
use Rattle.request_queue.specs.Requests.{RequestRecord}
use Rattle.request_queue.specs.Runs.{Turn, last, is_step}
use Rattle.request_queue.specs.World.{World, Event, submit, step, read_bytes, write_piece, load, remove_device, run, sync}

-- the event begins a request and serves it to its end
abbrev pub is_run : Event → Bool
is_run (submit r reply) = false
is_run (step t reply) = false
is_run (read_bytes d first bytes reply) = false
is_run (write_piece d first bytes result) = false
is_run (load text reply) = false
is_run (remove_device name reply) = false
is_run (run r (Ok answer)) = true
is_run (run r (Err fault)) = false
is_run (sync reply) = false

abbrev pub turn : Event → World → Turn
turn event after = record { event = event; after = after }

-- steps of that ticket, with nothing in between, of which the last ends its request with that answer
pub record AreOwnSteps (t : ℕ) (answer : Result Reply IoFault) (begun : World) (steps : List Turn) (w' : World) : Type 0 where
  pub each : All (λ (x : Turn). is_step t x.event ≡ true) steps
  pub answered : answer_at_last t steps ≡ Some answer
  pub ends : last begun steps ≡ w'

-- Calls as steps: each call is as it was, but a request that is run is begun as the next ticket and served by its steps.
pub data AreAsSteps : World → List Turn → List Turn → Type 0 where
  none : {w : World} → AreAsSteps w [] []
  as_it_was : {w : World} {more steps : List Turn} (x : Turn) → is_run x.event ≡ false → AreAsSteps x.after more steps → AreAsSteps w (x ∷ more) (x ∷ steps)
  in_steps : {w begun w' : World} {own more steps : List Turn} (r : RequestRecord) (answer : Result Reply IoFault)
      → AreOwnSteps (w.given + 1) answer begun own w' → AreAsSteps w' more steps
      → AreAsSteps w (turn (run r (Ok answer)) w' ∷ more) (turn (submit r (Ok (w.given + 1))) begun ∷ (own ++ steps))
