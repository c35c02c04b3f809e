-- What runs give the requests that are in flight in them.
use Rattle.std.specs.Prelude.{◌≡◌, ℕ, ◌+◌, ◌*◌, ◌/◌, ◌<◌, ◌≤◌, Bool, true, false, List, [], ◌∷◌, length, All, Option, Some, None, Result, Ok, Err, if◌then◌else◌}
use Rattle.stack_rules.specs.Records.{Configuration}
use Rattle.stack_meaning.specs.declared.fault.IoFault.{IoFault}
use Rattle.stack_meaning.specs.Agreement.{AgreesOn}
use Rattle.stack_meaning.specs.Leaves.{steady_images, AreSteady}
use Rattle.stack_rules.specs.Names.{mapped}
use Rattle.stack_lines.specs.Touches.{leaves_of}
use Rattle.stack_engine.specs.KeptBlocks.{AreChecked}
use Rattle.stack_engine.specs.Stacks.{StackRecord, AnswerRecord}
use Rattle.request_queue.specs.declared.reply.Progress.TheVariants.{More, Done}
use Rattle.request_queue.specs.declared.reply.Reply.{Reply}
use Rattle.request_queue.specs.declared.range.SectorRange.{SectorRange}
use Rattle.request_queue.specs.Chains.{chains_of, AreVerified, IsVerified}
use Rattle.request_queue.specs.Changes.{StaysBut, changes}
use Rattle.request_queue.specs.Flights.{FlightRecord, first_flight, next_flight, reply_to, work_cost, first_work}
use Rattle.request_queue.specs.Parts.{PartRelation, AnyPart, SteadyPart, EachPart, AsksPiece}
use Rattle.request_queue.specs.Ranges.{IsCut, piece_len}
use Rattle.request_queue.specs.Requests.{RequestRecord}
use Rattle.request_queue.specs.Runs.{Turn, AreTurns, last, turns_total, is_step, flight_of, moved_for}
use Rattle.request_queue.specs.World.{World, Event, submit, step, read_bytes, write_piece, load, remove_device, run, sync, Step, Begins}

-- ---- the steps of one request in a run

-- the stack before a step and after it
pub record Passage : Type 0 where
  pub before : StackRecord
  pub after : StackRecord

abbrev pub passage : World → Turn → Passage
passage w x = record { before = w.stack; after = x.after.stack }

-- the steps of a ticket in a run, in order
abbrev pub passages : ℕ → World → List Turn → List Passage
passages t w [] = []
passages t w (x ∷ more) = if is_step t x.event then passage w x ∷ passages t x.after more else passages t x.after more

-- the answer that ends a request, if there is one yet
abbrev pub ending_answer : Event → Option (Result Reply IoFault)
ending_answer (submit r reply) = None
ending_answer (step u (Ok More)) = None
ending_answer (step u (Ok (Done answer))) = Some answer
ending_answer (step u (Err none)) = None
ending_answer (read_bytes d first bytes reply) = None
ending_answer (write_piece d first bytes result) = None
ending_answer (load text reply) = None
ending_answer (remove_device name reply) = None
ending_answer (run r reply) = None
ending_answer (sync reply) = None

abbrev pub or_else : Option (Result Reply IoFault) → Option (Result Reply IoFault) → Option (Result Reply IoFault)
or_else None later = later
or_else (Some answer) later = Some answer

-- what a run answers that ticket at last
abbrev pub answer_at_last : ℕ → List Turn → Option (Result Reply IoFault)
answer_at_last t [] = None
answer_at_last t (x ∷ more) = if is_step t x.event then or_else (ending_answer x.event) (answer_at_last t more) else answer_at_last t more

-- A request is served by these steps and no others: one piece at each, of the stack as it is then. After the
-- last piece, or at the first fault, it is over with that answer; with none it still waits.
pub data IsFlightServed (part : PartRelation) : FlightRecord → List Passage → Option (Result Reply IoFault) → Type 0 where
  waits : {f : FlightRecord} → IsFlightServed part f [] None
  goes_on : {f : FlightRecord} {p : Passage} {more : List Passage} {answer : Option (Result Reply IoFault)} (got : AnswerRecord)
      → AsksPiece part p.before f (Ok got) p.after → piece_len p.before.config f.rest < f.rest.count
      → IsFlightServed part (next_flight f (piece_len p.before.config f.rest) got) more answer → IsFlightServed part f (p ∷ more) answer
  finishes : {f : FlightRecord} {p : Passage} {reply : Reply} (got : AnswerRecord)
      → AsksPiece part p.before f (Ok got) p.after → piece_len p.before.config f.rest ≡ f.rest.count
      → reply ≡ reply_to (next_flight f (piece_len p.before.config f.rest) got).work → IsFlightServed part f (p ∷ []) (Some (Ok reply))
  fails : {f : FlightRecord} {p : Passage} {fault : IoFault} → AsksPiece part p.before f (Err fault) p.after → IsFlightServed part f (p ∷ []) (Some (Err fault))

-- ---- what a run gives a request

-- before a step the leaves beneath a mapped device agree with what parity restores on them
abbrev pub AgreesBefore : Configuration → ℕ → Passage → Type 0
AgreesBefore c d p = AgreesOn c (leaves_of c (mapped d)) (steady_images p.before.leaves)

-- a step over that configuration
abbrev pub IsPassageOver : Configuration → Passage → Type 0
IsPassageOver c p = p.before.config ≡ c

-- A request that was begun from world w, as world v, and the turns after it. Whatever the leaves answer and whatever
-- is served in between, its own steps serve it; where the leaves beneath its device are steady, and agree with what parity restores
-- on them, each piece is what the stack means at its step.
-- All its steps are over the configuration in which it was begun. It takes no more steps than its range has pieces,
-- and these move no more than its budget.
pub record RequestLaw (w : World) (r : RequestRecord) (t : ℕ) (range : SectorRange) (v : World) (turns : List Turn) : Type 0 where
  pub any : IsFlightServed AnyPart (first_flight t range r) (passages t v turns) (answer_at_last t turns)
  pub steady : AreSteady (leaves_of w.stack.config (mapped range.device.0)) w.stack.leaves → All (AgreesBefore w.stack.config range.device.0) (passages t v turns) → IsFlightServed SteadyPart (first_flight t range r) (passages t v turns) (answer_at_last t turns)
  pub config : All (IsPassageOver w.stack.config) (passages t v turns)
  pub steps : length (passages t v turns) ≤ range.count
  pub pieces : (n : ℕ) → IsCut w.stack.config range n → length (passages t v turns) ≤ n
  pub moved : turns_total (moved_for t) v turns ≤ range.count * work_cost w.stack.config range.device.0 (first_work r)

-- A request that is run is begun as the next ticket, and these turns, which are steps of it alone, serve it to its answer.
pub record RunLaw (w : World) (r : RequestRecord) (answer : Result Reply IoFault) (w' : World) : Type 0 where
  pub begun : World
  pub begins : Begins w r (w.given + 1) begun
  pub turns : List Turn
  pub taken : AreTurns EachPart begun turns
  pub own : All (λ (x : Turn). is_step (w.given + 1) x.event ≡ true) turns
  pub law : RequestLaw w r (w.given + 1) begins.range begun turns
  pub answered : answer_at_last (w.given + 1) turns ≡ Some answer
  pub ends : last begun turns ≡ w'

-- The event is a refusal. A sync or a piece that fails is none: the leaf counts its failure.
abbrev pub is_refusal : Event → Bool
is_refusal (submit r (Ok ticket)) = false
is_refusal (submit r (Err fault)) = true
is_refusal (step t (Ok progress)) = false
is_refusal (step t (Err none)) = true
is_refusal (read_bytes d first bytes (Ok answer)) = false
is_refusal (read_bytes d first bytes (Err fault)) = true
is_refusal (write_piece d first bytes result) = false
is_refusal (load text (Ok done)) = false
is_refusal (load text (Err fault)) = true
is_refusal (remove_device name (Ok done)) = false
is_refusal (remove_device name (Err fault)) = true
is_refusal (run r (Ok answer)) = false
is_refusal (run r (Err fault)) = true
is_refusal (sync reply) = false

-- A turn leaves each request that it doesn't serve as it was, and a refusal leaves all as it was.
pub record TurnLaw (w : World) (x : Turn) : Type 0 where
  pub others : (t : ℕ) → t ≤ w.given → is_step t x.event ≡ false → flight_of x.after t ≡ flight_of w t
  pub refused : is_refusal x.event ≡ true → x.after ≡ w

-- What turns left of the hash blocks that a stack keeps: as many may be kept as before, no more are, and no two under one
-- key; and each has the digest that it is kept under.
pub record KeepsChecked (v v' : StackRecord) : Type 0 where
  pub capacity : v'.capacity ≡ v.capacity
  pub checked : AreChecked v'

-- What holds of every run from a world on. Each chain that an answer hands out is good for its verity line, whatever
-- the leaves answered, and if it is unlike the data formatted for that line it shows a collision. The bytes of a read
-- at once are such as some chains allow of which the same holds. Any list of calls leaves the sectors of steady leaves
-- as they were that none of its writes reaches. After any list of calls each kept hash block was checked, whatever the
-- leaves answered.
pub record QueueLaw (w : World) : Type 0 where
  pub requests : (before : List Turn) → AreTurns EachPart w before → (r : RequestRecord) (t : ℕ) (v : World) → (b : Begins (last w before) r t v)
      → (turns : List Turn) → AreTurns EachPart v turns → RequestLaw (last w before) r t b.range v turns
  pub runs : (before : List Turn) → AreTurns EachPart w before → (r : RequestRecord) (answer : Result Reply IoFault) (w' : World) → Step EachPart (last w before) (run r (Ok answer)) w'
      → RunLaw (last w before) r answer w'
  pub turns : (before : List Turn) → AreTurns EachPart w before → (x : Turn) → Step EachPart (last w before) x.event x.after → TurnLaw (last w before) x
  pub chains : (before : List Turn) → AreTurns EachPart w before → (x : Turn) → Step EachPart (last w before) x.event x.after → All (IsVerified (last w before).stack.config) (chains_of x.event)
  pub bytes : (before : List Turn) → AreTurns EachPart w before → (d first size : ℕ) (got : List ℕ) (w' : World) → Step EachPart (last w before) (read_bytes d first size (Ok (Ok got))) w'
      → AreVerified (last w before).stack.config d first (size / 512) got
  pub images : (before : List Turn) → AreTurns EachPart w before → (turns : List Turn) → AreTurns EachPart (last w before) turns
      → StaysBut (changes (last w before) turns) (last w before).stack.leaves (last (last w before) turns).stack.leaves
  pub kept : (turns : List Turn) → AreTurns EachPart w turns → KeepsChecked w.stack (last w turns).stack
