-- Worlds, and the steps between them.
use Rattle.std.specs.Prelude.{◌≡◌, ◌≢◌, ◌⊎◌, ℕ, ◌+◌, ◌-◌, ◌^◌, ◌<◌, ◌≤◌, ◌/◌, ◌||◌, ◌==◌, nat_le, Bool, IsTrue, List, [], ◌∷◌, ◌++◌, length, map, position, slice_get, set, remove, Some, None, Result, Ok, Err, All, if◌then◌else◌}
use Rattle.allocation.specs.Refusal.{IsOutOfMemory}
use Rattle.block_device.specs.Device.{Device, synced}
use Rattle.dm_table.specs.declared.stack.Entry.{Entry}
use Rattle.stack_rules.specs.declared.refusal.LoadFault.{LoadFault}
use Rattle.stack_rules.specs.declared.refusal.LoadFault.TheVariants as load_fault
use Rattle.stack_rules.specs.declared.refusal.RemoveFault.{RemoveFault}
use Rattle.stack_rules.specs.Names.{mapped, may_write, size}
use Rattle.stack_rules.specs.Removal.{removal_fault, after_removal}
use Rattle.stack_rules.specs.Records.{Configuration}
use Rattle.stack_rules.specs.Passing.{largest_load_allocation}
use Rattle.stack_rules.specs.Rules.{first_refusal, IsLoaded, IsRefusal, after_load}
use Rattle.stack_meaning.specs.declared.fault.IoFault.{IoFault}
use Rattle.stack_engine.specs.Stacks.{StackRecord, AnswerRecord}
use Rattle.stack_engine.specs.Syncs.{FailsToSync}
use Rattle.request_queue.specs.declared.fault.BusyOr.{BusyOr}
use Rattle.request_queue.specs.declared.fault.BusyOr.TheVariants.{Busy, Fault}
use Rattle.request_queue.specs.declared.fault.NoSuchTicket.{NoSuchTicket}
use Rattle.request_queue.specs.declared.fault.SubmitFault.{SubmitFault}
use Rattle.request_queue.specs.declared.fault.SubmitFault.TheVariants.{Full, NoMemory}
use Rattle.request_queue.specs.declared.range.SectorRange.{SectorRange}
use Rattle.request_queue.specs.declared.reply.Progress.{Progress}
use Rattle.request_queue.specs.declared.reply.Progress.TheVariants.{More, Done}
use Rattle.request_queue.specs.declared.reply.Reply.{Reply}
use Rattle.request_queue.specs.Ranges.{bytes_range, piece_len}
use Rattle.request_queue.specs.Requests.{RequestRecord, sectors_for}
use Rattle.request_queue.specs.Flights.{FlightRecord, IsSoundFlight, first_flight, next_flight, reply_to, has_ticket}
use Rattle.request_queue.specs.Parts.{PartRelation, AsksPiece, bytes_part, write_part, without_bytes, without_chains}

-- a stack, how many tickets were given, and the requests in flight in the order of their tickets
pub record World : Type 0 where
  pub stack : StackRecord
  pub given : ℕ
  pub in_flight : List FlightRecord

abbrev pub world : StackRecord → ℕ → List FlightRecord → World
world stack given in_flight = record { stack = stack; given = given; in_flight = in_flight }

-- ---- submissions

abbrev pub most_in_flight : ℕ
most_in_flight = 64

abbrev pub is_full : World → Bool
is_full w = nat_le most_in_flight (length w.in_flight) || (w.given == 2 ^ 64 - 1)

abbrev pub unless_full : Bool → Result SectorRange SubmitFault → Result SectorRange SubmitFault
unless_full full (Ok range) = if full then Err Full else Ok range
unless_full full (Err fault) = Err fault

-- the sectors of a request, or its first refusal
abbrev pub admission : World → RequestRecord → Result SectorRange SubmitFault
admission w r = unless_full (is_full w) (sectors_for w.stack.config r)

-- the most elements for which one allocation of a submission makes room: the bytes of a read of 2,048 sectors
abbrev pub largest_submission : ℕ
largest_submission = 1048576

-- the request is the last of those in flight, under the next ticket
pub record Begins (w : World) (r : RequestRecord) (ticket : ℕ) (w' : World) : Type 0 where
  pub range : SectorRange
  pub admits : admission w r ≡ Ok range
  pub ticket_is : ticket ≡ w.given + 1
  pub leaves : w' ≡ world w.stack (w.given + 1) (w.in_flight ++ first_flight (w.given + 1) range r ∷ [])

-- its first refusal, or an allocation for it was refused; nothing is begun
pub record IsRequestRefused (w : World) (r : RequestRecord) (fault : SubmitFault) (w' : World) : Type 0 where
  pub refuses : (admission w r ≡ Err fault) ⊎ ((fault ≡ NoMemory) × IsOutOfMemory largest_submission)
  pub same : w' ≡ w

abbrev pub Submits : World → RequestRecord → Result ℕ SubmitFault → World → Type 0
Submits w r (Ok ticket) w' = Begins w r ticket w'
Submits w r (Err fault) w' = IsRequestRefused w r fault w'

-- ---- one piece of a request

-- request f is the one with that ticket, at place i
pub record IsAt (fs : List FlightRecord) (ticket i : ℕ) (f : FlightRecord) : Type 0 where
  pub place : position (has_ticket ticket) fs ≡ Some i
  pub is : slice_get fs i ≡ Some f

-- the sectors of its next piece
abbrev pub next_count : World → FlightRecord → ℕ
next_count w f = piece_len w.stack.config f.rest

-- sectors are left after its piece
pub record GoesOn (part : PartRelation) (w : World) (i : ℕ) (f : FlightRecord) (w' : World) : Type 0 where
  pub got : AnswerRecord
  pub stack : StackRecord
  pub asks : AsksPiece part w.stack f (Ok got) stack
  pub rest : next_count w f < f.rest.count
  pub leaves : w' ≡ world stack w.given (set w.in_flight i (next_flight f (next_count w f) got))

-- its last piece was served
pub record Finishes (part : PartRelation) (w : World) (i : ℕ) (f : FlightRecord) (reply : Reply) (w' : World) : Type 0 where
  pub got : AnswerRecord
  pub stack : StackRecord
  pub asks : AsksPiece part w.stack f (Ok got) stack
  pub last : next_count w f ≡ f.rest.count
  pub replies : reply ≡ reply_to (next_flight f (next_count w f) got).work
  pub leaves : w' ≡ world stack w.given (remove w.in_flight i)

-- its piece ended it
pub record Fails (part : PartRelation) (w : World) (i : ℕ) (f : FlightRecord) (fault : IoFault) (w' : World) : Type 0 where
  pub stack : StackRecord
  pub asks : AsksPiece part w.stack f (Err fault) stack
  pub leaves : w' ≡ world stack w.given (remove w.in_flight i)

abbrev pub AnswersStep : PartRelation → World → ℕ → FlightRecord → Progress → World → Type 0
AnswersStep part w i f More w' = GoesOn part w i f w'
AnswersStep part w i f (Done (Ok reply)) w' = Finishes part w i f reply w'
AnswersStep part w i f (Done (Err fault)) w' = Fails part w i f fault w'

-- the next piece of the request with that ticket
pub record Serves (part : PartRelation) (w : World) (ticket : ℕ) (progress : Progress) (w' : World) : Type 0 where
  pub i : ℕ
  pub f : FlightRecord
  pub at : IsAt w.in_flight ticket i f
  pub some : 1 ≤ next_count w f
  pub answers : AnswersStep part w i f progress w'

abbrev pub StepsOn : PartRelation → World → ℕ → Result Progress NoSuchTicket → World → Type 0
StepsOn part w ticket (Ok progress) w' = Serves part w ticket progress w'
StepsOn part w ticket (Err none) w' = (position (has_ticket ticket) w.in_flight ≡ None) × (w' ≡ w)

-- ---- reads at once

-- The sectors of so many bytes of mapped device d, from the first on, were read, or their read ended in that fault. All
-- requests stay in flight as they were.
pub record BytesRead (part : PartRelation) (w : World) (d first bytes : ℕ) (answer : Result (List ℕ) IoFault) (w' : World) : Type 0 where
  pub range : SectorRange
  pub admits : bytes_range w.stack.config d first bytes ≡ Ok range
  pub stack : StackRecord
  pub asks : part w.stack range.device.0 range.first (bytes_part range.count) (without_chains answer) stack
  pub leaves : w' ≡ world stack w.given w.in_flight

abbrev pub ReadsBytes : PartRelation → World → ℕ → ℕ → ℕ → Result (Result (List ℕ) IoFault) SubmitFault → World → Type 0
ReadsBytes part w d first bytes (Ok answer) w' = BytesRead part w d first bytes answer w'
ReadsBytes part w d first bytes (Err fault) w' = (bytes_range w.stack.config d first bytes ≡ Err fault) × (w' ≡ w)

-- ---- writes at once

-- A piece of sectors inside mapped device d, which may be written, was written from the first on, or ended in that fault.
-- All requests stay in flight as they were.
pub record PieceWritten (part : PartRelation) (w : World) (d first : ℕ) (bytes : List ℕ) (result : Result Unit IoFault) (w' : World) : Type 0 where
  pub inside : first + length bytes / 512 ≤ size w.stack.config (mapped d)
  pub allowed : IsTrue (may_write w.stack.config (mapped d))
  pub stack : StackRecord
  pub asks : part w.stack d first (write_part bytes) (without_bytes result) stack
  pub leaves : w' ≡ world stack w.given w.in_flight

-- ---- loads and removals

-- the devices of a text are added, and no rule refuses the configuration with them
pub record LoadDone (w : World) (text : List Entry) (w' : World) : Type 0 where
  pub idle : w.in_flight ≡ []
  pub passes : first_refusal w.stack.config text ≡ None
  pub leaves : w' ≡ world (record w.stack { config = after_load w.stack.config text; kept = []; last = None }) w.given w.in_flight
  pub loaded : IsLoaded w'.stack.config

abbrev pub LoadFails : World → List Entry → LoadFault → Type 0
LoadFails w text (load_fault.Refused refusal) = IsRefusal w.stack.config text refusal
LoadFails w text load_fault.NoMemory = IsOutOfMemory largest_load_allocation

abbrev pub LoadsText : World → List Entry → Result Unit (BusyOr LoadFault) → World → Type 0
LoadsText w text (Ok done) w' = LoadDone w text w'
LoadsText w text (Err Busy) w' = (w.in_flight ≢ []) × (w' ≡ w)
LoadsText w text (Err (Fault fault)) w' = (w.in_flight ≡ []) × LoadFails w text fault × (w' ≡ w)

-- the device of that name is removed, and no rule refuses the configuration without it
pub record RemovalDone (w : World) (name : List ℕ) (w' : World) : Type 0 where
  pub idle : w.in_flight ≡ []
  pub passes : removal_fault w.stack.config name ≡ None
  pub leaves : w' ≡ world (record w.stack { config = after_removal w.stack.config name; kept = []; last = None }) w.given w.in_flight
  pub loaded : IsLoaded w'.stack.config

abbrev pub Removes : World → List ℕ → Result Unit (BusyOr RemoveFault) → World → Type 0
Removes w name (Ok done) w' = RemovalDone w name w'
Removes w name (Err Busy) w' = (w.in_flight ≢ []) × (w' ≡ w)
Removes w name (Err (Fault fault)) w' = (w.in_flight ≡ []) × (removal_fault w.stack.config name ≡ Some fault) × (w' ≡ w)

-- ---- syncs

-- A leaf couldn't be synced. All requests stay in flight as they were.
pub record SyncFails (w : World) (fault : IoFault) (w' : World) : Type 0 where
  pub after : List Device
  pub fails : FailsToSync w.stack.leaves after fault
  pub leaves : w' ≡ world (record w.stack { leaves = after }) w.given w.in_flight

-- all leaves are synced: none is dirty
abbrev pub flushed : World → World
flushed w = world (record w.stack { leaves = map synced w.stack.leaves }) w.given w.in_flight

-- where what was written is put on the media, nothing else changes
abbrev pub Syncs : World → Result Unit IoFault → World → Type 0
Syncs w (Ok done) w' = w' ≡ flushed w
Syncs w (Err fault) w' = SyncFails w fault w'

-- ---- runs of one request

-- steps of a ticket up to its last
pub data EndsRequest (part : PartRelation) (ticket : ℕ) (answer : Result Reply IoFault) : World → World → Type 0 where
  at_once : {w w' : World} → Serves part w ticket (Done answer) w' → EndsRequest part ticket answer w w'
  later : {w v w' : World} → Serves part w ticket More v → EndsRequest part ticket answer v w' → EndsRequest part ticket answer w w'

pub record RunsToEnd (part : PartRelation) (w : World) (r : RequestRecord) (answer : Result Reply IoFault) (w' : World) : Type 0 where
  pub begun : World
  pub begins : Begins w r (w.given + 1) begun
  pub ends : EndsRequest part (w.given + 1) answer begun w'

abbrev pub Runs : PartRelation → World → RequestRecord → Result (Result Reply IoFault) SubmitFault → World → Type 0
Runs part w r (Ok answer) w' = RunsToEnd part w r answer w'
Runs part w r (Err fault) w' = IsRequestRefused w r fault w'

-- ---- events

-- A call, and what it answered; of a write at once each piece, and how it ended.
pub data Event : Type 0 where
  submit : RequestRecord → Result ℕ SubmitFault → Event
  step : ℕ → Result Progress NoSuchTicket → Event
  read_bytes : ℕ → ℕ → ℕ → Result (Result (List ℕ) IoFault) SubmitFault → Event
  write_piece : ℕ → ℕ → List ℕ → Result Unit IoFault → Event
  load : List Entry → Result Unit (BusyOr LoadFault) → Event
  remove_device : List ℕ → Result Unit (BusyOr RemoveFault) → Event
  run : RequestRecord → Result (Result Reply IoFault) SubmitFault → Event
  sync : Result Unit IoFault → Event

-- From w, the event may lead to w'.
abbrev pub Step : PartRelation → World → Event → World → Type 0
Step part w (submit r reply) w' = Submits w r reply w'
Step part w (step ticket reply) w' = StepsOn part w ticket reply w'
Step part w (read_bytes d first bytes reply) w' = ReadsBytes part w d first bytes reply w'
Step part w (write_piece d first bytes result) w' = PieceWritten part w d first bytes result w'
Step part w (load text reply) w' = LoadsText w text reply w'
Step part w (remove_device name reply) w' = Removes w name reply w'
Step part w (run r reply) w' = Runs part w r reply w'
Step part w (sync reply) w' = Syncs w reply w'

-- ---- what holds of every queue

-- the tickets rise, from above low to at most high
abbrev pub Rise : ℕ → List FlightRecord → ℕ → Type 0
Rise low [] high = low ≤ high
Rise low (f ∷ more) high = (low < f.ticket) × Rise f.ticket more high

pub record IsSoundWorld (c : Configuration) (given : ℕ) (fs : List FlightRecord) : Type 0 where
  pub flights : All (IsSoundFlight c) fs
  pub tickets : Rise 0 fs given
