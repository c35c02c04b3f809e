-- Parts of requests, each of which one call of the engine answers.
use Rattle.std.specs.Prelude.{ℕ, ◌-◌, ◌*◌, List, [], take, drop, Result, Ok, Err}
use Rattle.stack_rules.specs.Names.{mapped}
use Rattle.stack_meaning.specs.Agreement.{AgreesOn}
use Rattle.stack_meaning.specs.Leaves.{steady_images}
use Rattle.stack_meaning.specs.declared.fault.IoFault.{IoFault}
use Rattle.stack_lines.specs.Touches.{leaves_of}
use Rattle.stack_engine.specs.Bytes.{AnyBytes, SteadyBytes, EachBytes}
use Rattle.stack_engine.specs.KeptBlocks.{AreChecked, ReadKeeps}
use Rattle.stack_engine.specs.Pieces.{AnyPiece, SteadyPiece, EachPiece}
use Rattle.stack_engine.specs.WritePieces.{AnyWrite, SteadyWrite, EachWrite}
use Rattle.stack_engine.specs.Stacks.{StackRecord, AnswerRecord}
use Rattle.request_queue.specs.Flights.{FlightRecord, WorkRecord, nothing, reads, writes}
use Rattle.request_queue.specs.Ranges.{piece_len}

-- so many sectors are read, with their chains or the bytes alone, or these bytes are written
pub data Part : Type 0 where
  read_part : ℕ → Part
  bytes_part : ℕ → Part
  write_part : List ℕ → Part

-- How a part is answered: of the stack, at mapped device d from the first sector on; and the stack that the answer
-- leaves. What a write answers has no bytes.
abbrev pub PartRelation : Type 1
PartRelation = StackRecord → ℕ → ℕ → Part → Result AnswerRecord IoFault → StackRecord → Type 0

-- how a write ends
abbrev pub ending : Result AnswerRecord IoFault → Result Unit IoFault
ending (Ok got) = Ok tt
ending (Err fault) = Err fault

-- how a read of the bytes alone ends
abbrev pub bytes_read : Result AnswerRecord IoFault → Result (List ℕ) IoFault
bytes_read (Ok got) = Ok got.bytes
bytes_read (Err fault) = Err fault

-- an answer that has bytes and no chains
abbrev pub without_chains : Result (List ℕ) IoFault → Result AnswerRecord IoFault
without_chains (Ok bytes) = Ok (record { bytes = bytes; chains = [] })
without_chains (Err fault) = Err fault

-- that of a write that ended so, which has neither
abbrev pub without_bytes : Result Unit IoFault → Result AnswerRecord IoFault
without_bytes (Ok done) = Ok nothing
without_bytes (Err fault) = Err fault

-- ---- what is answered

-- whatever the leaves answer
abbrev pub AnyAnswer : PartRelation
AnyAnswer v d first (read_part n) answer v' = AnyPiece v d first n answer v'
AnyAnswer v d first (bytes_part n) answer v' = AnyBytes v d first n (bytes_read answer) v'
AnyAnswer v d first (write_part bytes) answer v' = AnyWrite v d first bytes (ending answer) v'

-- over steady leaves: what the stack means
abbrev pub SteadyAnswer : PartRelation
SteadyAnswer v d first (read_part n) answer v' = SteadyPiece v d first n answer v'
SteadyAnswer v d first (bytes_part n) answer v' = SteadyBytes v d first n (bytes_read answer) v'
SteadyAnswer v d first (write_part bytes) answer v' = SteadyWrite v d first bytes (ending answer) v'

-- both
abbrev pub EachAnswer : PartRelation
EachAnswer v d first (read_part n) answer v' = EachPiece v d first n answer v'
EachAnswer v d first (bytes_part n) answer v' = EachBytes v d first n (bytes_read answer) v'
EachAnswer v d first (write_part bytes) answer v' = EachWrite v d first bytes (ending answer) v'

-- ---- and what is kept

-- What a part leaves of the kept hash blocks, whatever it was answered. Which ones a write forgets is said of its answer.
abbrev pub PartKeeps : StackRecord → ℕ → ℕ → Part → StackRecord → Type 0
PartKeeps v d first (read_part n) v' = ReadKeeps v d first n v'
PartKeeps v d first (bytes_part n) v' = ReadKeeps v d first n v'
PartKeeps v d first (write_part bytes) v' = AreChecked v'

-- a part is answered as the relation says, and the kept hash blocks are left as they may be
pub record ServesPart (answers : PartRelation) (v : StackRecord) (d first : ℕ) (part : Part) (answer : Result AnswerRecord IoFault) (v' : StackRecord) : Type 0 where
  pub answered : answers v d first part answer v'
  pub kept : PartKeeps v d first part v'

-- whatever the leaves answer, over steady leaves, and both
abbrev pub AnyPart : PartRelation
AnyPart = ServesPart AnyAnswer

abbrev pub SteadyPart : PartRelation
SteadyPart = ServesPart SteadyAnswer

abbrev pub EachPart : PartRelation
EachPart = ServesPart EachAnswer

-- over steady leaves, if those beneath the device agree with what parity restores on them
abbrev pub AgreedPart : PartRelation
AgreedPart v d first part answer v' = AgreesOn v.config (leaves_of v.config (mapped d)) (steady_images v.leaves) → SteadyPart v d first part answer v'

-- ---- requests in flight

-- the next n sectors of a request, after as many as are done
abbrev pub part_of_work : WorkRecord → ℕ → ℕ → Part
part_of_work (reads got) done n = read_part n
part_of_work (writes bytes) done n = write_part (take (512 * n) (drop (512 * done) bytes))

-- how many sectors of it are done
abbrev pub done_of : FlightRecord → ℕ
done_of f = f.rest.first - f.first

-- the part of its next piece is answered so
abbrev pub AsksPiece : PartRelation → StackRecord → FlightRecord → Result AnswerRecord IoFault → StackRecord → Type 0
AsksPiece part v f answer v' = part v f.rest.device.0 f.rest.first (part_of_work f.work (done_of f) (piece_len v.config f.rest)) answer v'
