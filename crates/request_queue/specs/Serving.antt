-- What serving one piece does to a request and its stack, by how its part is answered.
use Rattle.std.specs.Prelude.{◌≡◌, ℕ, ◌≤◌, Ok, Err}
use Rattle.stack_meaning.specs.declared.fault.IoFault.{IoFault}
use Rattle.stack_engine.specs.Stacks.{StackRecord, AnswerRecord}
use Rattle.request_queue.specs.declared.range.SectorRange.{SectorRange}
use Rattle.request_queue.specs.Flights.{FlightRecord, WorkRecord, next_flight, next_work}
use Rattle.request_queue.specs.Parts.{PartRelation, AsksPiece, part_of_work}
use Rattle.request_queue.specs.Ranges.{piece_len}

-- the sectors of a piece were served, after as many as are done
pub record PartDone (part : PartRelation) (v : StackRecord) (piece : SectorRange) (done : ℕ) (work : WorkRecord) (v' : StackRecord) (work' : WorkRecord) : Type 0 where
  pub got : AnswerRecord
  pub answered : part v piece.device.0 piece.first (part_of_work work done piece.count) (Ok got) v'
  pub is : work' ≡ next_work work got

abbrev pub PartFailed : PartRelation → StackRecord → SectorRange → ℕ → WorkRecord → IoFault → StackRecord → Type 0
PartFailed part v piece done work fault v' = part v piece.device.0 piece.first (part_of_work work done piece.count) (Err fault) v'

-- the next piece of a request was served
pub record NextPiece (part : PartRelation) (v : StackRecord) (f : FlightRecord) (v' : StackRecord) (f' : FlightRecord) : Type 0 where
  pub got : AnswerRecord
  pub answered : AsksPiece part v f (Ok got) v'
  pub some : 1 ≤ piece_len v.config f.rest
  pub most : piece_len v.config f.rest ≤ f.rest.count
  pub is : f' ≡ next_flight f (piece_len v.config f.rest) got

pub record FailedPiece (part : PartRelation) (v : StackRecord) (f : FlightRecord) (fault : IoFault) (v' : StackRecord) : Type 0 where
  pub answered : AsksPiece part v f (Err fault) v'
  pub some : 1 ≤ piece_len v.config f.rest
