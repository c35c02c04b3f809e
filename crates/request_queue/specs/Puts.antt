-- The pieces of writes that turns serve, and what the leaves hold after them.
use Rattle.std.specs.Prelude.{◌≡◌, ℕ, ◌/◌, List, [], ◌∷◌, ◌++◌, length, Option, Some, None, Result, Ok, Err}
use Rattle.block_device.specs.Device.{Device}
use Rattle.stack_rules.specs.Records.{Configuration}
use Rattle.stack_rules.specs.Names.{mapped}
use Rattle.stack_meaning.specs.declared.fault.IoFault.{IoFault}
use Rattle.stack_meaning.specs.declared.fault.IoFault.TheVariants as io
use Rattle.stack_meaning.specs.Changes.{DifferWithin}
use Rattle.stack_meaning.specs.Leaves.{AreSteady}
use Rattle.stack_meaning.specs.Outcomes.{Images}
use Rattle.stack_meaning.specs.Puts.{put_on}
use Rattle.stack_lines.specs.Touches.{leaves_of}
use Rattle.stack_lines.specs.Writing.{IsPut, sectors_in}
use Rattle.stack_engine.specs.WritePieces.{piece_reached}
use Rattle.request_queue.specs.declared.reply.Progress.{Progress}
use Rattle.request_queue.specs.declared.reply.Progress.TheVariants.{More, Done}
use Rattle.request_queue.specs.Flights.{FlightRecord}
use Rattle.request_queue.specs.Parts.{Part, read_part, bytes_part, write_part, part_of_work, done_of}
use Rattle.request_queue.specs.Runs.{Turn, flight_of}
use Rattle.request_queue.specs.World.{World, Event, step, write_piece, next_count}

-- a piece of a write and how it ended: over that configuration, these bytes to a mapped device, from its sector first on
pub record WrittenPiece : Type 0 where
  pub config : Configuration
  pub device : ℕ
  pub first : ℕ
  pub bytes : List ℕ
  pub result : Result Unit IoFault

-- ---- which pieces turns wrote

abbrev pub part_pieces : Configuration → ℕ → ℕ → Part → Result Unit IoFault → List WrittenPiece
part_pieces c d first (read_part n) result = []
part_pieces c d first (bytes_part n) result = []
part_pieces c d first (write_part bytes) result = (record { config = c; device = d; first = first; bytes = bytes; result = result }) ∷ []

-- the next piece of a request in flight
abbrev pub next_pieces : World → Option FlightRecord → Result Unit IoFault → List WrittenPiece
next_pieces w None result = []
next_pieces w (Some f) result = part_pieces w.stack.config f.rest.device.0 f.rest.first (part_of_work f.work (done_of f) (next_count w f)) result

-- how a piece ended after which a request is in that state
abbrev pub piece_ending : Progress → Result Unit IoFault
piece_ending More = Ok tt
piece_ending (Done (Ok reply)) = Ok tt
piece_ending (Done (Err fault)) = Err fault

abbrev pub pieces_in : World → Event → List WrittenPiece
pieces_in w (step t (Ok progress)) = next_pieces w (flight_of w t) (piece_ending progress)
pieces_in w (write_piece d first bytes result) = part_pieces w.stack.config d first (write_part bytes) result
pieces_in w e = []

-- those of one step after another
abbrev pub pieces_written : World → List Turn → List WrittenPiece
pieces_written w [] = []
pieces_written w (x ∷ more) = pieces_in w x.event ++ pieces_written x.after more

-- ---- what they leave

-- the leaves beneath its device are steady
abbrev pub IsOverSteady : List Device → WrittenPiece → Type 0
IsOverSteady leaves p = AreSteady (leaves_of p.config (mapped p.device)) leaves

-- A piece leads from images of steady leaves to images: no sector changes that it doesn't reach, and none where memory ran
-- out. If the leaves beneath its device are steady, its sectors are put, up to the first in an `error` line; where a
-- device failed, those that it reaches may hold anything.
pub record IsPutOn (leaves : List Device) (p : WrittenPiece) (old new : Images) : Type 0 where
  pub exact : IsOverSteady leaves p → IsPut (put_on p.config (mapped p.device) p.first (sectors_in p.bytes) old) new p.result
  pub others : DifferWithin (piece_reached p.config p.device p.first (length p.bytes / 512)) old new
  pub none : p.result ≡ Err io.NoMemory → new ≡ old

-- one piece after another, each on what the one before it left
pub data ArePutOn (leaves : List Device) : List WrittenPiece → Images → Images → Type 0 where
  all_put : {images : Images} → ArePutOn leaves [] images images
  then_put : {p : WrittenPiece} {more : List WrittenPiece} {old mid new : Images} → IsPutOn leaves p old mid → ArePutOn leaves more mid new → ArePutOn leaves (p ∷ more) old new
