-- The leaves that calls may touch: no other counts a sector, is changed or synced.
use Rattle.std.specs.Prelude.{◌⊎◌, ℕ, ◌/◌, IsTrue, List, [], ◌∷◌, length, Option, Some, None, Result, Ok, Err}
use Rattle.stack_rules.specs.Records.{Configuration}
use Rattle.stack_rules.specs.Names.{mapped}
use Rattle.stack_lines.specs.Touches.{leaves_of}
use Rattle.stack_engine.specs.WritePieces.{piece_reached}
use Rattle.request_queue.specs.declared.fault.SubmitFault.{SubmitFault}
use Rattle.request_queue.specs.declared.range.SectorRange.{SectorRange}
use Rattle.request_queue.specs.Flights.{FlightRecord}
use Rattle.request_queue.specs.Parts.{Part, read_part, bytes_part, write_part, part_of_work, done_of}
use Rattle.request_queue.specs.Requests.{RequestRecord, a_read, a_write}
use Rattle.request_queue.specs.Runs.{Turn, flight_of}
use Rattle.request_queue.specs.World.{World, Event, submit, step, read_bytes, write_piece, load, remove_device, run, sync, admission, next_count}

-- some leaves
abbrev pub Leaves : Type 1
Leaves = ℕ → Type 0

abbrev pub no_leaves : Leaves
no_leaves = λ i. ⊥

-- those beneath mapped device d
abbrev pub leaves_under : Configuration → ℕ → Leaves
leaves_under c d = λ i. IsTrue (leaves_of c (mapped d) i)

-- of a part at mapped device d, from the first sector on: those beneath the device that it reads, and those of which what
-- it writes reaches a sector
abbrev pub part_touches : Configuration → ℕ → ℕ → Part → Leaves
part_touches c d first (read_part n) = leaves_under c d
part_touches c d first (bytes_part n) = leaves_under c d
part_touches c d first (write_part bytes) = λ i. (t : ℕ) × piece_reached c d first (length bytes / 512) (i, t)

-- of the next piece of a request in flight
abbrev pub piece_touches : World → Option FlightRecord → Leaves
piece_touches w None = no_leaves
piece_touches w (Some f) = part_touches w.stack.config f.rest.device.0 f.rest.first (part_of_work f.work (done_of f) (next_count w f))

-- of a request that is run, in these sectors of its device
abbrev pub run_touches : World → RequestRecord → Result SectorRange SubmitFault → Leaves
run_touches w (a_read name first count) (Ok range) = leaves_under w.stack.config range.device.0
run_touches w (a_write name first bytes) (Ok range) = part_touches w.stack.config range.device.0 range.first (write_part bytes)
run_touches w r (Err fault) = no_leaves

-- a sync may touch each leaf
abbrev pub touches_of : World → Event → Leaves
touches_of w (submit r reply) = no_leaves
touches_of w (step t reply) = piece_touches w (flight_of w t)
touches_of w (read_bytes d first bytes reply) = leaves_under w.stack.config d
touches_of w (write_piece d first bytes result) = part_touches w.stack.config d first (write_part bytes)
touches_of w (load text reply) = no_leaves
touches_of w (remove_device name reply) = no_leaves
touches_of w (run r reply) = run_touches w r (admission w r)
touches_of w (sync reply) = λ i. Unit {0}

-- of one turn after another
abbrev pub touches : World → List Turn → Leaves
touches w [] = no_leaves
touches w (x ∷ more) = λ i. touches_of w x.event i ⊎ touches x.after more i
