-- Pieces that wait: those of what is in flight, and how many a run serves.
use Rattle.std.specs.Prelude.{ℕ, zero, suc, nat_le, sum_by, Result, Ok, Err, if◌then◌else◌}
use Rattle.stack_rules.specs.Records.{Configuration}
use Rattle.request_queue.specs.declared.fault.SubmitFault.{SubmitFault}
use Rattle.request_queue.specs.declared.range.SectorRange.{SectorRange}
use Rattle.request_queue.specs.Ranges.{piece_len, range_after}
use Rattle.request_queue.specs.Runs.{Turn}
use Rattle.request_queue.specs.World.{World, Event, submit, step, read_bytes, write_piece, load, remove_device, run, sync, admission}

-- into how many pieces a range is cut that has at most so many sectors
unfoldable pub pieces_within : ℕ → Configuration → SectorRange → ℕ
pieces_within zero c range = 0
pieces_within (suc most) c range = if nat_le range.count (piece_len c range) then 1 else suc (pieces_within most c (range_after range (piece_len c range)))

abbrev pub pieces_of : Configuration → SectorRange → ℕ
pieces_of c range = pieces_within range.count c range

-- those that are left of all requests in flight
abbrev pub waiting : World → ℕ
waiting w = sum_by (λ f. pieces_of w.stack.config f.rest) w.in_flight

-- those of a request that is begun
abbrev pub pieces_asked : Configuration → Result SectorRange SubmitFault → ℕ
pieces_asked c (Ok range) = pieces_of c range
pieces_asked c (Err fault) = 0

abbrev pub asked_by : World → Event → ℕ
asked_by w (submit r (Ok ticket)) = pieces_asked w.stack.config (admission w r)
asked_by w (submit r (Err fault)) = 0
asked_by w (step t reply) = 0
asked_by w (read_bytes d first bytes reply) = 0
asked_by w (write_piece d first bytes result) = 0
asked_by w (load text reply) = 0
asked_by w (remove_device name reply) = 0
asked_by w (run r (Ok answer)) = pieces_asked w.stack.config (admission w r)
asked_by w (run r (Err fault)) = 0
asked_by w (sync reply) = 0

-- whether it serves a piece of a request in flight, as a number
abbrev pub served_by : Event → ℕ
served_by (submit r reply) = 0
served_by (step t (Ok progress)) = 1
served_by (step t (Err none)) = 0
served_by (read_bytes d first bytes reply) = 0
served_by (write_piece d first bytes result) = 0
served_by (load text reply) = 0
served_by (remove_device name reply) = 0
served_by (run r reply) = 0
served_by (sync reply) = 0

-- how many pieces the request has that a turn begins; 0 if it begins none
abbrev pub asked_in_turn : World → Turn → ℕ
asked_in_turn w x = asked_by w x.event

abbrev pub served : World → Turn → ℕ
served w x = served_by x.event
