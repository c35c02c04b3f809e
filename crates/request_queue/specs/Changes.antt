-- What a run may change of the leaves: the sectors that its writes reach.
use Rattle.std.specs.Prelude.{◌≡◌, ◌⊎◌, ℕ, ◌/◌, IsTrue, List, [], ◌∷◌, length, Option, Some, None, Result, Ok, Err}
use Rattle.std.specs.List.{slice_index_or}
use Rattle.block_device.specs.Device.{Device}
use Rattle.stack_rules.specs.Records.{Configuration}
use Rattle.stack_meaning.specs.Changes.{LeafSectors}
use Rattle.stack_meaning.specs.Outcomes.{zero_sector}
use Rattle.stack_engine.specs.WritePieces.{piece_reached}
use Rattle.request_queue.specs.declared.fault.SubmitFault.{SubmitFault}
use Rattle.request_queue.specs.declared.range.SectorRange.{SectorRange}
use Rattle.request_queue.specs.Flights.{FlightRecord}
use Rattle.request_queue.specs.Parts.{Part, read_part, bytes_part, write_part, part_of_work, done_of}
use Rattle.request_queue.specs.Requests.{RequestRecord, a_read, a_write}
use Rattle.request_queue.specs.Runs.{Turn, flight_of}
use Rattle.request_queue.specs.World.{World, Event, step, write_piece, run, admission, next_count}

abbrev pub no_sectors : LeafSectors
no_sectors = λ p. ⊥

-- those of a part at mapped device d, from the first sector on
abbrev pub part_changes : Configuration → ℕ → ℕ → Part → LeafSectors
part_changes c d first (read_part n) = no_sectors
part_changes c d first (bytes_part n) = no_sectors
part_changes c d first (write_part bytes) = piece_reached c d first (length bytes / 512)

-- those of the next piece of a request in flight
abbrev pub piece_changes : World → Option FlightRecord → LeafSectors
piece_changes w None = no_sectors
piece_changes w (Some f) = part_changes w.stack.config f.rest.device.0 f.rest.first (part_of_work f.work (done_of f) (next_count w f))

-- those of a request that is run, in these sectors of its device
abbrev pub run_changes : World → RequestRecord → Result SectorRange SubmitFault → LeafSectors
run_changes w (a_read name first count) range = no_sectors
run_changes w (a_write name first bytes) (Ok range) = part_changes w.stack.config range.device.0 range.first (write_part bytes)
run_changes w (a_write name first bytes) (Err fault) = no_sectors

abbrev pub changes_of : World → Event → LeafSectors
changes_of w (step t reply) = piece_changes w (flight_of w t)
changes_of w (write_piece d first bytes result) = part_changes w.stack.config d first (write_part bytes)
changes_of w (run r reply) = run_changes w r (admission w r)
changes_of w e = no_sectors

-- those of one turn after another
abbrev pub changes : World → List Turn → LeafSectors
changes w [] = no_sectors
changes w (x ∷ more) = λ p. changes_of w x.event p ⊎ changes x.after more p

-- Of each steady leaf the size, and the sectors other than these, are as they were; its image, if none of these is its own.
pub record StaysBut (these : LeafSectors) (old new : List Device) : Type 0 where
  pub size : (i : ℕ) (d : Device) → IsTrue (slice_index_or old i d).steady → length (slice_index_or new i d).image ≡ length (slice_index_or old i d).image
  pub sector : (i t : ℕ) (d : Device) → IsTrue (slice_index_or old i d).steady → (these (i, t) → ⊥) → slice_index_or (slice_index_or new i d).image t zero_sector ≡ slice_index_or (slice_index_or old i d).image t zero_sector
  pub image : (i : ℕ) (d : Device) → IsTrue (slice_index_or old i d).steady → ((t : ℕ) → these (i, t) → ⊥) → (slice_index_or new i d).image ≡ (slice_index_or old i d).image
