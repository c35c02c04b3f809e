-- Requests, and which sectors they are for.
use Rattle.std.specs.Prelude.{ℕ, ◌%◌, ◌==◌, not, List, length, Result, Ok, Err, if◌then◌else◌}
use Rattle.std.specs.Int.{div_ceil}
use Rattle.stack_rules.specs.Records.{Configuration}
use Rattle.stack_rules.specs.Names.{mapped, may_write}
use Rattle.request_queue.specs.declared.fault.SubmitFault.{SubmitFault}
use Rattle.request_queue.specs.declared.fault.SubmitFault.TheVariants.{Length, ReadOnly}
use Rattle.request_queue.specs.declared.range.SectorRange.{SectorRange}
use Rattle.request_queue.specs.declared.request.Request.{Request}
use Rattle.request_queue.specs.declared.request.Request.TheVariants.{Read, Write}
use Rattle.request_queue.specs.Ranges.{range_of}

-- a request as contracts see it: the device's name, the first sector, and their number or what is written there
pub data RequestRecord : Type 0 where
  a_read : List ℕ → ℕ → ℕ → RequestRecord
  a_write : List ℕ → ℕ → List ℕ → RequestRecord

abbrev pub request_record : Request → RequestRecord
request_record (Read device first count) = a_read device.items first count
request_record (Write device first bytes) = a_write device.items first bytes.items

-- how many sectors so many bytes need
abbrev pub sector_count : List ℕ → ℕ
sector_count bytes = div_ceil (length bytes) 512

-- the sectors of a write, unless its bytes aren't whole sectors or its device may not be written
abbrev pub writable_sectors : Configuration → List ℕ → Result SectorRange SubmitFault → Result SectorRange SubmitFault
writable_sectors c bytes (Ok range) =
    if not (length bytes % 512 == 0) then Err Length
    else if not (may_write c (mapped range.device.0)) then Err ReadOnly
    else Ok range
writable_sectors c bytes (Err fault) = Err fault

-- the sectors of a request, or the first refusal but those of the queue
abbrev pub sectors_for : Configuration → RequestRecord → Result SectorRange SubmitFault
sectors_for c (a_read name first count) = range_of c name first count
sectors_for c (a_write name first bytes) = writable_sectors c bytes (range_of c name first (sector_count bytes))
