-- The sectors that a line requests to read or write, as requests to the queue.
use Rattle.std.specs.Prelude.{ℕ, ◌+◌, ◌*◌, ◌≤◌, length, replicate}
use Rattle.request_queue.specs.Requests.{RequestRecord, a_read, a_write}
use Rattle.stack_session.specs.declared.access.Access.{Access}
use Rattle.stack_session.specs.declared.access.Access.TheVariants.{Read, Write}

-- the request for the sectors; each byte of a write is the requested byte
abbrev pub access_record : Access → RequestRecord
access_record (Read name first count) = a_read name.now first count
access_record (Write filling) = a_write filling.name.now filling.first (replicate (512 * filling.count) filling.byte)

-- the first sector of the request
abbrev pub first_of : RequestRecord → ℕ
first_of (a_read name first count) = first
first_of (a_write name first bytes) = first

-- how many bytes the request holds; no allocation for it is larger
abbrev pub request_room : RequestRecord → ℕ
request_room (a_read name first count) = length name
request_room (a_write name first bytes) = length name + length bytes

-- a write has at most 2,049 sectors
abbrev pub IsSmall : Access → Type 0
IsSmall (Read name first count) = Unit {0}
IsSmall (Write filling) = filling.count ≤ 2049
