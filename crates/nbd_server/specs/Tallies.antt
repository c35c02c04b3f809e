-- How many requests of a session were answered, of how many bytes, how many with a fault, and how many of these for want of space.
use Rattle.std.specs.Prelude.{ℕ, ◌+◌, min, Bool, Result, Ok, if◌then◌else◌}
use Rattle.nbd_protocol.specs.declared.header.Command.{Command}
use Rattle.nbd_protocol.specs.declared.header.Command.TheVariants.{Read, Write}
use Rattle.nbd_protocol.specs.declared.request_error.RequestError.{RequestError}
use Rattle.nbd_server.specs.declared.tally.Tally.{Tally}

-- one more, up to 2^64 - 1
abbrev pub one_more : ℕ → ℕ
one_more count = min (count + 1) 18446744073709551615

-- one more if it is set
abbrev pub one_more_if : Bool → ℕ → ℕ
one_more_if set count = if set then one_more count else count

-- so many more, up to 2^64 - 1
abbrev pub more_bytes : ℕ → ℕ → ℕ
more_bytes count bytes = min (count + bytes) 18446744073709551615

abbrev pub no_requests : Tally
no_requests = record { requests = 0; bytes = 0; faults = 0; full = 0 }

-- the length of a READ or WRITE within the export
abbrev pub moved_bytes : Result Command RequestError → ℕ
moved_bytes (Ok (Read offset length)) = length
moved_bytes (Ok (Write offset length fua)) = length
moved_bytes other = 0

-- one more request was answered, of so many bytes, with a fault if `faulty` is set, because a device has no space left if `full` is set
abbrev pub counted : ℕ → Bool → Bool → Tally → Tally
counted bytes faulty full t =
    record { requests = one_more t.requests; bytes = more_bytes t.bytes bytes; faults = one_more_if faulty t.faults; full = one_more_if full t.full }
