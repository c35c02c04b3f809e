-- Requests of the transmission phase: 28 bytes each.
use Rattle.std.specs.Prelude.{◌<◌, ◌≤◌, ℕ, ◌+◌, ◌*◌, ◌%◌, ◌==◌, ◌&&◌, ◌||◌, Bool, IsTrue, not, nat_le, nat_lt, List, Result, Ok, Err, if◌then◌else◌}
use Rattle.stack_meaning.specs.declared.fault.IoFault.{IoFault}
use Rattle.stack_meaning.specs.declared.fault.IoFault.TheVariants as io
use Rattle.nbd_protocol.specs.Numbers.{big_endian16, big_endian32, big_endian64}
use Rattle.nbd_protocol.specs.Exports.{ExportRecord}
use Rattle.nbd_protocol.specs.declared.phase.Agreement.{Agreement}
use Rattle.nbd_protocol.specs.declared.header.Header.{Header}
use Rattle.nbd_protocol.specs.declared.header.Command.{Command}
use Rattle.nbd_protocol.specs.declared.header.Command.TheVariants.{Read, Write, Zero, Hint, Cache, Flush, Status}
use Rattle.nbd_protocol.specs.declared.request_error.RequestError.{RequestError}
use Rattle.nbd_protocol.specs.declared.request_error.RequestError.TheVariants.{NotPermitted, InputOutput, NoMemory, Invalid, NoSpace, NotSupported}

-- the most bytes that one READ or WRITE transfers: 32 MiB
abbrev pub most_length : ℕ
most_length = 33554432

abbrev pub request_magic : ℕ
request_magic = 0x25609513

-- the fields after the magic
abbrev pub header_of : List ℕ → Header
header_of bytes = record {
  flags = big_endian16 bytes 4;
  kind = big_endian16 bytes 6;
  cookie = big_endian64 bytes 8;
  offset = big_endian64 bytes 16;
  length = big_endian32 bytes 24;
}

-- A flag that a request may set besides FUA, which is 1: NO_HOLE of WRITE_ZEROES, DF of a READ if its reply consists of
-- chunks, and REQ_ONE of BLOCK_STATUS. For the other requests it is FUA itself.
abbrev pub own_flag : Agreement → Header → ℕ
own_flag a h = if h.kind == 6 then 2 else if (h.kind == 0) && a.structured then 4 else if (h.kind == 7) && a.status then 8 else 1

-- the request sets no other flags than FUA and its own; a WRITE_ZEROES may also set FAST_ZERO, which is 16
abbrev pub has_offered : Agreement → Header → Bool
has_offered a h =
    if h.kind == 6 then nat_lt (h.flags % 16) 4 && nat_lt h.flags 32
    else nat_lt (h.flags % own_flag a h) 2 && nat_lt h.flags (2 * own_flag a h)

-- the data must be durable before the reply
abbrev pub has_fua : Header → Bool
has_fua h = h.flags % 2 == 1

-- a READ of bytes within the export
abbrev pub read_command : ExportRecord → Header → Result Command RequestError
read_command e h =
    if nat_lt most_length h.length then Err Invalid
    else if nat_lt e.size (h.offset + h.length) then Err Invalid
    else Ok (Read h.offset h.length)

-- a request that changes bytes of a writable export; `past` is the error if the bytes end past the export
abbrev pub changing : ExportRecord → Header → RequestError → Result Command RequestError → Result Command RequestError
changing e h past command =
    if not e.writable then Err NotPermitted
    else if nat_lt e.size (h.offset + h.length) then Err past
    else command

-- a WRITE of bytes within the export
abbrev pub write_command : ExportRecord → Header → Result Command RequestError
write_command e h = if nat_lt most_length h.length then Err Invalid else changing e h NoSpace (Ok (Write h.offset h.length (has_fua h)))

-- a WRITE_ZEROES, which has no payload and therefore no greatest length; FAST_ZERO, which is 16, requests that it is fast
abbrev pub zero_command : ExportRecord → Header → Result Command RequestError
zero_command e h = changing e h NoSpace (Ok (Zero h.offset h.length (has_fua h) (nat_le 16 h.flags)))

-- a TRIM: the client no longer needs the bytes
abbrev pub trim_command : ExportRecord → Header → Result Command RequestError
trim_command e h = changing e h Invalid (Ok Hint)

-- a CACHE of bytes within the export, of any length: the client will need them soon
abbrev pub cache_command : ExportRecord → Header → Result Command RequestError
cache_command e h = if nat_lt e.size (h.offset + h.length) then Err Invalid else Ok (Cache h.offset h.length)

-- a BLOCK_STATUS of at least one byte within the export; REQ_ONE requests one extent
abbrev pub status_command : ExportRecord → Header → Result Command RequestError
status_command e h =
    if h.length == 0 then Err Invalid
    else if nat_lt e.size (h.offset + h.length) then Err Invalid
    else Ok (Status h.offset h.length (nat_le 8 h.flags))

-- The bytes of the command are within the export. A read is of at most 32 MiB, and a write is to a writable export.
abbrev pub IsWithin : ExportRecord → Command → Type 0
IsWithin e (Read offset length) = (offset + length ≤ e.size) × (length ≤ most_length)
IsWithin e (Write offset length fua) = (offset + length ≤ e.size) × IsTrue e.writable
IsWithin e (Zero offset length fua fast) = (offset + length ≤ e.size) × IsTrue e.writable
IsWithin e Hint = Unit {0}
IsWithin e (Cache offset length) = offset + length ≤ e.size
IsWithin e Flush = Unit {0}
IsWithin e (Status offset length one) = (offset + length ≤ e.size) × (0 < length)

-- a FLUSH, whose offset and length must be 0
abbrev pub flush_command : Header → Result Command RequestError
flush_command h = if (h.offset == 0) && (h.length == 0) then Ok Flush else Err Invalid

-- the command of a request, or its first fault
unfoldable pub command_of : ExportRecord → Agreement → Header → Result Command RequestError
command_of e a h =
    if not (has_offered a h) then Err Invalid
    else if h.kind == 0 then read_command e h
    else if h.kind == 1 then write_command e h
    else if h.kind == 3 then flush_command h
    else if h.kind == 4 then trim_command e h
    else if h.kind == 5 then cache_command e h
    else if h.kind == 6 then zero_command e h
    else if (h.kind == 7) && a.status then status_command e h
    else Err Invalid

-- the reply consists of chunks: structured replies are agreed on, and the request is a READ or a BLOCK_STATUS
abbrev pub is_chunked : Agreement → Header → Bool
is_chunked a h = a.structured && ((h.kind == 0) || (h.kind == 7))

-- how many bytes of payload follow the request
abbrev pub payload_len : Header → ℕ
payload_len h = if h.kind == 1 then h.length else 0

-- the number of an error in a reply
abbrev pub error_number : RequestError → ℕ
error_number NotPermitted = 1
error_number InputOutput = 5
error_number NoMemory = 12
error_number Invalid = 22
error_number NoSpace = 28
error_number NotSupported = 95

-- the error by which a fault of the stack is reported
abbrev pub error_of : IoFault → RequestError
error_of (io.Stack fault) = InputOutput
error_of (io.Device leaf) = InputOutput
error_of io.NoMemory = NoMemory
