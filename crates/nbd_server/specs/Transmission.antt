-- The transmission phase: the effect and the result of each request.
use Rattle.std.specs.Prelude.{◌≡◌, ◌⊎◌, ◌<◌, ◌≤◌, ℕ, ◌+◌, ◌-◌, ◌*◌, ◌/◌, ◌%◌, min, Bool, true, false, List, Vec, [], ◌∷◌, ◌++◌, length, take, drop, replicate, Result, Ok, Err, IfOk, Option, if◌then◌else◌}
use Rattle.std.specs.Global.{Global}
use Rattle.std.specs.Io.KnownBytes.{Consumes}
use Rattle.allocation.specs.Refusal.{IsOutOfMemory}
use Rattle.program_io.specs.Counted.{CountedRecord}
use Rattle.stack_meaning.specs.declared.fault.IoFault.{IoFault}
use Rattle.request_queue.specs.Parts.{EachPart}
use Rattle.request_queue.specs.World.{World, Step, sync}
use Rattle.nbd_protocol.specs.Exports.{ExportRecord, export_record}
use Rattle.nbd_protocol.specs.Headers.{command_of, most_length, payload_len}
use Rattle.nbd_protocol.specs.declared.phase.Agreement.{Agreement}
use Rattle.nbd_server.specs.Replies.{RequestOutcome}
use Rattle.nbd_server.specs.Status.{HasLineStatus, HasReadStatus, IsByteExtent, IsOtherKind, TouchIgnoring, TouchKind, touched}
use Rattle.nbd_server.specs.Extents.{most_runs}
use Rattle.nbd_server.specs.declared.extent.ExtentKind.TheVariants as known
use Rattle.nbd_server.specs.declared.status.ByteExtent.{ByteExtent}
use Rattle.nbd_server.specs.Sectors.{IsStoredAtOnce, FailsToPutAtOnce}
use Rattle.nbd_server.specs.Reads.{ReadsExport}
use Rattle.nbd_server.specs.Undivided.{AnswersRead}
use Rattle.nbd_server.specs.Prefetch.{ServesCache}
use Rattle.nbd_server.specs.Zeros.{IsStoredInRuns, FailsToPutInRuns}
use Rattle.nbd_protocol.specs.declared.header.Header.{Header}
use Rattle.nbd_protocol.specs.declared.header.Command.{Command}
use Rattle.nbd_protocol.specs.declared.header.Command.TheVariants.{Read, Write, Zero, Hint, Cache, Flush, Status}
use Rattle.nbd_protocol.specs.Streaming.{IsShort}
use Rattle.nbd_protocol.specs.declared.export.Export.{Export}
use Rattle.nbd_protocol.specs.declared.fault.ServiceFault.{ServiceFault}
use Rattle.nbd_server.specs.declared.byte_range.Ends.{Ends}
use Rattle.nbd_server.specs.declared.reply.Data.{Data}
use Rattle.nbd_protocol.specs.declared.request_error.RequestError.{RequestError}
use Rattle.nbd_protocol.specs.declared.request_error.RequestError.TheVariants.{NotSupported}
use Rattle.stack_rules.specs.Records.{Configuration}
use Rattle.nbd_server.specs.Failures.{no_memory, write_failure}
use Rattle.nbd_server.specs.declared.failure.Failure.{Failure}
use Rattle.nbd_server.specs.declared.failure.Failure.TheVariants.{Refused, Unsynced}

-- success without effect
abbrev pub Stays : World → RequestOutcome → World → Type 0
Stays w outcome w' = (outcome ≡ Ok []) × (w' ≡ w)

-- an error without effect
abbrev pub RefusesRequest : World → RequestError → RequestOutcome → World → Type 0
RefusesRequest w error outcome w' = (outcome ≡ Err (Refused error)) × (w' ≡ w)

-- ---- writes

-- how many bytes follow a byte range in the last sector that it touches
abbrev pub room_behind : ℕ → ℕ → ℕ
room_behind offset length = 512 * touched offset length - (offset % 512 + length)

-- the bytes before a byte range in its first sector and after it in its last sector were read
pub record ReadsEnds (e : ExportRecord) (w : World) (offset length : ℕ) (before behind : List ℕ) (w' : World) : Type 0 where
  pub mid : World
  pub first : ReadsExport e w (offset - offset % 512) (offset % 512) (Ok before) mid
  pub last : ReadsExport e mid (offset + length) (room_behind offset length) (Ok behind) w'

-- one of the two couldn't be read
abbrev pub FailsToReadEnds : ExportRecord → World → ℕ → ℕ → World → Failure → Type 0
FailsToReadEnds e w offset length w' error =
    ReadsExport e w (offset - offset % 512) (offset % 512) (Err error) w'
    ⊎ ((before : List ℕ) × (mid : World) × ReadsExport e w (offset - offset % 512) (offset % 512) (Ok before) mid
    × ReadsExport e mid (offset + length) (room_behind offset length) (Err error) w')

-- the sectors that a byte range touches: the new bytes, with what was read before and after them
pub record IsFramed (e : ExportRecord) (w : World) (offset : ℕ) (bytes sectors : List ℕ) (w' : World) : Type 0 where
  pub before : List ℕ
  pub behind : List ℕ
  pub ends : ReadsEnds e w offset (length bytes) before behind w'
  pub sectors_are : sectors ≡ before ++ (bytes ++ behind)

-- bytes of the export were written by one write of the queue of whole sectors
abbrev pub WritesAtOnce : ExportRecord → World → ℕ → List ℕ → RequestOutcome → World → Type 0
WritesAtOnce e w offset bytes (Ok content) w' =
    (content ≡ []) × (sectors : List ℕ) × (mid : World) × IsFramed e w offset bytes sectors mid × IsStoredAtOnce mid e.device (offset / 512) sectors w'
WritesAtOnce e w offset bytes (Err error) w' =
    FailsToReadEnds e w offset (length bytes) w' error
    ⊎ ((sectors : List ℕ) × (mid : World) × IsFramed e w offset bytes sectors mid × FailsToPutAtOnce mid e.device (offset / 512) sectors error w')

-- a write of no bytes does nothing
abbrev pub WritesPayload : ExportRecord → World → ℕ → List ℕ → RequestOutcome → World → Type 0
WritesPayload e w offset [] outcome w' = Stays w outcome w'
WritesPayload e w offset (byte ∷ more) outcome w' = WritesAtOnce e w offset (byte ∷ more) outcome w'

-- they were written so, but in runs
abbrev pub WritesByRuns : ExportRecord → World → ℕ → List ℕ → RequestOutcome → World → Type 0
WritesByRuns e w offset bytes (Ok content) w' =
    (content ≡ []) × (sectors : List ℕ) × (mid : World) × IsFramed e w offset bytes sectors mid × IsStoredInRuns mid e.device (offset / 512) sectors w'
WritesByRuns e w offset bytes (Err error) w' =
    FailsToReadEnds e w offset (length bytes) w' error
    ⊎ ((sectors : List ℕ) × (mid : World) × IsFramed e w offset bytes sectors mid × FailsToPutInRuns mid e.device (offset / 512) sectors error w')

-- a write of bytes that are written run by run
abbrev pub WritesAny : ExportRecord → World → ℕ → List ℕ → RequestOutcome → World → Type 0
WritesAny e w offset [] outcome w' = Stays w outcome w'
WritesAny e w offset (byte ∷ more) outcome w' = WritesByRuns e w offset (byte ∷ more) outcome w'

-- ---- flushes

-- all that was written so far is synced, or a backing device failed to sync
abbrev pub Flushes : World → RequestOutcome → World → Type 0
Flushes w (Ok content) w' = (content ≡ []) × Step EachPart w (sync (Ok tt)) w'
Flushes w (Err error) w' = (fault : IoFault) × (error ≡ Unsynced fault) × Step EachPart w (sync (Err fault)) w'

-- the outcome of a write that left the queue so
abbrev pub reported_outcome : World → RequestOutcome → RequestOutcome
reported_outcome w' (Ok content) = Ok content
reported_outcome w' (Err error) = Err (write_failure w'.stack.leaves error)

-- with FUA a sync follows
abbrev pub Settles : Bool → (RequestOutcome → World → Type 0) → RequestOutcome → World → Type 0
Settles false Does outcome w' = Does outcome w'
Settles true Does (Ok content) w' = (mid : World) × Does (Ok []) mid × Flushes mid (Ok content) w'
Settles true Does (Err error) w' = Does (Err error) w' ⊎ ((mid : World) × Does (Ok []) mid × Flushes mid (Err error) w')

-- a write ended so, but that a leaf that lacked space is reported
abbrev pub ReportsSpace : (RequestOutcome → World → Type 0) → RequestOutcome → World → Type 0
ReportsSpace Does outcome w' = (met : RequestOutcome) × Does met w' × (outcome ≡ reported_outcome w' met)

-- a WRITE_ZEROES: a write of zeros, run by run
abbrev pub ServesZero : ExportRecord → World → ℕ → ℕ → Bool → RequestOutcome → World → Type 0
ServesZero e w offset length fua outcome w' = Settles fua (ReportsSpace (WritesAny e w offset (replicate length 0))) outcome w'

-- each sector that a byte range touches is on `zero` lines
abbrev pub AreOnZeroLines : Configuration → ExportRecord → ℕ → ℕ → Type 0
AreOnZeroLines c e offset length = (length ≡ 0) ⊎ TouchKind c e known.Zeros offset length

-- a byte of a byte range is on another line, or so many runs come before it that it isn't known
abbrev pub HasSlowByte : Configuration → ExportRecord → ℕ → ℕ → Type 0
HasSlowByte c e offset length =
    (at : ℕ) × (offset ≤ at) × (at < offset + length) × (IsOtherKind c e known.Zeros at ⊎ (offset / 512 + most_runs ≤ at / 512))

-- whether zeros of a byte range take no write
abbrev pub IsFast : Configuration → ExportRecord → ℕ → ℕ → Bool → Type 0
IsFast c e offset length true = AreOnZeroLines c e offset length
IsFast c e offset length false = HasSlowByte c e offset length

-- a WRITE_ZEROES with FAST_ZERO: it isn't supported, and nothing is written, unless the bytes are on `zero` lines
abbrev pub ServesFastZero : ExportRecord → World → ℕ → ℕ → Bool → RequestOutcome → World → Type 0
ServesFastZero e w offset length fua outcome w' =
    (ServesZero e w offset length fua outcome w' × AreOnZeroLines w.stack.config e offset length)
    ⊎ (RefusesRequest w NotSupported outcome w' × HasSlowByte w.stack.config e offset length)

-- ---- block status

-- how many bytes from an offset on are read for a status at most: up to a multiple of 256 KiB, or of 64 KiB for one extent
abbrev pub most_look : ℕ → Bool → ℕ
most_look offset one = if one then 65536 - offset % 65536 else 262144 - offset % 262144

-- The first of `count` bytes on verity lines that ignore blocks of zeros were read with that outcome.
pub record ReadsIgnoring (e : ExportRecord) (w : World) (offset count : ℕ) (one : Bool) (size : ℕ) (outcome : RequestOutcome) (w' : World) : Type 0 where
  pub value : size ≡ min (most_look offset one) count
  pub ignoring : TouchIgnoring w.stack.config e offset size
  pub reads : ReadsExport e w offset size outcome w'

-- the status of bytes that were read: zeros are reported for blocks that were read as zeros, and data for bytes that couldn't be
-- read
pub record ReadsStatus (e : ExportRecord) (w : World) (offset count : ℕ) (one : Bool) (told : List ℕ) (w' : World) : Type 0 where
  pub size : ℕ
  pub outcome : RequestOutcome
  pub reads : ReadsIgnoring e w offset count one size outcome w'
  pub status : HasReadStatus outcome offset size one told

-- the status of a byte range that begins on lines that ignore blocks of zeros: of the extent on these lines
pub record TellsIgnoring (e : ExportRecord) (w : World) (offset count : ℕ) (one : Bool) (told : List ℕ) (w' : World) : Type 0 where
  pub extent : ByteExtent
  pub is : IsByteExtent w.stack.config e most_runs offset count extent
  pub kind : extent.kind ≡ known.IgnoresZeros
  pub reads : ReadsStatus e w offset extent.count one told w'

-- the status of a byte range that begins on other lines: by the lines alone, and nothing is read
pub record TellsByLines (e : ExportRecord) (w : World) (offset count : ℕ) (one : Bool) (told : List ℕ) (w' : World) : Type 0 where
  pub other : IsOtherKind w.stack.config e known.IgnoresZeros offset
  pub status : HasLineStatus w.stack.config e offset count one told
  pub same : w' ≡ w

abbrev pub TellsExtents : ExportRecord → World → ℕ → ℕ → Bool → List ℕ → World → Type 0
TellsExtents e w offset count one told w' = TellsByLines e w offset count one told w' ⊎ TellsIgnoring e w offset count one told w'

-- the status of a byte range, in memory
abbrev pub AreExtentsTold : ExportRecord → World → ℕ → ℕ → Bool → World → Vec ℕ Global → Type 0
AreExtentsTold e w offset count one w' told = TellsExtents e w offset count one told.items w'

abbrev pub IsStatusRead : ExportRecord → World → ℕ → ℕ → Bool → World → Vec ℕ Global → Type 0
IsStatusRead e w offset count one w' told = ReadsStatus e w offset count one told.items w'

-- nothing was read, or the first bytes of an extent on such lines were read
abbrev pub StaysOrReads : ExportRecord → World → ℕ → ℕ → Bool → World → Type 0
StaysOrReads e w offset count one w' = (w' ≡ w) ⊎ ((part : ℕ) × (size : ℕ) × (outcome : RequestOutcome) × (part ≤ count) × ReadsIgnoring e w offset part one size outcome w')

-- a BLOCK_STATUS: the status, or an allocation of the four bytes of a number was refused
abbrev pub TellsStatus : ExportRecord → World → ℕ → ℕ → Bool → RequestOutcome → World → Type 0
TellsStatus e w offset count one (Ok told) w' = TellsExtents e w offset count one told w'
TellsStatus e w offset count one (Err error) w' = (error ≡ no_memory) × StaysOrReads e w offset count one w' × IsOutOfMemory 4

-- ---- requests

-- the allocation of the sectors that a byte range touches was refused, and nothing was done
abbrev pub LacksSectors : World → ℕ → List ℕ → RequestOutcome → World → Type 0
LacksSectors w offset bytes outcome w' = (outcome ≡ Err no_memory) × (w' ≡ w) × IsOutOfMemory (512 * touched offset (length bytes))

-- a WRITE of the payload that follows the request
abbrev pub WritesGiven : ExportRecord → World → ℕ → List ℕ → RequestOutcome → World → Type 0
WritesGiven e w offset bytes outcome w' = LacksSectors w offset bytes outcome w' ⊎ WritesPayload e w offset bytes outcome w'

-- The effect and the result of a command. A request with a fault has no effect.
abbrev pub ServesCommand : ExportRecord → World → Result Command RequestError → List ℕ → RequestOutcome → World → Type 0
ServesCommand e w (Err error) payload outcome w' = RefusesRequest w error outcome w'
ServesCommand e w (Ok (Read offset length)) payload outcome w' = AnswersRead e w offset length outcome w'
ServesCommand e w (Ok (Write offset length fua)) payload outcome w' = Settles fua (ReportsSpace (WritesGiven e w offset payload)) outcome w'
ServesCommand e w (Ok (Zero offset length fua false)) payload outcome w' = ServesZero e w offset length fua outcome w'
ServesCommand e w (Ok (Zero offset length fua true)) payload outcome w' = ServesFastZero e w offset length fua outcome w'
ServesCommand e w (Ok Hint) payload outcome w' = Stays w outcome w'
ServesCommand e w (Ok (Cache offset length)) payload outcome w' = ServesCache e w offset length outcome w'
ServesCommand e w (Ok Flush) payload outcome w' = Flushes w outcome w'
ServesCommand e w (Ok (Status offset length one)) payload outcome w' = TellsStatus e w offset length one outcome w'

-- the effect and the result of a request
abbrev pub ServesRequest : ExportRecord → Agreement → World → Header → List ℕ → RequestOutcome → World → Type 0
ServesRequest e a w h payload outcome w' = ServesCommand e w (command_of e a h) payload outcome w'

-- the part of a buffer that is the payload
abbrev pub reply_data : Data → List ℕ
reply_data d = take d.length (drop d.start d.bytes.items)

-- the bytes before and after a byte range were read, as parts of buffers
abbrev pub AreEndsRead : ExportRecord → World → ℕ → ℕ → World → Ends → Type 0
AreEndsRead e w offset length w' ends = ReadsEnds e w offset length (reply_data ends.before) (reply_data ends.behind) w'

abbrev pub data_outcome : Result Data Failure → RequestOutcome
data_outcome (Ok d) = Ok (reply_data d)
data_outcome (Err error) = Err error

-- a write returns no bytes
abbrev pub no_bytes : Result Unit Failure → RequestOutcome
no_bytes (Ok done) = Ok []
no_bytes (Err error) = Err error

-- the part is within the buffer
abbrev pub IsPartInside : Result Data Failure → Type 0
IsPartInside outcome = IfOk outcome (λ d. d.start + d.length ≤ length d.bytes.items)

-- the part is within the buffer, and no longer than a request allows
pub record IsPart (d : Data) : Type 0 where
  pub inside : d.start + d.length ≤ length d.bytes.items
  pub few : d.length ≤ most_length

abbrev pub IsSendable : Result Data Failure → Type 0
IsSendable outcome = IfOk outcome IsPart

-- the payload of a request was received, and the request was served
pub record IsTakenAndServed (e : ExportRecord) (a : Agreement) (w : World) (h : Header) (old new : Option (List ℕ)) (outcome : Result Data Failure) (w' : World) : Type 0 where
  pub payload : List ℕ
  pub size : length payload ≡ payload_len h
  pub consumed : Consumes old new payload
  pub serves : ServesRequest e a w h payload (data_outcome outcome) w'
  pub inside : IsSendable outcome

-- the payload of a request was received from a reader, and the request was served
abbrev pub Handles : {R : Type 0} → (R → Option (List ℕ)) → CountedRecord R → CountedRecord R → Export → Agreement → Header → World → World → Result Data Failure → Type 0
Handles remaining old new export a h w w' outcome = IsTakenAndServed (export_record export) a w h (remaining old.inner) (remaining new.inner) outcome w'

-- fewer bytes than the payload were received, and nothing was done
abbrev pub FallsShort : {R : Type 0} → (R → Option (List ℕ)) → CountedRecord R → CountedRecord R → ℕ → World → World → ServiceFault → Type 0
FallsShort remaining old new count w w' fault = IsShort count (remaining old.inner) (remaining new.inner) fault × (w' ≡ w)
