-- A READ whose reply is sent piece by piece: each piece is sent as soon as it is read (the protocol's document, "Structured
-- reply types": OFFSET_DATA, OFFSET_HOLE and ERROR_OFFSET).
use Rattle.std.specs.Prelude.{◌≡◌, ◌⊎◌, ◌<◌, ◌≤◌, ℕ, ◌+◌, ◌-◌, ◌*◌, ◌/◌, ◌%◌, ◌==◌, ◌&&◌, min, Bool, true, not, nat_lt, List, [], ◌++◌, Option, Some, None, Result, Ok, Err, if◌then◌else◌}
use mathlib.Core.Logic.{inl, inr}
use Rattle.std.specs.Io.KnownBytes.{Appends}
use Rattle.program_io.specs.Counted.{CountedRecord, Grows}
use Rattle.alignment.specs.Lengths.{aligned_len}
use Rattle.stack_rules.specs.Records.{Configuration}
use Rattle.request_queue.specs.World.{World}
use Rattle.nbd_protocol.specs.Exports.{ExportRecord, export_record}
use Rattle.nbd_protocol.specs.Headers.{command_of, is_chunked}
use Rattle.nbd_protocol.specs.declared.header.Command.{Command}
use Rattle.nbd_protocol.specs.declared.header.Command.TheVariants.{Read}
use Rattle.nbd_protocol.specs.declared.header.Header.{Header}
use Rattle.nbd_protocol.specs.declared.phase.Agreement.{Agreement}
use Rattle.nbd_protocol.specs.declared.request_error.RequestError.{RequestError}
use Rattle.nbd_protocol.specs.declared.export.Export.{Export}
use Rattle.nbd_protocol.specs.Chunks.{error_at_chunk, hole_chunk}
use Rattle.nbd_server.specs.Content.{TellsContent}
use Rattle.nbd_server.specs.Status.{IsLineStatus, IsOtherKind, TouchZeros, touched}
use Rattle.nbd_server.specs.declared.extent.ExtentKind.TheVariants as known
use Rattle.nbd_server.specs.Failures.{failure_text, fault_of, reported_error}
use Rattle.nbd_server.specs.declared.failure.Failure.{Failure}
use Rattle.nbd_server.specs.declared.known_faults.SectorFault.{SectorFault}
use Rattle.nbd_server.specs.Reads.{ReadsExport}
use Rattle.nbd_server.specs.declared.delivery.Delivery.{Delivery}
use Rattle.nbd_server.specs.declared.progress.Progress.{Progress}

-- ---- which requests are answered so

-- the flag DF: the client wants the bytes in one chunk
abbrev pub has_df : Header → Bool
has_df h = h.flags / 4 % 2 == 1

abbrev pub delivery : ℕ → ℕ → ℕ → Delivery
delivery cookie offset count = record { cookie = cookie; offset = offset; count = count }

-- the byte range of a READ of at least one byte
abbrev pub bytes_asked : ℕ → Result Command RequestError → Option Delivery
bytes_asked cookie (Ok (Read offset count)) = if nat_lt 0 count then Some (delivery cookie offset count) else None
bytes_asked cookie other = None

-- A READ is answered piece by piece if it is valid and of at least one byte, has no DF, and structured replies are agreed on.
abbrev pub delivery_of : ExportRecord → Agreement → Header → Option Delivery
delivery_of e a h = if is_chunked a h && not (has_df h) then bytes_asked h.cookie (command_of e a h) else None

-- ---- one piece

-- the most sectors that a piece touches, and their bytes: 1 MiB
abbrev pub most_piece_sectors : ℕ
most_piece_sectors = 2048

abbrev pub most_piece_bytes : ℕ
most_piece_bytes = 1048576

-- the most sectors that a piece touches if a larger one couldn't be read: those of 4,096 bytes
abbrev pub few_sectors : ℕ
few_sectors = 8

-- the most sectors that the next piece touches: one before byte `single`, and a few before byte `slow`
abbrev pub next_most : Progress → ℕ
next_most p = if nat_lt p.done p.single then 1 else (if nat_lt p.done p.slow then few_sectors else most_piece_sectors)

-- How many sectors the next piece touches, of those that `left` bytes of a device from byte `at` on touch. The last of them ends
-- each unit and data block in which it lies, if one of the most sectors does.
abbrev pub piece_sectors : Configuration → ℕ → ℕ → ℕ → ℕ → ℕ
piece_sectors c device at left most = aligned_len c device (at / 512) (touched at left) most

-- The size of the next piece: up to the end of these sectors, or to the end of the READ.
abbrev pub next_size : Configuration → ℕ → Delivery → Progress → ℕ
next_size c device d p = min (512 * piece_sectors c device (d.offset + p.done) (d.count - p.done) (next_most p) - (d.offset + p.done) % 512) (d.count - p.done)

-- some bytes after those that are answered
pub record AreNextBytes (d : Delivery) (p : Progress) (size : ℕ) : Type 0 where
  pub some : 0 < size
  pub few : size ≤ most_piece_bytes
  pub inside : p.done + size ≤ d.count

-- the next piece of a READ of a device, and within which bounds it is
pub record IsDeliveryPiece (c : Configuration) (device : ℕ) (d : Delivery) (p : Progress) (size : ℕ) : Type 0 where
  pub value : size ≡ next_size c device d p
  pub bytes : AreNextBytes d p size
  pub small : touched (d.offset + p.done) size ≤ next_most p

-- a piece that is read: it doesn't begin on `zero` lines
pub record IsReadPiece (c : Configuration) (e : ExportRecord) (d : Delivery) (p : Progress) (size : ℕ) : Type 0 where
  pub next : IsDeliveryPiece c e.device d p size
  pub other : IsOtherKind c e known.Zeros (d.offset + p.done)

-- the progress after a piece of that size was answered
abbrev pub progress_after : Progress → ℕ → Progress
progress_after p size = record { done = p.done + size; slow = p.slow; single = p.single }

-- the progress after a piece of that size, which touches so many sectors, couldn't be read: its bytes are read again by pieces
-- of a few sectors, or, if it touches no more, by single sectors
abbrev pub progress_again : Progress → ℕ → ℕ → Progress
progress_again p size sectors =
    if nat_lt few_sectors sectors then record { done = p.done; slow = p.done + size; single = p.single } else record { done = p.done; slow = p.slow; single = p.done + size }

-- The next piece lies in several sectors and couldn't be read. Its bytes are read again by smaller pieces.
pub record IsReadAgain (e : ExportRecord) (d : Delivery) (p : Progress) (w : World) (next : Progress) (w' : World) : Type 0 where
  pub size : ℕ
  pub error : Failure
  pub piece : IsDeliveryPiece w.stack.config e.device d p size
  pub several : 1 < touched (d.offset + p.done) size
  pub reads : ReadsExport e w (d.offset + p.done) size (Err error) w'
  pub next_is : next ≡ progress_again p size (touched (d.offset + p.done) size)

-- the next piece lies in one sector, which couldn't be read
pub record IsSectorLost (e : ExportRecord) (d : Delivery) (p : Progress) (w : World) (w' : World) (error : Failure) : Type 0 where
  pub size : ℕ
  pub piece : IsDeliveryPiece w.stack.config e.device d p size
  pub one : touched (d.offset + p.done) size ≡ 1
  pub reads : ReadsExport e w (d.offset + p.done) size (Err error) w'

-- the first n of `left` bytes from an offset on are an extent on `zero` lines
abbrev pub BeginsWithZeros : Configuration → ExportRecord → ℕ → ℕ → ℕ → Type 0
BeginsWithZeros c e at left n = IsLineStatus c e at at left (record { count = n; zeros = true })

-- The piece was read and is sent as a hole, data and a hole at most. The last chunk says whether it is the last of the reply.
pub record IsSent (e : ExportRecord) (d : Delivery) (p : Progress) (w : World) (chunk : List ℕ) (next : Progress) (w' : World) : Type 0 where
  pub size : ℕ
  pub content : List ℕ
  pub piece : IsReadPiece w.stack.config e d p size
  pub reads : ReadsExport e w (d.offset + p.done) size (Ok content) w'
  pub told : TellsContent d.cookie (p.done + size == d.count) (d.offset + p.done) content chunk
  pub next_is : next ≡ progress_after p size

-- nothing is sent of a piece that is read again
pub record IsPutOff (e : ExportRecord) (d : Delivery) (p : Progress) (w : World) (chunk : List ℕ) (next : Progress) (w' : World) : Type 0 where
  pub other : IsOtherKind w.stack.config e known.Zeros (d.offset + p.done)
  pub again : IsReadAgain e d p w next w'
  pub silent : chunk ≡ []

-- The last chunk reports the error of a sector that couldn't be read, and the piece's offset.
pub record IsLost (e : ExportRecord) (d : Delivery) (p : Progress) (w : World) (chunk : List ℕ) (w' : World) : Type 0 where
  pub error : Failure
  pub other : IsOtherKind w.stack.config e known.Zeros (d.offset + p.done)
  pub sector : IsSectorLost e d p w w' error
  pub chunk_is : chunk ≡ error_at_chunk d.cookie (d.offset + p.done) (reported_error error) (failure_text error)

-- The first bytes of the piece are on `zero` lines, so they are zeros whatever the backing devices hold. Nothing is read, and a
-- hole of all of them is sent.
pub record IsHole (e : ExportRecord) (d : Delivery) (p : Progress) (w : World) (chunk : List ℕ) (next : Progress) (w' : World) : Type 0 where
  pub size : ℕ
  pub bytes : AreNextBytes d p size
  pub front : size ≤ next_size w.stack.config e.device d p
  pub zeros : TouchZeros w.stack.config e (d.offset + p.done) size
  pub status : BeginsWithZeros w.stack.config e (d.offset + p.done) (next_size w.stack.config e.device d p) size
  pub chunk_is : chunk ≡ hole_chunk (p.done + size == d.count) d.cookie (d.offset + p.done) size
  pub next_is : next ≡ progress_after p size
  pub same : w' ≡ w

-- a piece after which the reply goes on
abbrev pub GoesOnReplying : ExportRecord → Delivery → Progress → World → List ℕ → Progress → World → Type 0
GoesOnReplying e d p w chunk next w' = IsSent e d p w chunk next w' ⊎ (IsPutOff e d p w chunk next w' ⊎ IsHole e d p w chunk next w')

-- The result of a piece whose chunks were written: the progress of the reply, or the error of the lost sector at which it ended.
abbrev pub AnswersPiece : ExportRecord → Delivery → Progress → World → World → Option (List ℕ) → Option (List ℕ) → Result Progress Failure → Type 0
AnswersPiece e d p w w' old new (Ok next) = (chunk : List ℕ) × GoesOnReplying e d p w chunk next w' × Appends old new chunk
AnswersPiece e d p w w' old new (Err error) = (chunk : List ℕ) × (lost : IsLost e d p w chunk w') × (lost.error ≡ error) × Appends old new chunk

-- the result of a piece of an export whose chunks were written to a writer
abbrev pub WritesPiece : {W : Type 0} → (W → Option (List ℕ)) → CountedRecord W → CountedRecord W → Export → Delivery → Progress → World → World → Result Progress Failure → Type 0
WritesPiece contents old new export d p w w' next = AnswersPiece (export_record export) d p w w' (contents old.inner) (contents new.inner) next

-- what a piece did if the writer failed in its chunks
abbrev pub SendsPiece : ExportRecord → Delivery → Progress → World → World → Type 0
SendsPiece e d p w w' = ((chunk : List ℕ) × (next : Progress) × GoesOnReplying e d p w chunk next w') ⊎ ((chunk : List ℕ) × IsLost e d p w chunk w')

-- ---- the reply

abbrev pub at_first : Progress
at_first = record { done = 0; slow = 0; single = 0 }

-- a sequence of pieces from the first byte on, and their chunks
pub data Delivers (e : ExportRecord) (d : Delivery) (first : World) : Progress → World → List ℕ → Type 0 where
  delivers_none : Delivers e d first at_first first []
  delivers_more : {p next : Progress} {w w' : World} {written : List ℕ} (chunk : List ℕ) → Delivers e d first p w written → GoesOnReplying e d p w chunk next w'
      → Delivers e d first next w' (written ++ chunk)

-- the reply carries all of the bytes
pub record DeliversAll (e : ExportRecord) (d : Delivery) (w : World) (reply : List ℕ) (w' : World) : Type 0 where
  pub last : Progress
  pub pieces : Delivers e d w last w' reply
  pub all : last.done ≡ d.count

-- the reply carries the bytes before the first sector that can't be read, then the error; no byte of that sector is sent
pub record DeliversPart (e : ExportRecord) (d : Delivery) (w : World) (reply : List ℕ) (w' : World) : Type 0 where
  pub last : Progress
  pub mid : World
  pub written : List ℕ
  pub chunk : List ℕ
  pub pieces : Delivers e d w last mid written
  pub lost : IsLost e d last mid chunk w'
  pub reply_is : reply ≡ written ++ chunk

abbrev pub IsDelivered : ExportRecord → Delivery → World → List ℕ → World → Type 0
IsDelivered e d w reply w' = DeliversAll e d w reply w' ⊎ DeliversPart e d w reply w'

-- the fault that the reply reports as an input/output error, with the sector of the piece that can't be read
abbrev pub delivery_fault : (e : ExportRecord) → (d : Delivery) → (w : World) → (reply : List ℕ) → (w' : World) → IsDelivered e d w reply w' → Option SectorFault
delivery_fault e d w reply w' (inl whole) = None
delivery_fault e d w reply w' (inr part) = fault_of part.lost.error

-- a reply that reports that fault, or none
abbrev pub DeliversAs : ExportRecord → Delivery → World → Option SectorFault → List ℕ → World → Type 0
DeliversAs e d w met reply w' = (told : IsDelivered e d w reply w') × (met ≡ delivery_fault e d w reply w' told)

-- the reply was written
abbrev pub WritesDelivery : {W : Type 0} → (W → Option (List ℕ)) → CountedRecord W → CountedRecord W → Export → Delivery → World → World → Option SectorFault → Type 0
WritesDelivery contents old new export d w w' met = Grows (contents old.inner) (contents new.inner) (λ reply. DeliversAs (export_record export) d w met reply w')

-- the reply began: some pieces were read
pub record IsBegun (e : ExportRecord) (d : Delivery) (w w' : World) : Type 0 where
  pub last : Progress
  pub written : List ℕ
  pub pieces : Delivers e d w last w' written

-- what was read if the writer failed in the reply: a part of the pieces, or all
abbrev pub IsStuck : ExportRecord → Delivery → World → World → Type 0
IsStuck e d w w' = IsBegun e d w w' ⊎ ((reply : List ℕ) × IsDelivered e d w reply w')
