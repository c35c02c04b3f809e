-- Reads and writes at once: their pieces, and how each of them ends.
use Rattle.std.specs.Prelude.{◌≡◌, ℕ, ◌+◌, ◌-◌, ◌*◌, ◌/◌, ◌%◌, ◌<◌, ◌≤◌, IsTrue, List, [], ◌++◌, length, Option, Some, None, Result, Ok, Err}
use Rattle.alignment.specs.Lengths.{aligned_len}
use Rattle.stack_rules.specs.Names.{mapped, may_write}
use Rattle.stack_rules.specs.Records.{Configuration}
use Rattle.stack_meaning.specs.declared.fault.IoFault.{IoFault}
use Rattle.stack_lines.specs.Budgets.{ReadsAtMost}
use Rattle.stack_engine.specs.Bytes.{EachBytes}
use Rattle.stack_engine.specs.KeptBlocks.{ReadKeeps}
use Rattle.stack_engine.specs.Pieces.{piece_budget}
use Rattle.stack_engine.specs.Stacks.{StackRecord}
use Rattle.stack_engine.specs.WritePieces.{PieceNeeded, PieceWrote}
use Rattle.request_queue.specs.declared.fault.BytesFault.{BytesFault}
use Rattle.request_queue.specs.declared.fault.BytesFault.TheVariants.{Refused, Failed}
use Rattle.request_queue.specs.declared.fault.PieceFault.{PieceFault}
use Rattle.request_queue.specs.declared.fault.SubmitFault.{SubmitFault}
use Rattle.request_queue.specs.declared.range.SectorRange.{SectorRange}
use Rattle.request_queue.specs.Flights.{FlightRecord}
use Rattle.request_queue.specs.Parts.{EachPart}
use Rattle.request_queue.specs.Ranges.{HaveSectors, bytes_range, most_piece, most_read, range_at}
use Rattle.request_queue.specs.Replies.{bytes_given, piece_ending}
use Rattle.request_queue.specs.Requests.{writable_sectors}
use Rattle.request_queue.specs.WholeRuns.{WritesWhole}
use Rattle.request_queue.specs.World.{World, world, Step, write_piece}

-- the sectors of these bytes of mapped device d, from the first on, or the first reason why they aren't written
abbrev pub write_range : Configuration → ℕ → ℕ → List ℕ → Result SectorRange SubmitFault
write_range c d first bytes = writable_sectors c bytes (bytes_range c d first (length bytes))

-- How many bytes the next piece of at most so many sectors has, of those that are left of sectors of mapped device d, from the
-- first on: it splits no unit and no data block that can be read or written in one piece.
pub record IsNextPiece (most : ℕ) (c : Configuration) (d first left n : ℕ) : Type 0 where
  pub value : n ≡ 512 * aligned_len c d first (left / 512) most
  pub whole : n % 512 ≡ 0
  pub some : 512 ≤ n
  pub few : n ≤ 512 * most
  pub inside : n ≤ left

-- bytes of whole sectors inside mapped device d, which may be written
pub record CanBeWritten (c : Configuration) (d first : ℕ) (bytes : List ℕ) : Type 0 where
  pub sectors : HaveSectors c d first (length bytes)
  pub allowed : IsTrue (may_write c (mapped d))

-- the sector of a range after these bytes, and how many bytes of the range follow them
abbrev pub sector_after : SectorRange → List ℕ → ℕ
sector_after range bytes = range.first + length bytes / 512

abbrev pub bytes_after : SectorRange → List ℕ → ℕ
bytes_after range bytes = 512 * range.count - length bytes

-- ---- reads

-- The next piece of a read, of so many bytes that are left from the first sector of mapped device d on, ended so. It reads no
-- more than its units and data blocks cost, each of them once.
pub record PieceRead (v : StackRecord) (d first left : ℕ) (answer : Result (List ℕ) IoFault) (v' : StackRecord) : Type 0 where
  pub size : ℕ
  pub next : IsNextPiece most_read v.config d first left size
  pub each : EachBytes v d first (size / 512) answer v'
  pub spent : ReadsAtMost (piece_budget v d first (size / 512)) v.leaves v'.leaves

-- The next piece of the read of a range, after these bytes, ended by its fault.
pub record PieceFails (v : StackRecord) (range : SectorRange) (before : List ℕ) (piece : PieceFault) (v' : StackRecord) : Type 0 where
  pub first : piece.first ≡ sector_after range before
  pub next : IsNextPiece most_read v.config range.device.0 piece.first (bytes_after range before) (512 * piece.count)
  pub each : EachBytes v range.device.0 piece.first piece.count (Err piece.fault) v'
  pub spent : ReadsAtMost (piece_budget v range.device.0 piece.first piece.count) v.leaves v'.leaves

-- A range is read piece by piece, each from where the one before it ended, up to the last one or the first that ends by a fault.
pub data ReadsInTurn (range : SectorRange) (w : StackRecord) : Result (List ℕ) IoFault → StackRecord → Type 0 where
  no_read : ReadsInTurn range w (Ok []) w
  a_read : {x y : List ℕ} {v w' : StackRecord} → ReadsInTurn range w (Ok x) v → PieceRead v range.device.0 (sector_after range x) (bytes_after range x) (Ok y) w' → ReadsInTurn range w (Ok (x ++ y)) w'
  last_read : {x : List ℕ} {v w' : StackRecord} (piece : PieceFault) → ReadsInTurn range w (Ok x) v → PieceFails v range x piece w' → ReadsInTurn range w (Err piece.fault) w'

-- the piece at which it ended
abbrev pub failed_read : {range : SectorRange} {w : StackRecord} {answer : Result (List ℕ) IoFault} {w' : StackRecord} → ReadsInTurn range w answer w' → Option PieceFault
failed_read no_read = None
failed_read (a_read before read) = None
failed_read (last_read piece before fails) = Some piece

-- a piece has sectors, which are some of a range
pub record IsPieceOf (range : SectorRange) (piece : PieceFault) : Type 0 where
  pub from : range.first ≤ piece.first
  pub some : 0 < piece.count
  pub inside : piece.first + piece.count ≤ range.first + range.count

-- the read of a range ended so, and if by a fault, with that piece
abbrev pub EndsRead : SectorRange → StackRecord → Result (List ℕ) PieceFault → StackRecord → Type 0
EndsRead range v (Ok bytes) v' = ReadsInTurn range v (Ok bytes) v'
EndsRead range v (Err piece) v' = (turns : ReadsInTurn range v (Err piece.fault) v') × (failed_read turns ≡ Some piece)

-- a range was read: what that is as a whole, what it leaves of the kept hash blocks, and its pieces
pub record IsRangeRead (v : StackRecord) (range : SectorRange) (answer : Result (List ℕ) PieceFault) (v' : StackRecord) : Type 0 where
  pub each : EachBytes v range.device.0 range.first range.count (bytes_given answer) v'
  pub kept : ReadKeeps v range.device.0 range.first range.count v'
  pub pieces : EndsRead range v answer v'

-- so many bytes of mapped device d, from the first sector on, are read so, unless their read is refused
abbrev pub ReadsInPieces : World → ℕ → ℕ → ℕ → Result (List ℕ) BytesFault → World → Type 0
ReadsInPieces w d first bytes (Ok got) w' = EndsRead (range_at d first (bytes / 512)) w.stack (Ok got) w'.stack
ReadsInPieces w d first bytes (Err (Failed piece)) w' = EndsRead (range_at d first (bytes / 512)) w.stack (Err piece) w'.stack
ReadsInPieces w d first bytes (Err (Refused fault)) w' = w'.stack ≡ w.stack

-- ---- writes

-- A piece of n bytes is the next one of a write, of so many bytes that are left from the first sector of mapped device d on. It
-- writes no more than its units cost, each of them once, and reads no more than those that it splits.
pub record IsNextWrite (v : StackRecord) (d first left n : ℕ) (v' : StackRecord) : Type 0 where
  pub next : IsNextPiece most_piece v.config d first left n
  pub wrote : PieceWrote v d first (n / 512) v'
  pub needed : PieceNeeded v d first (n / 512) v'

-- Steps that write these bytes to a range piece by piece, each from where the one before it ended, up to the last one or the
-- first that ends by a fault; the bytes after that one aren't written.
pub data WritesInSteps (range : SectorRange) (w : World) : List ℕ → Result Unit IoFault → World → Type 0 where
  no_step : WritesInSteps range w [] (Ok tt) w
  a_step : {x y : List ℕ} {v w' : World} → WritesInSteps range w x (Ok tt) v → IsNextWrite v.stack range.device.0 (sector_after range x) (bytes_after range x) (length y) w'.stack
      → Step EachPart v (write_piece range.device.0 (sector_after range x) y (Ok tt)) w' → WritesInSteps range w (x ++ y) (Ok tt) w'
  last_step : {x y : List ℕ} {v w' : World} {fault : IoFault} (z : List ℕ) → WritesInSteps range w x (Ok tt) v → IsNextWrite v.stack range.device.0 (sector_after range x) (bytes_after range x) (length y) w'.stack
      → Step EachPart v (write_piece range.device.0 (sector_after range x) y (Err fault)) w' → WritesInSteps range w (x ++ (y ++ z)) (Err fault) w'

-- the piece at which they ended
abbrev pub failed_write : {range : SectorRange} {w : World} {bytes : List ℕ} {result : Result Unit IoFault} {w' : World} → WritesInSteps range w bytes result w' → Option PieceFault
failed_write no_step = None
failed_write (a_step before write step) = None
failed_write {range = range} (last_step {x = x} {y = y} {fault = fault} z before write step) = Some (record { first = sector_after range x; count = length y / 512; fault = fault })

-- the write of these bytes to a range ended so, and if by a fault, with that piece
abbrev pub EndsSteps : SectorRange → World → List ℕ → Result Unit PieceFault → World → Type 0
EndsSteps range w bytes (Ok done) w' = WritesInSteps range w bytes (Ok tt) w'
EndsSteps range w bytes (Err piece) w' = (steps : WritesInSteps range w bytes (Err piece.fault) w') × (failed_write steps ≡ Some piece)

abbrev pub EndsWrite : SectorRange → StackRecord → List ℕ → Result Unit PieceFault → StackRecord → Type 0
EndsWrite range v bytes result v' = (given : ℕ) (fs : List FlightRecord) → EndsSteps range (world v given fs) bytes result (world v' given fs)

-- steps that write these bytes to a range of a stack, whatever requests are in flight over it
abbrev pub WritesBeside : SectorRange → StackRecord → List ℕ → Result Unit IoFault → StackRecord → Type 0
WritesBeside range v bytes result v' = (given : ℕ) (fs : List FlightRecord) → WritesInSteps range (world v given fs) bytes result (world v' given fs)

-- these bytes were written to mapped device d from the first sector on: what that is as a whole, and its steps
pub record BytesWritten (w : World) (d first : ℕ) (bytes : List ℕ) (result : Result Unit PieceFault) (w' : World) : Type 0 where
  pub range : SectorRange
  pub admits : write_range w.stack.config d first bytes ≡ Ok range
  pub whole : WritesWhole w.stack range bytes (piece_ending result) w'.stack
  pub steps : EndsSteps range w bytes result w'

-- they were written, or that ended in a fault, or was refused
abbrev pub WritesBytes : World → ℕ → ℕ → List ℕ → Result Unit BytesFault → World → Type 0
WritesBytes w d first bytes (Ok done) w' = BytesWritten w d first bytes (Ok tt) w'
WritesBytes w d first bytes (Err (Failed piece)) w' = BytesWritten w d first bytes (Err piece) w'
WritesBytes w d first bytes (Err (Refused fault)) w' = (write_range w.stack.config d first bytes ≡ Err fault) × (w' ≡ w)
