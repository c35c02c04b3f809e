-- Which calls on the leaves' devices the pieces of requests make, whatever the devices answer: those of each piece in order, and
-- none after the piece that ends by a fault.
use Rattle.std.specs.Prelude.{◌≡◌, ◌⊎◌, ℕ, ◌/◌, List, [], ◌++◌, length, Result, Ok, Err}
use Rattle.block_device.specs.Call.{Call}
use Rattle.block_device.specs.Device.{Device}
use Rattle.stack_meaning.specs.declared.fault.IoFault.{IoFault}
use Rattle.stack_meaning.specs.declared.fault.IoFault.TheVariants as io
use Rattle.stack_engine.specs.Pieces.{PieceGives}
use Rattle.stack_engine.specs.Stacks.{StackRecord}
use Rattle.stack_engine.specs.WritePieces.{PieceHands}
use Rattle.request_queue.specs.declared.fault.BytesFault.{BytesFault}
use Rattle.request_queue.specs.declared.fault.BytesFault.TheVariants.{Refused, Failed}
use Rattle.request_queue.specs.declared.range.SectorRange.{SectorRange}
use Rattle.request_queue.specs.AtOnce.{IsNextPiece, bytes_after, sector_after}
use Rattle.request_queue.specs.Parts.{PartRelation, bytes_part, bytes_read, ending, read_part, write_part}
use Rattle.request_queue.specs.Ranges.{most_piece, most_read, range_at}
use Rattle.request_queue.specs.World.{World}

-- ---- of a range that is read or written at once

-- A range is read piece by piece by these calls of each, from where the piece before it ended, up to the last piece or the first
-- that ends by a fault. The answer is what the calls gave.
pub data GivesInTurn {D : Type 0} (state : D → Device) (does : D → Call → D → Type 0) (range : SectorRange) (w : StackRecord) : Result (List ℕ) IoFault → StackRecord → Type 0 where
  none_given : GivesInTurn state does range w (Ok []) w
  piece_given : {x y : List ℕ} {v w' : StackRecord} (size : ℕ) → GivesInTurn state does range w (Ok x) v → IsNextPiece most_read v.config range.device.0 (sector_after range x) (bytes_after range x) size
      → PieceGives state does v (range.device.0, sector_after range x) (size / 512) (Ok y) w' → GivesInTurn state does range w (Ok (x ++ y)) w'
  last_given : {x : List ℕ} {v w' : StackRecord} {fault : IoFault} (size : ℕ) → GivesInTurn state does range w (Ok x) v → IsNextPiece most_read v.config range.device.0 (sector_after range x) (bytes_after range x) size
      → PieceGives state does v (range.device.0, sector_after range x) (size / 512) (Err fault) w' → GivesInTurn state does range w (Err fault) w'

-- These bytes are handed over to a range piece by piece, in the same way. The bytes after a piece that ends by a fault aren't
-- handed over.
pub data HandsInTurn {D : Type 0} (state : D → Device) (does : D → Call → D → Type 0) (range : SectorRange) (w : StackRecord) : List ℕ → Result Unit IoFault → StackRecord → Type 0 where
  none_handed : HandsInTurn state does range w [] (Ok tt) w
  piece_handed : {x y : List ℕ} {v w' : StackRecord} → HandsInTurn state does range w x (Ok tt) v → IsNextPiece most_piece v.config range.device.0 (sector_after range x) (bytes_after range x) (length y)
      → PieceHands state does v (range.device.0, sector_after range x) y (Ok tt) w' → HandsInTurn state does range w (x ++ y) (Ok tt) w'
  last_handed : {x y : List ℕ} {v w' : StackRecord} {fault : IoFault} (z : List ℕ) → HandsInTurn state does range w x (Ok tt) v → IsNextPiece most_piece v.config range.device.0 (sector_after range x) (bytes_after range x) (length y)
      → PieceHands state does v (range.device.0, sector_after range x) y (Err fault) w' → HandsInTurn state does range w (x ++ (y ++ z)) (Err fault) w'

-- these bytes are handed over to mapped device at.0, from its sector at.1 on; a write that is refused makes no call
abbrev pub HandsBytes : {D : Type 0} → (D → Device) → (D → Call → D → Type 0) → World → ℕ × ℕ → List ℕ → Result Unit BytesFault → World → Type 0
HandsBytes state does w at bytes (Ok done) w' = HandsInTurn state does (range_at at.0 at.1 (length bytes / 512)) w.stack bytes (Ok tt) w'.stack
HandsBytes state does w at bytes (Err (Failed piece)) w' = HandsInTurn state does (range_at at.0 at.1 (length bytes / 512)) w.stack bytes (Err piece.fault) w'.stack
HandsBytes state does w at bytes (Err (Refused fault)) w' = w' ≡ w

-- ---- of the requests in flight

-- a piece of a read: its answer is what its calls gave, or memory ran out for what they gave
abbrev pub GivesPart : {D : Type 0} → (D → Device) → (D → Call → D → Type 0) → StackRecord → ℕ × ℕ → ℕ → Result (List ℕ) IoFault → StackRecord → Type 0
GivesPart state does v at n answer v' = PieceGives state does v at n answer v' ⊎ ((answer ≡ Err io.NoMemory) × (bytes : List ℕ) × PieceGives state does v at n (Ok bytes) v')

-- how a part of a request is served: by its calls
abbrev pub CalledPart : {D : Type 0} → (D → Device) → (D → Call → D → Type 0) → PartRelation
CalledPart state does v d first (read_part n) answer v' = GivesPart state does v (d, first) n (bytes_read answer) v'
CalledPart state does v d first (bytes_part n) answer v' = GivesInTurn state does (range_at d first n) v (bytes_read answer) v'
CalledPart state does v d first (write_part bytes) answer v' = PieceHands state does v (d, first) bytes (ending answer) v'
