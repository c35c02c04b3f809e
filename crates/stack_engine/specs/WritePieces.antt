-- Pieces of a write: at most 128 sectors, which one call puts.
use Rattle.std.specs.Prelude.{◌≡◌, ◌≤◌, ◌⊎◌, ℕ, ◌+◌, ◌*◌, ◌/◌, List, [], ◌++◌, length, Result, Ok, Err}
use Rattle.block_device.specs.Call.{Call, DeviceDoes}
use Rattle.block_device.specs.Device.{Device}
use Rattle.stack_rules.specs.Names.{mapped}
use Rattle.stack_rules.specs.Records.{Configuration}
use Rattle.stack_rules.specs.Descend.{write_cost}
use Rattle.stack_meaning.specs.declared.fault.IoFault.{IoFault}
use Rattle.stack_meaning.specs.declared.fault.IoFault.TheVariants as io
use Rattle.stack_meaning.specs.Meaning.{said_at}
use Rattle.stack_meaning.specs.May.{MayFault}
use Rattle.stack_meaning.specs.Puts.{put_on}
use Rattle.stack_meaning.specs.Leaves.{steady_images, AreSteady}
use Rattle.stack_meaning.specs.Changes.{LeafSectors, reached, AreWritten, NoneRead, DifferWithin, AllWhole}
use Rattle.stack_lines.specs.Writing.{AreSectors, SomeEncrypt, MayEnd, IsPut, destination_of, StopsAtFault, StopsBehindPut, sectors_in}
use Rattle.stack_lines.specs.Touches.{EndsAtFailure, leaves_of}
use Rattle.stack_lines.specs.Forgetting.{DropsLast, Forgets}
use Rattle.stack_lines.specs.WriteBudgets.{Counter, of_reads, of_writes, CountsAtMost, write_budget}
use Rattle.stack_lines.specs.declared.source.Source.TheVariants.{Below}
use Rattle.stack_engine.specs.LeafCalls.{LeafCall, ServesCalls}
use Rattle.stack_engine.specs.SectorCalls.{AreWriteCalls}
use Rattle.stack_engine.specs.Stacks.{StackRecord}
use Rattle.stack_engine.specs.Uncut.{CutsNone}

-- the bytes of 1 to 128 whole sectors
pub record ArePiece (bytes : List ℕ) : Type 0 where
  pub sectors : AreSectors bytes
  pub most : length bytes / 512 ≤ 128

-- the leaf sectors that n sectors of mapped device d from the first on reach
abbrev pub piece_reached : Configuration → ℕ → ℕ → ℕ → LeafSectors
piece_reached c d first n = reached (λ s. (said_at c (mapped d) s).reaches) first n

-- a write encrypts some of n sectors of mapped device d, from the first on
abbrev pub MeetsCrypt : StackRecord → ℕ → ℕ → ℕ → Type 0
MeetsCrypt w d first n = SomeEncrypt (said_at w.config (mapped d)) first n

-- where the write of these cuts no unit, nothing is read
abbrev pub UncutPiece : StackRecord → ℕ → ℕ → ℕ → StackRecord → Type 0
UncutPiece w d first n w' = CutsNone w.config (mapped d) first n → NoneRead w.leaves w'.leaves

-- no more of a counter than what the units cost that the write of these touches, each of them once
abbrev pub PaysPiece : Counter → StackRecord → ℕ → ℕ → ℕ → StackRecord → Type 0
PaysPiece k w d first n w' = CountsAtMost k (write_budget w.config k (mapped d) first n) w.leaves w'.leaves

-- the leaf sectors that are written, and those that are read to be changed
abbrev pub PieceWrote : StackRecord → ℕ → ℕ → ℕ → StackRecord → Type 0
PieceWrote = PaysPiece of_writes

abbrev pub PieceNeeded : StackRecord → ℕ → ℕ → ℕ → StackRecord → Type 0
PieceNeeded = PaysPiece of_reads

-- How a piece is written, these bytes to mapped device d from its sector first on, with the stack that it leaves:
-- whatever the leaves answer
pub record AnyWrite (w : StackRecord) (d first : ℕ) (bytes : List ℕ) (result : Result Unit IoFault) (w' : StackRecord) : Type 0 where
  pub config : w'.config ≡ w.config
  pub capacity : w'.capacity ≡ w.capacity
  pub restored : w'.restored ≡ w.restored
  pub whole : AllWhole w.leaves → AllWhole w'.leaves
  pub moved : AreWritten (piece_reached w.config d first (length bytes / 512)) w.leaves (length bytes / 512 * write_cost w.config (mapped d)) w'.leaves
  pub ends : MayEnd (MayFault w.config (mapped d) first (length bytes / 512)) w.leaves w'.leaves result
  pub stops : StopsAtFault (said_at w.config (mapped d)) first (length bytes / 512) w.leaves w'.leaves result
  pub unread : (SomeEncrypt (said_at w.config (mapped d)) first (length bytes / 512) → ⊥) → NoneRead w.leaves w'.leaves
  pub forgets : Forgets w.config (leaves_of w.config (mapped d)) w.leaves w'.leaves w.kept w'.kept
  pub drops : DropsLast w.leaves w'.leaves w.last w'.last
  pub fails : EndsAtFailure w.leaves w'.leaves result
  pub short : result ≡ Err io.NoMemory → (w'.kept ≡ w.kept) × (w'.last ≡ w.last)

-- If the leaves beneath are steady: what the put leaves, no leaf sector that isn't reached is changed, and what is before the
-- sectors that failed is put.
pub record SteadyWrite (w : StackRecord) (d first : ℕ) (bytes : List ℕ) (result : Result Unit IoFault) (w' : StackRecord) : Type 0 where
  pub any : AnyWrite w d first bytes result w'
  pub exact : IsPut (put_on w.config (mapped d) first (sectors_in bytes) (steady_images w.leaves)) (steady_images w'.leaves) result
  pub others : DifferWithin (piece_reached w.config d first (length bytes / 512)) (steady_images w.leaves) (steady_images w'.leaves)
  pub behind : StopsBehindPut (destination_of w.config (mapped d)) first (sectors_in bytes) w.leaves w'.leaves result

-- The calls of a write: none where memory ran out before it, and else those that hand the bytes over.
abbrev pub WritePieceCalls : Configuration → ℕ → ℕ → List ℕ → Result Unit IoFault → List LeafCall → Type 0
WritePieceCalls c d first bytes result calls = ((result ≡ Err io.NoMemory) × (calls ≡ [])) ⊎ AreWriteCalls c (Below (mapped d) first) bytes calls result

-- Whatever the leaves answer, of bytes for mapped device at.0, from its sector at.1 on: these calls of the leaves' devices were
-- made, and no others.
abbrev pub PieceHands : {D : Type 0} → (D → Device) → (D → Call → D → Type 0) → StackRecord → ℕ × ℕ → List ℕ → Result Unit IoFault → StackRecord → Type 0
PieceHands state does w at bytes result w' = ServesCalls state (DeviceDoes state does) (WritePieceCalls w.config at.0 at.1 bytes result) w.leaves w'.leaves

-- both, of a piece
pub record EachWrite (w : StackRecord) (d first : ℕ) (bytes : List ℕ) (result : Result Unit IoFault) (w' : StackRecord) : Type 0 where
  pub piece : ArePiece bytes
  pub any : AnyWrite w d first bytes result w'
  pub steady : AreSteady (leaves_of w.config (mapped d)) w.leaves → SteadyWrite w d first bytes result w'

-- ---- several pieces

-- Pieces of a write one after another, each from where the one before it ended, up to the last one or the first that
-- ends by a fault; the bytes after that piece aren't written.
pub data InTurn (d first : ℕ) (w : StackRecord) : List ℕ → Result Unit IoFault → StackRecord → Type 0 where
  nothing : InTurn d first w [] (Ok tt) w
  next : {x y : List ℕ} {w' w'' : StackRecord} → InTurn d first w x (Ok tt) w' → EachWrite w' d (first + length x / 512) y (Ok tt) w'' → InTurn d first w (x ++ y) (Ok tt) w''
  ends : {x y : List ℕ} {w' w'' : StackRecord} {fault : IoFault} (z : List ℕ) → InTurn d first w x (Ok tt) w' → EachWrite w' d (first + length x / 512) y (Err fault) w'' → InTurn d first w (x ++ (y ++ z)) (Err fault) w''

-- a write in pieces: what holds of it as a whole, and its pieces
pub record WritesInPieces (w : StackRecord) (d first : ℕ) (bytes : List ℕ) (result : Result Unit IoFault) (w' : StackRecord) : Type 0 where
  pub any : AnyWrite w d first bytes result w'
  pub pieces : InTurn d first w bytes result w'
