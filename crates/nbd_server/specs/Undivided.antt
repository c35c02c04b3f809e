-- A READ that is answered in one reply. Its bytes are read piece by piece, as those of a READ whose reply is sent so.
use Rattle.std.specs.Prelude.{◌≡◌, ◌⊎◌, ℕ, ◌+◌, List, [], ◌++◌, take, Ok, Err}
use Rattle.allocation.specs.Refusal.{IsOutOfMemory}
use Rattle.request_queue.specs.World.{World}
use Rattle.nbd_protocol.specs.Exports.{ExportRecord}
use Rattle.nbd_server.specs.Replies.{RequestOutcome}
use Rattle.nbd_server.specs.Reads.{ReadsExport}
use Rattle.nbd_server.specs.Delivery.{IsDeliveryPiece, IsReadAgain, IsSectorLost, at_first, delivery, progress_after}
use Rattle.nbd_server.specs.Failures.{no_memory}
use Rattle.nbd_server.specs.declared.delivery.Delivery.{Delivery}
use Rattle.nbd_server.specs.declared.failure.Failure.{Failure}
use Rattle.nbd_server.specs.declared.progress.Progress.{Progress}

-- ---- one piece

-- the next piece was read
pub record IsPieceRead (e : ExportRecord) (d : Delivery) (p : Progress) (w : World) (content : List ℕ) (next : Progress) (w' : World) : Type 0 where
  pub size : ℕ
  pub piece : IsDeliveryPiece w.stack.config e.device d p size
  pub reads : ReadsExport e w (d.offset + p.done) size (Ok content) w'
  pub next_is : next ≡ progress_after p size

-- a piece after which the READ goes on, and the bytes that were read: none of a piece that is read again
abbrev pub GoesOnReading : ExportRecord → Delivery → Progress → World → List ℕ → Progress → World → Type 0
GoesOnReading e d p w content next w' = IsPieceRead e d p w content next w' ⊎ (IsReadAgain e d p w next w' × (content ≡ []))

-- the bytes of a buffer that are read were extended by those of the next piece
pub record ExtendsRead (e : ExportRecord) (d : Delivery) (p : Progress) (w : World) (old new : List ℕ) (w' : World) (next : Progress) : Type 0 where
  pub content : List ℕ
  pub goes : GoesOnReading e d p w content next w'
  pub bytes : take next.done new ≡ take p.done old ++ content

-- ---- the READ

-- a sequence of pieces from the first byte on, and the bytes that were read
pub data Gathers (e : ExportRecord) (d : Delivery) (first : World) : Progress → World → List ℕ → Type 0 where
  gathers_none : Gathers e d first at_first first []
  gathers_more : {p next : Progress} {w w' : World} {bytes : List ℕ} (content : List ℕ) → Gathers e d first p w bytes → GoesOnReading e d p w content next w' → Gathers e d first next w' (bytes ++ content)

-- all of the bytes were read
pub record IsGathered (e : ExportRecord) (d : Delivery) (w : World) (bytes : List ℕ) (w' : World) : Type 0 where
  pub last : Progress
  pub pieces : Gathers e d w last w' bytes
  pub all : last.done ≡ d.count

-- the bytes before a sector were read, and that sector can't be read alone
pub record FailsToGather (e : ExportRecord) (d : Delivery) (w : World) (w' : World) (error : Failure) : Type 0 where
  pub last : Progress
  pub mid : World
  pub bytes : List ℕ
  pub pieces : Gathers e d w last mid bytes
  pub lost : IsSectorLost e d last mid w' error

-- the allocation of the bytes was refused, and nothing was read
abbrev pub LacksBytes : World → ℕ → Failure → World → Type 0
LacksBytes w count error w' = (error ≡ no_memory) × (w' ≡ w) × IsOutOfMemory count

-- A READ that is answered in one reply: with all of its bytes, or with the failure of the first sector that can't be read alone.
abbrev pub AnswersRead : ExportRecord → World → ℕ → ℕ → RequestOutcome → World → Type 0
AnswersRead e w offset count (Ok content) w' = IsGathered e (delivery 0 offset count) w content w'
AnswersRead e w offset count (Err error) w' = LacksBytes w count error w' ⊎ FailsToGather e (delivery 0 offset count) w w' error
