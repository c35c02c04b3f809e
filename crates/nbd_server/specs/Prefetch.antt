-- A CACHE: its bytes are read as a READ's are, but not sent (the protocol's document, "Request types": NBD_CMD_CACHE). They are read
-- part by part, so that few of them are in memory.
use Rattle.std.specs.Prelude.{◌≡◌, ℕ, ◌+◌, min, List, [], Ok, Err}
use Rattle.request_queue.specs.World.{World}
use Rattle.nbd_protocol.specs.Exports.{ExportRecord}
use Rattle.nbd_protocol.specs.Headers.{most_length}
use Rattle.nbd_server.specs.Replies.{RequestOutcome}
use Rattle.nbd_server.specs.Delivery.{IsDeliveryPiece, at_first, delivery, progress_after}
use Rattle.nbd_server.specs.Undivided.{AnswersRead}
use Rattle.nbd_server.specs.declared.delivery.Delivery.{Delivery}
use Rattle.nbd_server.specs.declared.failure.Failure.{Failure}
use Rattle.nbd_server.specs.declared.progress.Progress.{Progress}

-- the bytes that are read of a CACHE: at most as many as a READ transfers, since the next request waits for them
abbrev pub cache_range : ℕ → ℕ → Delivery
cache_range offset length = delivery 0 offset (min length most_length)

-- the next part, which is as long as a piece of a READ, was read
pub record ReadsPart (e : ExportRecord) (d : Delivery) (p : Progress) (w : World) (w' : World) (next : Progress) : Type 0 where
  pub size : ℕ
  pub content : List ℕ
  pub piece : IsDeliveryPiece w.stack.config e.device d p size
  pub reads : AnswersRead e w (d.offset + p.done) size (Ok content) w'
  pub next_is : next ≡ progress_after p size

-- it couldn't be read
pub record FailsPart (e : ExportRecord) (d : Delivery) (p : Progress) (w : World) (w' : World) (error : Failure) : Type 0 where
  pub size : ℕ
  pub piece : IsDeliveryPiece w.stack.config e.device d p size
  pub reads : AnswersRead e w (d.offset + p.done) size (Err error) w'

-- a sequence of parts from the first byte on
pub data Prefetches (e : ExportRecord) (d : Delivery) (first : World) : Progress → World → Type 0 where
  prefetches_none : Prefetches e d first at_first first
  prefetches_more : {p next : Progress} {w w' : World} → Prefetches e d first p w → ReadsPart e d p w w' next → Prefetches e d first next w'

-- all of the bytes were read
pub record IsPrefetched (e : ExportRecord) (d : Delivery) (w : World) (w' : World) : Type 0 where
  pub last : Progress
  pub parts : Prefetches e d w last w'
  pub all : last.done ≡ d.count

-- some parts were read, and the next one couldn't be read
pub record FailsToPrefetch (e : ExportRecord) (d : Delivery) (w : World) (w' : World) (error : Failure) : Type 0 where
  pub last : Progress
  pub mid : World
  pub parts : Prefetches e d w last mid
  pub lost : FailsPart e d last mid w' error

-- A CACHE of that byte range: success without data, or the failure of the first part that couldn't be read
abbrev pub ServesCache : ExportRecord → World → ℕ → ℕ → RequestOutcome → World → Type 0
ServesCache e w offset length (Ok content) w' = (content ≡ []) × IsPrefetched e (cache_range offset length) w w'
ServesCache e w offset length (Err error) w' = FailsToPrefetch e (cache_range offset length) w w' error
