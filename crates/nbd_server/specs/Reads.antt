-- Byte ranges of the export that are read as a whole.
use Rattle.std.specs.Prelude.{◌≡◌, ℕ, ◌/◌, ◌%◌, List, take, drop, Ok, Err}
use Rattle.request_queue.specs.World.{World}
use Rattle.nbd_protocol.specs.Exports.{ExportRecord}
use Rattle.nbd_server.specs.Replies.{RequestOutcome}
use Rattle.nbd_server.specs.Sectors.{IsFetched, FailsToFetch}
use Rattle.nbd_server.specs.Status.{touched}
use Rattle.nbd_server.specs.declared.failure.Failure.{Failure}

-- a byte range of the export was read: the sectors that it touches were read, and the range taken from them
abbrev pub ReadsExport : ExportRecord → World → ℕ → ℕ → RequestOutcome → World → Type 0
ReadsExport e w offset length (Ok content) w' = (bytes : List ℕ) × IsFetched w e.device (offset / 512) (touched offset length) bytes w' × (content ≡ take length (drop (offset % 512) bytes))
ReadsExport e w offset length (Err error) w' = FailsToFetch w e.device (offset / 512) (touched offset length) error w'

-- the byte range couldn't be read
abbrev pub FailsToReadBytes : ExportRecord → World → ℕ → ℕ → World → Failure → Type 0
FailsToReadBytes e w offset length w' error = ReadsExport e w offset length (Err error) w'
