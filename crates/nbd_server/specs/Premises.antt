-- What callers must establish before a client's message is handled.
use Rattle.std.specs.Prelude.{◌≡◌, ◌≢◌, ◌<◌, ◌≤◌, ℕ, ◌+◌, ◌*◌, ◌%◌, ◌^◌, IsTrue, List, drop, length, take, Ok}
use Rattle.stack_rules.specs.Names.{mapped, size}
use Rattle.stack_rules.specs.Records.{Configuration}
use Rattle.nbd_protocol.specs.Exports.{AreExports, ExportRecord, IsExport, export_records}
use Rattle.nbd_protocol.specs.declared.export.Export.{Export}
use Rattle.nbd_protocol.specs.declared.header.Command.{Command}
use Rattle.nbd_protocol.specs.declared.header.Command.TheVariants.{Write}
use Rattle.request_queue.specs.World.{World}
use Rattle.nbd_server.specs.Replies.{RequestOutcome}
use Rattle.nbd_server.specs.Reads.{ReadsExport}
use Rattle.nbd_server.specs.Transmission.{WritesAtOnce, room_behind}
use Rattle.nbd_server.specs.Delivery.{most_piece_bytes}
use Rattle.nbd_server.specs.Sectors.{most_run_bytes}
use Rattle.nbd_server.specs.Zeros.{zeros_of}
use Rattle.nbd_server.specs.declared.delivery.Delivery.{Delivery}
use Rattle.nbd_server.specs.declared.progress.Progress.{Progress}
use Rattle.nbd_server.specs.declared.zeros.Zeros.{Zeros}
use Rattle.nbd_protocol.specs.declared.phase.Phase.{Phase}
use Rattle.nbd_protocol.specs.declared.phase.Phase.TheVariants.{Over, Serving}

-- the export being served is one of these
abbrev pub IsExportPlaced : List ExportRecord → Phase → Type 0
IsExportPlaced es (Serving agreed) = agreed.place < length es
IsExportPlaced es phase = Unit {0}

-- the session may go on: the exports are those of the configuration, and the client may send another message
pub record IsGoing (c : Configuration) (exports : List Export) (phase : Phase) : Type 0 where
  pub exports_are : AreExports c exports
  pub placed : IsExportPlaced (export_records exports) phase
  pub going : phase ≢ Over

-- a byte range of the export
pub record AreBytesOf (c : Configuration) (e : ExportRecord) (offset count : ℕ) : Type 0 where
  pub export : IsExport c e
  pub within : offset + count ≤ e.size

-- bytes of a device, as many as a piece of a reply has at most
pub record ArePieceBytes (c : Configuration) (e : ExportRecord) (offset count : ℕ) : Type 0 where
  pub bytes : AreBytesOf c e offset count
  pub few : count ≤ most_piece_bytes

-- a command without payload
abbrev pub IsBare : Command → Type 0
IsBare (Write offset length fua) = ⊥
IsBare command = Unit {0}

-- a range of sectors of the export
pub record AreSectorsOf (c : Configuration) (e : ExportRecord) (first count : ℕ) : Type 0 where
  pub export : IsExport c e
  pub inside : first + count ≤ size c (mapped e.device)
  pub few : count < 2 ^ 32

-- the sizes of what a byte range leaves of its first sector (before it) and of its last sector (after it)
pub record HaveSizes (offset count : ℕ) (front back : List ℕ) : Type 0 where
  pub before : length front ≡ offset % 512
  pub behind : length back ≡ room_behind offset count

-- whole sectors of a writable export, from the first on
pub record AreExportSectors (e : ExportRecord) (first : ℕ) (bytes : List ℕ) : Type 0 where
  pub whole : length bytes % 512 ≡ 0
  pub inside : 512 * first + length bytes ≤ e.size
  pub allowed : IsTrue e.writable

-- zeros of a request, with less than a sector before and after them
pub record HaveEnds (z : Zeros) : Type 0 where
  pub before : length z.before.now < 512
  pub few : z.count < 2 ^ 32
  pub behind : length z.behind.now < 512

-- zeros that are written in one run, with the bytes before and after them
pub record IsZeroRun (z : Zeros) : Type 0 where
  pub ends : HaveEnds z
  pub some : 0 < z.count
  pub few : length (zeros_of z) ≤ most_run_bytes

-- a byte range of the export was read into the beginning of a buffer, with the sectors that it touches
abbrev pub ReadsTo : ExportRecord → World → ℕ → ℕ → List ℕ → World → Type 0
ReadsTo e w at count buffer w' = ReadsExport e w at count (Ok (take count (drop (at % 512) buffer))) w'

-- a byte range of the export was written from a buffer, which holds the bytes at their offset in the sectors that they touch
abbrev pub WritesFrom : ExportRecord → World → ℕ → ℕ → List ℕ → RequestOutcome → World → Type 0
WritesFrom e w at count buffer outcome w' = WritesAtOnce e w at (take count (drop (at % 512) buffer)) outcome w'

-- what is left of a READ that is answered piece by piece
pub record IsDeliveryRest (d : Delivery) (p : Progress) : Type 0 where
  pub inside : p.done ≤ d.count
  pub small : d.offset + d.count < 2 ^ 64

-- the bytes of a READ aren't all read, and a buffer has its size
pub record HasRoom (d : Delivery) (p : Progress) (buffer : List ℕ) : Type 0 where
  pub more : p.done < d.count
  pub held : length buffer ≡ d.count
