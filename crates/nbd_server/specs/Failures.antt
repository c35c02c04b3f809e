-- Why a request isn't done, and what is reported of it.
use Rattle.std.specs.Prelude.{ℕ, ◌==◌, List, ◌++◌, Option, Some, None, codes, decimal, false, true, if◌then◌else◌}
use Rattle.block_device.specs.Device.{Device}
use Rattle.nbd_protocol.specs.declared.request_error.RequestError.{RequestError}
use Rattle.nbd_protocol.specs.declared.request_error.RequestError.TheVariants.{InputOutput, Invalid, NoMemory, NoSpace, NotPermitted, NotSupported}
use Rattle.nbd_server.specs.declared.data_block.DataBlock.{DataBlock}
use Rattle.nbd_server.specs.declared.failure.Failure.{Failure}
use Rattle.nbd_server.specs.declared.failure.Failure.TheVariants.{Faulty, Full, Refused, Unsynced}
use Rattle.nbd_server.specs.declared.known_faults.SectorFault.{SectorFault}
use Rattle.nbd_server.specs.declared.lost.LostPiece.{LostPiece}
use Rattle.nbd_server.specs.DataBlocks.{sector_block}
use Rattle.request_queue.specs.declared.fault.PieceFault.{PieceFault}
use Rattle.stack_rules.specs.Names.{mapped}
use Rattle.stack_rules.specs.Records.{Configuration}
use Rattle.stack_meaning.specs.declared.fault.Fault.TheVariants.{ErrorTarget, Mismatch}
use Rattle.stack_meaning.specs.declared.fault.IoFault.{IoFault}
use Rattle.stack_meaning.specs.declared.fault.IoFault.TheVariants as io
use Rattle.stack_engine.specs.Space.{lacks_space}

-- an allocation was refused
abbrev pub no_memory : Failure
no_memory = Refused NoMemory

-- the data block of a sector that fails verification; other faults have none
abbrev pub fault_block : IoFault → Option DataBlock → Option DataBlock
fault_block (io.Stack Mismatch) block = block
fault_block (io.Stack ErrorTarget) block = None
fault_block (io.Device leaf) block = None
fault_block io.NoMemory block = None

-- that of a piece of mapped device d that is one sector; which block of a longer piece fails isn't known
abbrev pub lost_block : Configuration → ℕ → PieceFault → Option DataBlock
lost_block c d piece = if piece.count == 1 then fault_block piece.fault (sector_block c (mapped d) piece.first) else None

-- the piece at which an access ended, with that block
abbrev pub lost : Option DataBlock → PieceFault → LostPiece
lost block piece = record { first = piece.first; count = piece.count; fault = piece.fault; block = block }

-- what an access that ended so comes to
abbrev pub failure_by : IoFault → LostPiece → Failure
failure_by (io.Stack fault) piece = Faulty piece
failure_by (io.Device leaf) piece = Faulty piece
failure_by io.NoMemory piece = no_memory

-- of a read of mapped device d, and of a write
abbrev pub read_failure : Configuration → ℕ → PieceFault → Failure
read_failure c d piece = failure_by piece.fault (lost (lost_block c d piece) piece)

abbrev pub put_failure : PieceFault → Failure
put_failure piece = failure_by piece.fault (lost None piece)

-- the failure of a write over these leaves: if the leaf that failed lacked space, that is reported
abbrev pub write_failure : List Device → Failure → Failure
write_failure leaves (Refused error) = Refused error
write_failure leaves (Faulty piece) = if lacks_space leaves piece.fault then Full piece else Faulty piece
write_failure leaves (Full piece) = Full piece
write_failure leaves (Unsynced fault) = Unsynced fault

-- the error that the reply reports
abbrev pub reported_error : Failure → RequestError
reported_error (Refused error) = error
reported_error (Faulty piece) = InputOutput
reported_error (Full piece) = NoSpace
reported_error (Unsynced fault) = InputOutput

-- what an error chunk says of a request that isn't allowed, or for which memory lacks
abbrev pub refusal_text : RequestError → List ℕ
refusal_text NotPermitted = codes "the export is read-only"
refusal_text InputOutput = codes "input or output failed"
refusal_text NoMemory = codes "out of memory"
refusal_text Invalid = codes "the request is invalid"
refusal_text NoSpace = codes "the range ends past the export"
refusal_text NotSupported = codes "zeros take as long to write as other bytes"

-- and of a fault of the stack
abbrev pub fault_text : IoFault → List ℕ
fault_text (io.Stack ErrorTarget) = codes "the sector is on an error target"
fault_text (io.Stack Mismatch) = codes "a block fails verification"
fault_text (io.Device leaf) = codes "a backing device failed"
fault_text io.NoMemory = codes "out of memory"

-- and of a data block that fails verification
unfoldable pub block_text : ℕ → List ℕ
block_text block = codes "data block " ++ (decimal block ++ codes " fails verification")

-- and of a failure, unless it names a data block
abbrev pub plain_text : Failure → List ℕ
plain_text (Refused error) = refusal_text error
plain_text (Faulty piece) = fault_text piece.fault
plain_text (Full piece) = codes "a backing device has no space left"
plain_text (Unsynced fault) = fault_text fault

abbrev pub told_block : Failure → Option DataBlock
told_block (Refused error) = None
told_block (Faulty piece) = piece.block
told_block (Full piece) = None
told_block (Unsynced fault) = None

abbrev pub text_or : List ℕ → Option DataBlock → List ℕ
text_or text None = text
text_or text (Some block) = block_text block.number

abbrev pub failure_text : Failure → List ℕ
failure_text failure = text_or (plain_text failure) (told_block failure)

-- a fault with the first sector of its piece, but that of a sync without one; other failures are none
abbrev pub fault_of : Failure → Option SectorFault
fault_of (Refused error) = None
fault_of (Faulty piece) = Some (record { sector = Some piece.first; block = piece.block; fault = piece.fault; full = false })
fault_of (Full piece) = Some (record { sector = Some piece.first; block = piece.block; fault = piece.fault; full = true })
fault_of (Unsynced fault) = Some (record { sector = None; block = None; fault = fault; full = false })
