-- Ranges of sectors of the export, read and written as a whole.
use Rattle.std.specs.Prelude.{◌≡◌, ◌⊎◌, ◌<◌, ℕ, ◌*◌, ◌/◌, All, List, length, take, None, Ok, Err}
use Rattle.allocation.specs.Refusal.{IsOutOfMemory}
use Rattle.stack_rules.specs.Names.{mapped}
use Rattle.stack_meaning.specs.declared.fault.IoFault.{IoFault}
use Rattle.stack_meaning.specs.declared.fault.IoFault.TheVariants as io
use Rattle.stack_meaning.specs.Found.{FoundRecord}
use Rattle.stack_meaning.specs.Meaning.{said_at}
use Rattle.stack_meaning.specs.Memory.{largest_allocation}
use Rattle.stack_meaning.specs.Reading.{MeetVerity}
use Rattle.stack_lines.specs.Writing.{SomeEncrypt}
use Rattle.stack_engine.specs.Bytes.{IsGoodChain}
use Rattle.stack_engine.specs.WritePieces.{WritesInPieces}
use Rattle.request_queue.specs.declared.fault.PieceFault.{PieceFault}
use Rattle.request_queue.specs.AtOnce.{EndsRead, EndsSteps}
use Rattle.request_queue.specs.Parts.{EachPart}
use Rattle.request_queue.specs.Ranges.{range_at}
use Rattle.request_queue.specs.Runs.{IsLed}
use Rattle.request_queue.specs.WholeRuns.{ReadsWhole}
use Rattle.request_queue.specs.World.{World}
use Rattle.nbd_server.specs.Failures.{lost, no_memory, put_failure, read_failure}
use Rattle.nbd_server.specs.declared.failure.Failure.{Failure}
use Rattle.nbd_server.specs.declared.failure.Failure.TheVariants.{Faulty}

-- Sectors of a mapped device were read, as one read of them all, and in pieces that split no unit and no data block that fits in
-- one. The bytes are what the lines allow with some hash chains, each of which verifies for its line; over steady backing devices
-- they are what the stack means.
pub record IsFetched (w : World) (d first count : ℕ) (bytes : List ℕ) (w' : World) : Type 0 where
  pub chains : List FoundRecord
  pub read : ReadsWhole w.stack (range_at d first count) (Ok (record { bytes = bytes; chains = chains })) w'.stack
  pub pieces : EndsRead (range_at d first count) w.stack (Ok bytes) w'.stack
  pub good : All (IsGoodChain w.stack.config) chains
  pub led : IsLed EachPart w w'

-- a read runs out of memory only if it meets a verity line
abbrev pub HasCause : World → ℕ → ℕ → ℕ → IoFault → Type 0
HasCause w d first count fault = fault ≡ io.NoMemory → MeetVerity (said_at w.stack.config (mapped d)) first count

-- the read of them all ended with that piece
pub record EndsIn (w : World) (d first count : ℕ) (error : Failure) (w' : World) : Type 0 where
  pub piece : PieceFault
  pub told : error ≡ read_failure w.stack.config d piece
  pub cause : HasCause w d first count piece.fault
  pub read : ReadsWhole w.stack (range_at d first count) (Err piece.fault) w'.stack
  pub pieces : EndsRead (range_at d first count) w.stack (Err piece) w'.stack

-- the allocation of the buffer was refused, and nothing was read
abbrev pub HasNoBuffer : World → ℕ → Failure → World → Type 0
HasNoBuffer w count error w' = (error ≡ no_memory) × (w' ≡ w) × IsOutOfMemory (512 * count)

-- the sectors couldn't be read
pub record FailsToFetch (w : World) (d first count : ℕ) (error : Failure) (w' : World) : Type 0 where
  pub cause : EndsIn w d first count error w' ⊎ HasNoBuffer w count error w'
  pub led : IsLed EachPart w w'

-- These bytes were written to the sectors of a mapped device from the first on, as one write of them all.
pub record IsStored (w : World) (d first : ℕ) (bytes : List ℕ) (w' : World) : Type 0 where
  pub put : WritesInPieces w.stack d first bytes (Ok tt) w'.stack
  pub led : IsLed EachPart w w'

-- the write of them all ended with that piece; the pieces after it weren't written
abbrev pub EndsPut : World → ℕ → ℕ → List ℕ → Failure → World → Type 0
EndsPut w d first bytes error w' =
    (piece : PieceFault) × (error ≡ Faulty (lost None piece)) × (put_failure piece ≡ Faulty (lost None piece)) × WritesInPieces w.stack d first bytes (Err piece.fault) w'.stack

-- the first of the sectors were written, and no others
pub record IsPartPut (w : World) (d first : ℕ) (bytes : List ℕ) (w' : World) : Type 0 where
  pub count : ℕ
  pub few : 512 * count < length bytes
  pub put : IsStored w d first (take (512 * count) bytes) w'

-- an allocation was refused after the first sectors were written; this happens only if some of the sectors are encrypted
abbrev pub StopsPut : World → ℕ → ℕ → List ℕ → Failure → World → Type 0
StopsPut w d first bytes error w' =
    (error ≡ no_memory) × SomeEncrypt (said_at w.stack.config (mapped d)) first (length bytes / 512) × IsPartPut w d first bytes w' × IsOutOfMemory largest_allocation

-- not all of the sectors were written
pub record FailsToPutAll (w : World) (d first : ℕ) (bytes : List ℕ) (error : Failure) (w' : World) : Type 0 where
  pub cause : EndsPut w d first bytes error w' ⊎ StopsPut w d first bytes error w'
  pub led : IsLed EachPart w w'

-- they were written by one write of the queue, in pieces that split no unit that fits in one
pub record IsStoredAtOnce (w : World) (d first : ℕ) (bytes : List ℕ) (w' : World) : Type 0 where
  pub stored : IsStored w d first bytes w'
  pub steps : EndsSteps (range_at d first (length bytes / 512)) w bytes (Ok tt) w'

-- such a write ended with a piece that failed
pub record FailsToPutAtOnce (w : World) (d first : ℕ) (bytes : List ℕ) (error : Failure) (w' : World) : Type 0 where
  pub put : FailsToPutAll w d first bytes error w'
  pub piece : PieceFault
  pub told : error ≡ put_failure piece
  pub steps : EndsSteps (range_at d first (length bytes / 512)) w bytes (Err piece) w'

-- the most bytes in a run of zeros: 1 MiB
abbrev pub most_run_bytes : ℕ
most_run_bytes = 1048576

-- zeros with the rest of their first and last sector, written run by run: the allocation of a run was refused after earlier
-- runs were written
abbrev pub LacksRun : World → ℕ → ℕ → List ℕ → Failure → World → Type 0
LacksRun w d first bytes error w' = (error ≡ no_memory) × IsPartPut w d first bytes w' × IsOutOfMemory most_run_bytes

-- not all of these were written
abbrev pub FailsToZero : World → ℕ → ℕ → List ℕ → Failure → World → Type 0
FailsToZero w d first bytes error w' = FailsToPutAll w d first bytes error w' ⊎ LacksRun w d first bytes error w'
