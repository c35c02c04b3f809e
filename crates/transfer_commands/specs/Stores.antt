-- Bytes of a reader that are written to a mapped device.
use Rattle.std.specs.Prelude.{◌≡◌, ◌⊎◌, ◌≢◌, ℕ, ◌+◌, ◌-◌, ◌*◌, ◌/◌, ◌%◌, ◌<◌, ◌==◌, nat_lt, not, List, [], ◌++◌, length, map, take, Option, Some, None, Ok, Err, if◌then◌else◌}
use Rattle.std.specs.Io.KnownBytes.{Consumes, IsAtEnd}
use Rattle.block_device.specs.Device.{synced}
use Rattle.program_io.specs.Counted.{CountedRecord}
use Rattle.stack_rules.specs.Names.{mapped, may_write, size}
use Rattle.stack_rules.specs.Records.{Configuration}
use Rattle.stack_meaning.specs.declared.fault.IoFault.{IoFault}
use Rattle.stack_engine.specs.Stacks.{StackRecord}
use Rattle.stack_engine.specs.Syncs.{FailsToSync}
use Rattle.stack_engine.specs.WritePieces.{EachWrite, PieceNeeded, PieceWrote, WritesInPieces}
use Rattle.request_queue.specs.declared.range.SectorRange.{SectorRange}
use Rattle.request_queue.specs.AtOnce.{WritesBeside}
use Rattle.request_queue.specs.Ranges.{range_at}
use Rattle.transfer_commands.specs.declared.stream_fault.StoreCause.{StoreCause}
use Rattle.transfer_commands.specs.declared.stream_fault.StoreCause.TheVariants as cause
use Rattle.transfer_commands.specs.declared.stream_fault.StoreFault.{StoreFault}
use Rattle.transfer_commands.specs.declared.input.StorePlace.{StorePlace}
use Rattle.transfer_commands.specs.Filling.{IsBroken}

-- ---- refusals before the first read

-- so many bytes, for that many sectors from the first one on
abbrev pub length_refusal : ℕ → Option ℕ → Option StoreCause
length_refusal sectors None = None
length_refusal sectors (Some bytes) = if not (bytes % 512 == 0) then Some cause.Length else if nat_lt sectors (bytes / 512) then Some cause.Range else None

-- why nothing is written: the first of these reasons
abbrev pub put_refusal : Configuration → ℕ → StorePlace → Option StoreCause
put_refusal c d place =
    if not (may_write c (mapped d)) then Some cause.ReadOnly
    else if nat_lt (size c (mapped d)) place.first then Some cause.Range
    else length_refusal (size c (mapped d) - place.first) place.length

-- ---- what was done

-- the stack, and what the reader has left, if that is known
pub record StoreSide : Type 0 where
  pub stack : StackRecord
  pub input : Option (List ℕ)

abbrev pub store_side : StackRecord → Option (List ℕ) → StoreSide
store_side stack input = record { stack = stack; input = input }

-- the sectors of device d from the first on
abbrev pub sectors_from : Configuration → ℕ → ℕ → SectorRange
sectors_from c d first = range_at d first (size c (mapped d) - first)

-- These bytes were written to device d from its sector `first` on, at once. It writes no more than the units cost, each of them
-- once, and reads no more than those that it splits.
pub record IsPieceStored (w : StackRecord) (d first : ℕ) (bytes : List ℕ) (w' : StackRecord) : Type 0 where
  pub written : EachWrite w d first bytes (Ok tt) w'
  pub wrote : PieceWrote w d first (length bytes / 512) w'
  pub needed : PieceNeeded w d first (length bytes / 512) w'

-- these bytes of whole sectors were written; there may be none
abbrev pub StoresPiece : StackRecord → ℕ → ℕ → List ℕ → StackRecord → Type 0
StoresPiece w d first bytes w' = ((bytes ≡ []) × (w' ≡ w)) ⊎ IsPieceStored w d first bytes w'

-- These bytes were written to device d from its sector `first` on, in pieces that split no unit that fits in one: each ends as
-- `aligned_len` says for all sectors up to the device's end, but for the last one, in which the input may end.
pub record StoresInTurn (d first : ℕ) (w : StackRecord) (bytes : List ℕ) (w' : StackRecord) : Type 0 where
  pub front : List ℕ
  pub last : List ℕ
  pub left : StackRecord
  pub bytes_are : bytes ≡ front ++ last
  pub steps : WritesBeside (sectors_from w.config d first) w front (Ok tt) left
  pub ends : StoresPiece left d (first + length front / 512) last w'

-- The bytes of n sectors were read from the reader, and written to device d from its sector `first` on, in pieces. Each piece
-- has the effect of a write.
pub record HasStored (d first n : ℕ) (old new : StoreSide) : Type 0 where
  pub bytes : List ℕ
  pub count : length bytes ≡ 512 * n
  pub pieces : WritesInPieces old.stack d first bytes (Ok tt) new.stack
  pub turns : StoresInTurn d first old.stack bytes new.stack
  pub taken : Consumes old.input new.input bytes

-- no backing device is dirty, and nothing else changed
pub record IsSynced (old new : StackRecord) : Type 0 where
  pub config : new.config ≡ old.config
  pub capacity : new.capacity ≡ old.capacity
  pub kept : new.kept ≡ old.kept
  pub leaves : new.leaves ≡ map synced old.leaves

-- What was written to the backing devices was synced, or the sync of one of them failed; nothing else changed.
pub record IsSyncTried (old new : StackRecord) : Type 0 where
  pub config : new.config ≡ old.config
  pub capacity : new.capacity ≡ old.capacity
  pub kept : new.kept ≡ old.kept
  pub leaves : (new.leaves ≡ map synced old.leaves) ⊎ ((fault : IoFault) × FailsToSync old.leaves new.leaves fault)

-- all bytes of the reader were written, n sectors, and synced
pub record Stores (d first : ℕ) (old new : StoreSide) (n : ℕ) : Type 0 where
  pub left : StackRecord
  pub stored : HasStored d first n old (store_side left new.input)
  pub ended : IsAtEnd new.input
  pub synced : IsSynced left new.stack

-- ---- how writing stopped early

-- so many sectors were written, and then these bytes were read as well
pub record IsLeftOver (d first n : ℕ) (old new : StoreSide) (more : List ℕ) : Type 0 where
  pub left : Option (List ℕ)
  pub stored : HasStored d first n old (store_side new.stack left)
  pub taken : Consumes left new.input more

-- the next piece was read, and its write ended in this fault
pub record IsWriteStop (d first n : ℕ) (old new : StoreSide) (fault : IoFault) : Type 0 where
  pub left : StoreSide
  pub piece : List ℕ
  pub more : List ℕ
  pub stored : HasStored d first n old left
  pub taken : Consumes left.input new.input (piece ++ more)
  pub failed : EachWrite left.stack d (first + n) piece (Err fault) new.stack

-- all bytes were written, and the sync of a backing device failed
abbrev pub IsStoreUnsynced : StoreCause → StackRecord → StackRecord → Type 0
IsStoreUnsynced (cause.Sync fault) old new = (new.config ≡ old.config) × (new.capacity ≡ old.capacity) × (new.kept ≡ old.kept) × FailsToSync old.leaves new.leaves fault
IsStoreUnsynced other old new = ⊥

-- why writing stopped after n sectors; the reader may be broken
abbrev pub StopsStore : ℕ → ℕ → ℕ → StoreSide → StoreSide → Type 0 → StoreCause → Type 0
StopsStore d first n old new broken cause.TooLong = (more : List ℕ) × (0 < length more) × IsLeftOver d first n old new more × (first + n ≡ size old.stack.config (mapped d))
StopsStore d first n old new broken cause.PartSector = (more : List ℕ) × (0 < length more) × (length more < 512) × IsLeftOver d first n old new more × IsAtEnd new.input
StopsStore d first n old new broken cause.Read = (more : List ℕ) × IsLeftOver d first n old new more × broken
StopsStore d first n old new broken (cause.Write fault) = IsWriteStop d first n old new fault
StopsStore d first n old new broken other = ⊥

abbrev pub IsStoreStop : ℕ → ℕ → StoreSide → StoreSide → Type 0 → StoreFault → Type 0
IsStoreStop d first old new broken fault = StopsStore d first fault.written old new broken fault.cause

-- writing stopped early, and what was written so far was synced, or the sync of a backing device failed
pub record IsStoppedSynced (d first : ℕ) (old new : StoreSide) (broken : Type 0) (fault : StoreFault) : Type 0 where
  pub left : StackRecord
  pub stops : IsStoreStop d first old (store_side left new.input) broken fault
  pub synced : IsSyncTried left new.stack

-- nothing was synced: the request was refused before, and nothing was done; or all was done but the sync
pub record IsStoreRefused (d : ℕ) (place : StorePlace) (old new : StoreSide) (fault : StoreFault) : Type 0 where
  pub none : fault.written ≡ 0
  pub same : new ≡ old
  pub why : put_refusal old.stack.config d place ≡ Some fault.cause

pub record IsSyncStop (d first : ℕ) (old new : StoreSide) (fault : StoreFault) : Type 0 where
  pub left : StackRecord
  pub stored : HasStored d first fault.written old (store_side left new.input)
  pub ended : IsAtEnd new.input
  pub unsynced : IsStoreUnsynced fault.cause left new.stack

-- one of these three
abbrev pub IsStoreEnd : ℕ → StorePlace → StoreSide → StoreSide → Type 0 → StoreFault → Type 0
IsStoreEnd d place old new broken fault =
    IsStoreRefused d place old new fault ⊎ (IsStoppedSynced d place.first old new broken fault ⊎ IsSyncStop d place.first old new fault)

-- ---- single steps

-- the whole sectors of some bytes
abbrev pub whole_of : List ℕ → List ℕ
whole_of bytes = take (length bytes / 512 * 512) bytes

-- the last bytes, after `written` sectors, aren't whole sectors, or their write ended in a fault
abbrev pub LastEnds : ℕ → ℕ → List ℕ → StackRecord → StackRecord → ℕ → ℕ → StoreCause → Type 0
LastEnds d at bytes w w' written n cause.PartSector = (n ≡ written + length bytes / 512) × (length bytes % 512 ≢ 0) × StoresPiece w d at (whole_of bytes) w'
LastEnds d at bytes w w' written n (cause.Write fault) = (n ≡ written) × EachWrite w d at (whole_of bytes) (Err fault) w'
LastEnds d at bytes w w' written n other = ⊥

abbrev pub IsLastEnd : ℕ → ℕ → ℕ → List ℕ → StackRecord → StackRecord → StoreFault → Type 0
IsLastEnd d at written bytes w w' fault = LastEnds d at bytes w w' written fault.written fault.cause

-- the reader has more bytes, or is broken
abbrev pub IsProbeEnd : Option (List ℕ) → Option (List ℕ) → Type 0 → StoreCause → Type 0
IsProbeEnd old new broken cause.TooLong = (more : List ℕ) × (0 < length more) × Consumes old new more
IsProbeEnd old new broken cause.Read = (more : List ℕ) × Consumes old new more × broken
IsProbeEnd old new broken other = ⊥

-- ---- in terms of the arguments of a call: the stack and a counted reader, before and after

abbrev pub StoresBy : {T : Type 0} → (T → Option (List ℕ)) → ℕ → StorePlace → StackRecord → CountedRecord T → StackRecord → CountedRecord T → ℕ → Type 0
StoresBy remaining d place stack reader stack' reader' n =
    Stores d place.first (store_side stack (remaining reader.inner)) (store_side stack' (remaining reader'.inner)) n

abbrev pub EndsStoreBy : {T : Type 0} → (T → Option (List ℕ)) → ℕ → StorePlace → StackRecord → CountedRecord T → StackRecord → CountedRecord T → StoreFault → Type 0
EndsStoreBy remaining d place stack reader stack' reader' fault =
    IsStoreEnd d place (store_side stack (remaining reader.inner)) (store_side stack' (remaining reader'.inner)) (IsBroken reader') fault

-- all bytes of the reader were written, and nothing is synced yet
abbrev pub HasStoredBy : {T : Type 0} → (T → Option (List ℕ)) → ℕ → StorePlace → StackRecord → CountedRecord T → StackRecord → CountedRecord T → ℕ → Type 0
HasStoredBy remaining d place stack reader stack' reader' n =
    HasStored d place.first n (store_side stack (remaining reader.inner)) (store_side stack' (remaining reader'.inner)) × IsAtEnd (remaining reader'.inner)

abbrev pub StopsStoreBy : {T : Type 0} → (T → Option (List ℕ)) → ℕ → StorePlace → StackRecord → CountedRecord T → StackRecord → CountedRecord T → StoreFault → Type 0
StopsStoreBy remaining d place stack reader stack' reader' fault =
    IsStoreStop d place.first (store_side stack (remaining reader.inner)) (store_side stack' (remaining reader'.inner)) (IsBroken reader') fault

-- the reader ends there, after so many sectors
abbrev pub EndsThere : {T : Type 0} → (T → Option (List ℕ)) → CountedRecord T → CountedRecord T → ℕ → ℕ → Type 0
EndsThere remaining reader reader' written =
    λ n. (n ≡ written) × Consumes (remaining reader.inner) (remaining reader'.inner) [] × IsAtEnd (remaining reader'.inner)

-- the reader doesn't end there
abbrev pub GoesFurther : {T : Type 0} → (T → Option (List ℕ)) → CountedRecord T → CountedRecord T → ℕ → StoreFault → Type 0
GoesFurther remaining reader reader' written =
    λ fault. (fault.written ≡ written) × IsProbeEnd (remaining reader.inner) (remaining reader'.inner) (IsBroken reader') fault.cause

-- the last bytes are whole sectors, and were written after `written` sectors
abbrev pub StoresLast : ℕ → ℕ → ℕ → List ℕ → StackRecord → StackRecord → ℕ → Type 0
StoresLast d at written bytes w w' =
    λ n. (n ≡ written + length bytes / 512) × (length bytes % 512 ≡ 0) × StoresPiece w d at (whole_of bytes) w'
