-- The sectors of another device that are written to a mapped device.
use Rattle.std.specs.Prelude.{◌≡◌, ◌⊎◌, ℕ, ◌+◌, ◌*◌, IsTrue, List, length, Some, Ok, Err}
use Rattle.std.specs.List.{concat}
use Rattle.block_device.specs.Device.{Device, HasFailed, run_of}
use Rattle.stack_engine.specs.Stacks.{StackRecord}
use Rattle.stack_engine.specs.WritePieces.{EachWrite, WritesInPieces}
use Rattle.request_queue.specs.AtOnce.{WritesBeside}
use Rattle.request_queue.specs.Ranges.{range_at}
use Rattle.transfer_commands.specs.declared.stream_fault.StoreCause.{StoreCause}
use Rattle.transfer_commands.specs.declared.stream_fault.StoreCause.TheVariants as cause
use Rattle.transfer_commands.specs.declared.stream_fault.StoreFault.{StoreFault}
use Rattle.transfer_commands.specs.declared.input.StorePlace.{StorePlace}
use Rattle.transfer_commands.specs.Stores.{IsSynced, IsSyncTried, IsStoreUnsynced, put_refusal}

-- all sectors of a source, to be written from sector `first` on
abbrev pub image_place : ℕ → Device → StorePlace
image_place first source = record { first = first; length = Some (source.size * 512) }

-- The first n sectors of the source were read, and written to device d from its sector `first` on, in pieces that split no unit
-- that fits in one. If the source is steady, the bytes are the stored ones.
pub record HasStoredImage (d first n : ℕ) (w : StackRecord) (source : Device) (w' : StackRecord) : Type 0 where
  pub bytes : List ℕ
  pub count : length bytes ≡ 512 * n
  pub pieces : WritesInPieces w d first bytes (Ok tt) w'
  pub steps : WritesBeside (range_at d first source.size) w bytes (Ok tt) w'
  pub held : IsTrue source.steady → bytes ≡ concat (run_of source.image 0 n)

-- all sectors were written and synced
pub record StoresImage (d first : ℕ) (w : StackRecord) (source : Device) (w' : StackRecord) (n : ℕ) : Type 0 where
  pub left : StackRecord
  pub stored : HasStoredImage d first n w source left
  pub all : n ≡ source.size
  pub synced : IsSynced left w'

-- why writing stopped after n sectors: the source failed, or a write did
abbrev pub ImageStopsAt : ℕ → ℕ → ℕ → StackRecord → Device → StackRecord → Device → StoreCause → Type 0
ImageStopsAt d first n w source w' source' cause.Read = HasStoredImage d first n w source w' × HasFailed source source'
ImageStopsAt d first n w source w' source' (cause.Write fault) =
    (left : StackRecord) × HasStoredImage d first n w source left × (piece : List ℕ) × EachWrite left d (first + n) piece (Err fault) w'
ImageStopsAt d first n w source w' source' other = ⊥

-- writing stopped, and the sectors written so far were synced, or the sync of a backing device failed
pub record IsImageStopSynced (d first : ℕ) (w : StackRecord) (source : Device) (w' : StackRecord) (source' : Device) (fault : StoreFault) : Type 0 where
  pub left : StackRecord
  pub stops : ImageStopsAt d first fault.written w source left source' fault.cause
  pub synced : IsSyncTried left w'

-- all sectors were written, and the sync of a backing device failed
pub record IsImageSyncStop (d first : ℕ) (w : StackRecord) (source : Device) (w' : StackRecord) (fault : StoreFault) : Type 0 where
  pub left : StackRecord
  pub stored : HasStoredImage d first fault.written w source left
  pub unsynced : IsStoreUnsynced fault.cause left w'

-- the request was refused before, and nothing was done
pub record IsImageRefused (d first : ℕ) (w : StackRecord) (source : Device) (w' : StackRecord) (source' : Device) (fault : StoreFault) : Type 0 where
  pub why : put_refusal w.config d (image_place first source) ≡ Some fault.cause
  pub none : fault.written ≡ 0
  pub same : w' ≡ w
  pub unread : source' ≡ source

abbrev pub IsStoredEnd : ℕ → ℕ → StackRecord → Device → StackRecord → Device → StoreFault → Type 0
IsStoredEnd d first w source w' source' fault =
    IsImageRefused d first w source w' source' fault
    ⊎ (IsImageStopSynced d first w source w' source' fault ⊎ IsImageSyncStop d first w source w' fault)

-- ---- in terms of the arguments of a call

-- all sectors of the source were written, and nothing is synced yet
abbrev pub HasStoredAll : ℕ → ℕ → StackRecord → Device → StackRecord → ℕ → Type 0
HasStoredAll d first w source w' = λ n. HasStoredImage d first n w source w' × (n ≡ source.size)

-- not all sectors were written, by the source before and after
abbrev pub StopsImage : {T : Type 0} → (T → Device) → ℕ → ℕ → StackRecord → T → StackRecord → T → StoreFault → Type 0
StopsImage state d first w source w' source' = λ fault. ImageStopsAt d first fault.written w (state source) w' (state source') fault.cause
