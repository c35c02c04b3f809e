-- Bytes received from a client and sent to it.
use Rattle.std.specs.Prelude.{◌≡◌, ◌≢◌, ◌⊎◌, ◌<◌, ◌≤◌, ◌+◌, ◌-◌, ◌*◌, ◌^◌, ℕ, Bool, true, false, List, Vec, [], length, take, drop, Option, Some, None, IfNone, IfSome, option_map, Result, Ok, Err, if◌then◌else◌}
use Rattle.std.specs.Global.{Global}
use Rattle.std.specs.Io.KnownBytes.{Appends, Consumes, IsAtEnd}
use Rattle.allocation.specs.Refusal.{IsOutOfMemory}
use Rattle.block_device.specs.Device.{capped}
use Rattle.program_io.specs.Counted.{CountedRecord}
use Rattle.program_io.specs.Streams.{Streams}
use Rattle.nbd_protocol.specs.declared.fault.ServiceFault.{ServiceFault}
use Rattle.nbd_protocol.specs.declared.fault.ServiceFault.TheVariants.{Lost, ReadFault, WriteFault}

-- the fault of a result, if there is one
abbrev pub result_fault : {T : Type 0} → Result T ServiceFault → Option ServiceFault
result_fault (Ok value) = None
result_fault (Err fault) = Some fault

-- A reader that was called at least n times. A call failed only if the fault is `ReadFault`; then a call failed, or the reader
-- was called 2^64 - 1 times.
pub record HasRead {R : Type 0} (n : ℕ) (old new : CountedRecord R) (fault : Option ServiceFault) : Type 0 where
  pub calls : capped (old.calls + n) ≤ new.calls
  pub kept : fault ≢ Some ReadFault → new.failed ≡ old.failed
  pub failed : fault ≡ Some ReadFault → (new.failed ≡ true) ⊎ (2 ^ 64 - 1 ≤ new.calls)

-- A writer of which no call failed, unless the fault is `WriteFault`.
pub record HasWritten {W : Type 0} (old new : CountedRecord W) (fault : Option ServiceFault) : Type 0 where
  pub kept : fault ≢ Some WriteFault → new.failed ≡ old.failed
  pub failed : fault ≡ Some WriteFault → new.failed ≡ true

-- why no more bytes came: the input is at its end, or the reader failed
abbrev pub Stops : Option (List ℕ) → ServiceFault → Type 0
Stops input Lost = IsAtEnd input
Stops input ReadFault = Unit {0}
Stops input fault = ⊥

-- fewer than n bytes came
pub record IsShort (n : ℕ) (old new : Option (List ℕ)) (fault : ServiceFault) : Type 0 where
  pub part : List ℕ
  pub few : length part < n
  pub consumed : Consumes old new part
  pub cause : Stops new fault

-- a buffer was filled; or the input ended before its first byte (`false`), ended later (`Lost`), or the reader failed
abbrev pub Fills : Option (List ℕ) → Option (List ℕ) → List ℕ → Result Bool ServiceFault → Type 0
Fills old new bytes (Ok true) = Consumes old new bytes
Fills old new bytes (Ok false) = Consumes old new [] × IsAtEnd new
Fills old new bytes (Err fault) = (short : IsShort (length bytes) old new fault) × (fault ≡ Lost → 0 < length short.part)

-- `count` bytes of a buffer, from `start` on, were filled from a reader, or not
abbrev pub FillsPart : {R : Type 0} → (R → Option (List ℕ)) → CountedRecord R → CountedRecord R → ℕ → ℕ → List ℕ → Result Bool ServiceFault → Type 0
FillsPart remaining old new start count buffer result = Fills (remaining old.inner) (remaining new.inner) (take count (drop start buffer)) result

-- n bytes were received
pub record Takes (n : ℕ) (old new : Option (List ℕ)) : Type 0 where
  pub bytes : List ℕ
  pub count : length bytes ≡ n
  pub consumed : Consumes old new bytes

-- n bytes were received, and they are `found` if it is there
pub record TakesInto (found : Option (List ℕ)) (n : ℕ) (old new : Option (List ℕ)) : Type 0 where
  pub takes : Takes n old new
  pub kept : IfSome found (λ bytes. bytes ≡ takes.bytes)

-- the data of an option, at the beginning of a buffer if they fit
abbrev pub content_in : Bool → ℕ → List ℕ → Option (List ℕ)
content_in fits count room = if fits then Some (take count room) else None

-- `count` bytes, at least one, lie within so many sectors from offset `start` on
pub record HavePlace (sectors start count : ℕ) : Type 0 where
  pub some : 0 < count
  pub few : sectors < 2 ^ 32
  pub inside : start + count ≤ 512 * sectors

-- n bytes were received and are at offset `start` of so many sectors, unless the allocation of the sectors was refused
pub record TakesToPlace (found : Option (Vec ℕ Global)) (sectors start n : ℕ) (old new : Option (List ℕ)) : Type 0 where
  pub taken : TakesInto (option_map (λ v. take n (drop start v.items)) found) n old new
  pub room : IfSome found (λ v. length v.items ≡ 512 * sectors)
  pub refused : IfNone found (IsOutOfMemory (512 * sectors))

-- n bytes were received from a reader, and are at offset `start` of so many sectors, unless the allocation was refused
abbrev pub TakesSectors : {R : Type 0} → (R → Option (List ℕ)) → CountedRecord R → CountedRecord R → ℕ → ℕ → ℕ → Option (Vec ℕ Global) → Type 0
TakesSectors remaining old new sectors start n found = TakesToPlace found sectors start n (remaining old.inner) (remaining new.inner)

-- `Is` holds of the bytes that were received and sent
pub record Spoken (old new : Streams) (Is : List ℕ → List ℕ → Type 0) : Type 0 where
  pub taken : List ℕ
  pub written : List ℕ
  pub consumed : Consumes old.input new.input taken
  pub appended : Appends old.output new.output written
  pub holds : Is taken written
