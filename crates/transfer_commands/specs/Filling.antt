-- Buffers that are filled from a reader.
use Rattle.std.specs.Prelude.{◌≡◌, ◌⊎◌, ◌<◌, ◌≤◌, ◌-◌, ◌^◌, ℕ, true, List, length, take, Option}
use Rattle.std.specs.Io.KnownBytes.{Consumes, IsAtEnd}
use Rattle.program_io.specs.Counted.{CountedRecord}

-- The first n bytes of a buffer were read from the input. If n is less than the buffer's size, the input is at its end.
pub record FillsTo (old new : Option (List ℕ)) (buffer : List ℕ) (n : ℕ) : Type 0 where
  pub few : n ≤ length buffer
  pub taken : Consumes old new (take n buffer)
  pub ended : n < length buffer → IsAtEnd new

-- the reader failed, or was called 2^64 - 1 times
abbrev pub IsBroken : {R : Type 0} → CountedRecord R → Type 0
IsBroken reader = (reader.failed ≡ true) ⊎ (2 ^ 64 - 1 ≤ reader.calls)

-- Some bytes were read, and then the reader failed, or had been called 2^64 - 1 times.
pub record BreaksOff {R : Type 0} (remaining : R → Option (List ℕ)) (old new : CountedRecord R) : Type 0 where
  pub bytes : List ℕ
  pub taken : Consumes (remaining old.inner) (remaining new.inner) bytes
  pub cause : IsBroken new
