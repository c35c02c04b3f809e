-- A reader or a writer that counts its reads, remembers a failure, and knows whether output remains to be flushed.
use Rattle.std.specs.Prelude.{◌≡◌, ◌≢◌, ℕ, List, Bool, true, Option, Result, OnOk, OnErr, IfErr}
use Rattle.std.specs.Io.KnownBytes.{Appends}
use Rattle.std.specs.IoError.{error_kind}
use Rattle.std.specs.declared.io.Error.{Error}
use Rattle.std.specs.declared.io.ErrorKind.TheVariants.{Interrupted}
use Rattle.program_io.specs.declared.fault.WriteFault.{WriteFault}

-- the reader or writer, the number of read calls, whether a call has failed, and whether anything was written since
-- the last successful flush
pub record CountedRecord (T : Type 0) : Type 0 where
  pub inner : T
  pub calls : ℕ
  pub failed : Bool
  pub pending : Bool

-- a read records a failure, except that of an interrupted call, which may be repeated
pub record Remembers {T : Type 0} (result : Result T Error) (old new : Bool) : Type 0 where
  pub ok : OnOk result (new ≡ old)
  pub interrupted : IfErr result (λ error. error_kind error ≡ Interrupted → new ≡ old)
  pub failed : IfErr result (λ error. error_kind error ≢ Interrupted → new ≡ true)

-- a write was done, or the writer failed and records the failure
pub record Writing {T : Type 0} (old new : CountedRecord T) (result : Result Unit WriteFault) (done : Type 0) : Type 0 where
  pub ok : OnOk result done
  pub kept : OnOk result (new.failed ≡ old.failed)
  pub failed : OnErr result (new.failed ≡ true)

-- the contents, if they are known, grew by a text for which P holds
pub record Grows (old new : Option (List ℕ)) (P : List ℕ → Type 0) : Type 0 where
  pub text : List ℕ
  pub holds : P text
  pub written : Appends old new text

-- this text was written
abbrev pub Writes : {T : Type 0} → (T → Option (List ℕ)) → CountedRecord T → CountedRecord T → List ℕ → Result Unit WriteFault → Type 0
Writes contents old new text result = Writing old new result (Appends (contents old.inner) (contents new.inner) text)

-- a text for which P holds was written
abbrev pub WritesSome : {T : Type 0} → (T → Option (List ℕ)) → CountedRecord T → CountedRecord T → (List ℕ → Type 0) → Result Unit WriteFault → Type 0
WritesSome contents old new P result = Writing old new result (Grows (contents old.inner) (contents new.inner) P)
