-- What is printed among the errors.
use Rattle.std.proofs.Common.{◌≡◌, ◌∙◌, ◌⊎◌, true, Result, Ok, Err, inl, inr}
use Rattle.program_io.specs.Counted.{CountedRecord, Writing}
use Rattle.program_io.specs.declared.fault.WriteFault.{WriteFault}

-- a writing was done, or the writer has failed
pub done-or-failed : {T P : Type 0} (old new : CountedRecord T) (r : Result Unit WriteFault) → Writing old new r P → P ⊎ (new.failed ≡ true)
done-or-failed old new (Ok done) writing = inl writing.ok
done-or-failed old new (Err fault) writing = inr writing.failed

-- a writer that had failed stays failed
pub failed-before : {T P : Type 0} (old new : CountedRecord T) (r : Result Unit WriteFault) → Writing old new r P → old.failed ≡ true → new.failed ≡ true
failed-before old new (Ok done) writing failed = writing.kept ∙ failed
failed-before old new (Err fault) writing failed = writing.failed
