-- What `nbd` prints among the errors.
use Rattle.std.proofs.Common.{◌≡◌, ◌++◌, ℕ, Bool, true, false, List, Option, Result, inl, inr}
use Rattle.std.proofs.KnownBytes.{Appends-trans}
use Rattle.nbd_protocol.specs.Exports.{ExportRecord}
use Rattle.nbd_server.specs.FaultLines.{IsPrinted, IsReported, report_text}
use Rattle.nbd_server.specs.FaultLog.{MetFault}
use Rattle.nbd_server.specs.declared.known_faults.ExportFault.{ExportFault}
use Rattle.program_io.specs.Counted.{CountedRecord, Writes}
use Rattle.stack_rules.specs.Records.{Configuration}
use Rattle.program_io.specs.declared.fault.WriteFault.{WriteFault}
use Rattle.stack_files.specs.Warnings.{IsNoted, notes_of}
use Rattle.stack_commands.specs.ServiceLog.{IsNotedUnless, IsWarned}
use Rattle.stack_commands.proofs.EndingLemmas.{still-failed, written-or}

module _ {E : Type 0} (contents : E → Option (List ℕ)) where
  -- what is printed with `--quiet`
  pub unnoted : (c : Configuration) (old new : CountedRecord E) (quiet : Bool) (shows : ℕ → Type 0) (text : List MetFault → List ℕ) (faults : List ExportFault) → quiet ≡ true → IsWarned c (notes_of contents old new)
      → IsNotedUnless quiet c shows text (notes_of contents old new) faults
  unnoted c old new quiet shows text faults is warned = rw is warned

  -- a text is printed, or the writer fails
  pub printed-or : (old new : CountedRecord E) (text : List ℕ) (result : Result Unit WriteFault) → Writes contents old new text result → IsPrinted contents old new text
  printed-or old new text result writes = record { printed = written-or old new result _ writes; failed = still-failed old new result writes }

  -- one text after another
  noted-then : (old mid new : CountedRecord E) (first second : List ℕ) → IsNoted (notes_of contents old mid) first → (mid.failed ≡ true → new.failed ≡ true)
      → IsNoted (notes_of contents mid new) second → IsNoted (notes_of contents old new) (first ++ second)
  noted-then old mid new first second (inr failed) kept after = inr (kept failed)
  noted-then old mid new first second (inl before) kept (inr failed) = inr failed
  noted-then old mid new first second (inl before) kept (inl after) = inl (Appends-trans (contents old.inner) (contents mid.inner) (contents new.inner) first second before after)

  pub printed-then : (old mid new : CountedRecord E) (first second : List ℕ) → IsPrinted contents old mid first → IsPrinted contents mid new second → IsPrinted contents old new (first ++ second)
  printed-then old mid new first second before after =
      record { printed = noted-then old mid new first second before.printed after.failed after.printed; failed = λ failed. after.failed (before.failed failed) }

  -- three texts are printed without it, the second one on faults
  pub noted-all : (c : Configuration) (shows : ℕ → Type 0) (priorities : Bool) (exports : List ExportRecord) (old started served new : CountedRecord E) (quiet : Bool) (first third : List ℕ) (faults : List ExportFault) → quiet ≡ false
      → IsPrinted contents old started first → IsPrinted contents served new third → IsReported contents shows priorities exports started served faults
      → IsNotedUnless quiet c shows (λ met. first ++ (report_text priorities exports met ++ third)) (notes_of contents old new) faults
  noted-all c shows priorities exports old started served new quiet first third faults is start end reported =
      let second = report_text priorities exports reported.met in
      let rest = noted-then started served new second third reported.printed.printed end.failed end.printed in
      rw is (record {
        met = reported.met;
        faults_are = reported.faults_are;
        shown = reported.shown;
        noted = noted-then old started new first (second ++ third) start.printed (λ failed. end.failed (reported.printed.failed failed)) rest;
      })
