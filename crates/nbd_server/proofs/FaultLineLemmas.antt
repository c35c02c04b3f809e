-- Lines of faults as they are printed.
use Rattle.std.proofs.Common.{◌≡◌, ◌≤◌, ◌++◌, ℕ, true, List, [], length, Option, ap, arith, inl, inr, sym}
use Rattle.std.specs.Prelude.{◌⊎◌}
use Rattle.std.specs.Io.KnownBytes.{Appends}
use Rattle.std.proofs.KnownBytes.{Appends-nil, Appends-trans}
use Rattle.std.proofs.lemmas.List.{get_or_past, length-map}
use Rattle.nbd_protocol.specs.Exports.{ExportRecord, export_at, export_record, export_records, no_export}
use Rattle.nbd_protocol.specs.declared.export.Export.{Export}
use Rattle.nbd_server.specs.FaultLines.{IsPrinted}
use Rattle.program_io.specs.Counted.{CountedRecord}

-- the name of an export that isn't there
pub no-name : (exports : List Export) (place : ℕ) → length exports ≤ place → [] ≡ (export_at (export_records exports) place).name
no-name exports place past = sym (ap (λ (e : ExportRecord). e.name) (get_or_past (export_records exports) place no_export (omega (arith, past, length-map exports export_record))))

module _ {E : Type 0} (contents : E → Option (List ℕ)) where
  pub printed-none : (at : CountedRecord E) → IsPrinted contents at at []
  printed-none at = record { printed = inl (Appends-nil (contents at.inner)); failed = λ failed. failed }

  -- one text after another
  printed-then : (old mid new : CountedRecord E) (first second : List ℕ) → Appends (contents old.inner) (contents mid.inner) first ⊎ (mid.failed ≡ true) → (mid.failed ≡ true → new.failed ≡ true)
      → Appends (contents mid.inner) (contents new.inner) second ⊎ (new.failed ≡ true) → Appends (contents old.inner) (contents new.inner) (first ++ second) ⊎ (new.failed ≡ true)
  printed-then old mid new first second (inr failed) kept after = inr (kept failed)
  printed-then old mid new first second (inl before) kept (inr failed) = inr failed
  printed-then old mid new first second (inl before) kept (inl after) = inl (Appends-trans (contents old.inner) (contents mid.inner) (contents new.inner) first second before after)

  pub printed-both : (old mid new : CountedRecord E) (first second : List ℕ) → IsPrinted contents old mid first → IsPrinted contents mid new second → IsPrinted contents old new (first ++ second)
  printed-both old mid new first second before after = record {
    printed = printed-then old mid new first second before.printed after.failed after.printed;
    failed = λ failed. after.failed (before.failed failed);
  }
