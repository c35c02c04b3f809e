use Rattle.std.proofs.Common.{◌≡◌, Result, Ok, Err, IsErrAnd, IfOk, inl, refl, sym, ◌∙◌}
use Rattle.std.proofs.lemmas.Bool.{false≢true}
use Rattle.image_files.proofs.FileLemmas.{made}
use Rattle.image_files.proofs.PlaceLemmas.{err-from}
use Rattle.image_files.proofs.file_images.FileImagesImages.read_text.Goals as goal

-- a result that is a fault has no value
not-ok : {T E : Type 0} (r : Result T E) (P : T → Type 0) (fault : E) → IsErrAnd r (λ e. e ≡ fault) → IfOk r P
not-ok (Ok value) P fault is = absurd is
not-ok (Err e) P fault is = tt

pub returns-in_err-file-clause-told : goal.returns-in_err-file-clause-told
returns-in_err-file-clause-told g c =
    let result = c.from_residual-in_err-file.result in
    let is = c.from_residual-in_err-file.ensures.1 in (
      made _ _ _,
      refl,
      refl,
      not-ok result _ c.in_err-file.field-0.0 is,
      err-from result _ c.in_err-file.field-0.0 is (record {
        input = λ input. absurd (false≢true (sym c.if-is_input.false ∙ c.is_input.ensures.1 input));
        file = λ other. inl c.in_err-file.ensures.err;
      }),
    )
