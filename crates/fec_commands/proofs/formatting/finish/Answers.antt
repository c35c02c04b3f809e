use Rattle.std.proofs.Common.{inl, inr, refl}
use Rattle.fec_commands.specs.declared.fault.FecFault.TheVariants.{Verity}
use Rattle.verity_commands.specs.declared.verity_fault.VerityFault.TheVariants.{Image}
use Rattle.fec_commands.proofs.EndingLemmas.{err-from}
use Rattle.fec_commands.proofs.formatting.finish.Goals as goal

pub returns-in_err-protect-clause-err : goal.returns-in_err-protect-clause-err
returns-in_err-protect-clause-err g c =
    let fault = c.in_err-protect.field-0.0 in
    let ends = rw (c.places_of-watched.ensures, c.made_source-source.ensures) at c.in_err-protect.ensures.err in
    err-from c.from_residual.result _ fault c.from_residual.ensures.1 (inl ends)

pub returns-in_err-check_other_file-clause-err : goal.returns-in_err-check_other_file-clause-err
returns-in_err-check_other_file-clause-err g c =
    let cause = c.in_err-check_other_file.field-0.0 in
    let protects = rw (c.places_of-watched.ensures, c.made_source-source.ensures) at c.in_ok-protect.ensures.ok in
    err-from c.from_residual-in_err-check_other_file.result _ (Verity (Image cause)) c.from_residual-in_err-check_other_file.ensures.1
    (inr (inl (record { sealed = c.protect.new.images; cause = cause; protects = protects; same = c.in_err-check_other_file.ensures.err; is = refl })))

pub returns-in_err-write_root-clause-err : goal.returns-in_err-write_root-clause-err
returns-in_err-write_root-clause-err g c =
    let cause = c.in_err-write_root.field-0.0 in
    let protects = rw (c.places_of-watched.ensures, c.made_source-source.ensures) at c.in_ok-protect.ensures.ok in
    let unwritten = rw (c.places_of-watched.ensures, c.pin_of_image-pin.ensures) at c.in_err-write_root.ensures.err in
    err-from c.from_residual-in_err-write_root.result _ (Verity (Image cause)) c.from_residual-in_err-write_root.ensures.1
    (inr (inr (record {
      sealed = c.protect.new.images;
      told = c.check_other_file.new.images;
      cause = cause;
      protects = protects;
      other = c.in_ok-check_other_file.ensures.ok;
      unwritten = unwritten;
      is = refl;
    })))

pub returns-clause-ok : goal.returns-clause-ok
returns-clause-ok g c =
    let protects = rw (c.places_of-watched.ensures, c.made_source-source.ensures) at c.in_ok-protect.ensures.ok in
    let writes = rw (c.places_of-watched.ensures, c.pin_of_image-pin.ensures) at c.in_ok-write_root.ensures.ok in
    record {
      sealed = c.protect.new.images;
      told = c.check_other_file.new.images;
      protects = protects;
      other = c.in_ok-check_other_file.ensures.ok;
      writes = writes;
    }
