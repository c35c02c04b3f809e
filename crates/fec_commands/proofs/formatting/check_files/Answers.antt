use Rattle.std.proofs.Common.{inl, inr, refl}
use Rattle.fec_commands.specs.declared.fault.FecFault.TheVariants.{Verity}
use Rattle.verity_commands.specs.declared.verity_fault.VerityFault.TheVariants.{Image}
use Rattle.fec_commands.proofs.EndingLemmas.{err-from}
use Rattle.fec_commands.proofs.formatting.check_files.Goals as goal

pub returns-in_err-check_file-clause-err : goal.returns-in_err-check_file-clause-err
returns-in_err-check_file-clause-err g c =
    let fault = c.in_err-check_file.field-0.0 in
    let unfit = rw c.places_of-watched.ensures at c.in_err-check_file.ensures.err in
    err-from c.from_residual.result _ fault c.from_residual.ensures.1 (inl unfit)

pub returns-in_err-check_other_file-clause-err : goal.returns-in_err-check_other_file-clause-err
returns-in_err-check_other_file-clause-err g c =
    let cause = c.in_err-check_other_file.field-0.0 in
    let fits = rw c.places_of-watched.ensures at c.in_ok-check_file.ensures.ok in
    err-from c.from_residual-in_err-check_other_file.result _ (Verity (Image cause)) c.from_residual-in_err-check_other_file.ensures.1
    (inr (inl (record { measured = c.check_file.new.images; cause = cause; fits = fits; same = c.in_err-check_other_file.ensures.err; is = refl })))

pub returns-in_err-check_root_path-clause-err : goal.returns-in_err-check_root_path-clause-err
returns-in_err-check_root_path-clause-err g c =
    let cause = c.in_err-check_root_path.field-0.0 in
    let fits = rw c.places_of-watched.ensures at c.in_ok-check_file.ensures.ok in
    let refused = rw c.places_of-watched.ensures at c.in_err-check_root_path.ensures.err in
    err-from c.from_residual-in_err-check_root_path.result _ (Verity (Image cause)) c.from_residual-in_err-check_root_path.ensures.1
    (inr (inr (record {
      measured = c.check_file.new.images;
      told = c.check_other_file.new.images;
      cause = cause;
      fits = fits;
      other = c.in_ok-check_other_file.ensures.ok;
      refused = refused;
      is = refl;
    })))

pub returns-clause-ok : goal.returns-clause-ok
returns-clause-ok g c =
    let fits = rw c.places_of-watched.ensures at c.in_ok-check_file.ensures.ok in
    let path = rw c.places_of-watched.ensures at c.in_ok-check_root_path.ensures.ok in
    record {
      measured = c.check_file.new.images;
      told = c.check_other_file.new.images;
      fits = fits;
      other = c.in_ok-check_other_file.ensures.ok;
      path = path;
    }
