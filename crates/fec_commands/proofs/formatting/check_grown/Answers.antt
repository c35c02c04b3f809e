use Rattle.std.proofs.Common.{inl, inr, refl}
use Rattle.fec_commands.specs.declared.fault.FecFault.TheVariants.{Parity}
use Rattle.fec_commands.specs.FecFaults.{unopened}
use Rattle.fec_commands.proofs.EndingLemmas.{err-from}
use Rattle.fec_commands.proofs.formatting.check_grown.Goals as goal

pub returns-in_err-found-clause-err : goal.returns-in_err-found-clause-err
returns-in_err-found-clause-err g c =
    err-from c.from_residual.result _ (unopened c.in_err-found.field-0.0) c.from_residual.ensures.1
    (inl (record { file = c.in_err-found.field-0.0; unfound = c.in_err-found.ensures.err; is = refl }))

pub returns-in_err-check_fixed_size-clause-err : goal.returns-in_err-check_fixed_size-clause-err
returns-in_err-check_fixed_size-clause-err g c =
    let cause = c.in_err-check_fixed_size.field-0.0 in
    err-from c.from_residual-in_err-check_fixed_size.result _ (Parity cause) c.from_residual-in_err-check_fixed_size.ensures.1
    (inr (record { found = c.in_ok-found.found; cause = cause; finds = c.in_ok-found.ensures.ok; short = c.in_err-check_fixed_size.ensures.err; is = refl }))

pub returns-clause-ok : goal.returns-clause-ok
returns-clause-ok g c = record { found = c.in_ok-found.found; finds = c.in_ok-found.ensures.ok; fixed = c.in_ok-check_fixed_size.ensures.ok }
