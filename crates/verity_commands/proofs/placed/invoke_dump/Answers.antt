use Rattle.verity_commands.specs.declared.verity_fault.VerityFault.TheVariants as verity
use Rattle.verity_commands.proofs.EndingLemmas.{err-from}
use Rattle.verity_commands.proofs.placed.invoke_dump.Goals as goal

pub returns-in_err-dump_placed-clause-err : goal.returns-in_err-dump_placed-clause-err
returns-in_err-dump_placed-clause-err g c =
    let fault = c.in_err-dump_placed.field-0.0 in
    let ends = rw c.sector_at.ensures at c.in_err-dump_placed.ensures.err in
    err-from c.from_residual.result _ (verity.Image fault) c.from_residual.ensures.1 (ends, c.in_err-dump_placed.ensures.quiet)
