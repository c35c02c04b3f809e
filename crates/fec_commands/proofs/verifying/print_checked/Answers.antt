use Rattle.std.proofs.Common.{refl}
use Rattle.fec_commands.specs.declared.fault.FecFault.TheVariants.{Parity}
use Rattle.fec_commands.specs.FecFaults.{unwritten}
use Rattle.fec_commands.proofs.EndingLemmas.{err-from}
use Rattle.fec_commands.proofs.verifying.print_checked.Goals as goal

pub returns-in_err-round-clause-err : goal.returns-in_err-round-clause-err
returns-in_err-round-clause-err g c =
    let cause = c.in_err-round.field-0.0 in
    err-from c.from_residual.result _ (Parity cause) c.from_residual.ensures.1 (
      record {
        data_dev' = g.D.BlockDev.state c.check_parity.new.data_dev;
        hash_dev' = g.H.BlockDev.state c.check_parity.new.hash_dev;
        parity_dev' = g.P.BlockDev.state c.check_parity.new.parity_dev;
        left = ((c.check_parity.new.data_dev, refl), (c.check_parity.new.hash_dev, refl), (c.check_parity.new.parity_dev, refl));
        fails = c.in_err-round.ensures.err;
      },
      refl,
    )

pub returns-in-Some-clause-err : goal.returns-in-Some-clause-err
returns-in-Some-clause-err g c = (rw c.in-Some.is at c.in_ok-round.ensures.ok, refl)

pub returns-in_err-put-in-None-clause-err : goal.returns-in_err-put-in-None-clause-err
returns-in_err-put-in-None-clause-err g c =
    let checked = rw c.in-None.is at c.in_ok-round.ensures.ok in
    err-from c.from_residual-in_err-put-in-None.result _ unwritten c.from_residual-in_err-put-in-None.ensures.1 (checked, (c.in_err-put-in-None.ensures.writes.failed, refl))

pub returns-in_ok-put-in-None-clause-ok : goal.returns-in_ok-put-in-None-clause-ok
returns-in_ok-put-in-None-clause-ok g c = record { checked = rw c.in-None.is at c.in_ok-round.ensures.ok; printed = c.in_ok-put-in-None.ensures.writes.ok }
