use Rattle.std.proofs.Common.{ap, arith, inl, inr, refl}
use Rattle.fec_area.specs.declared.writing.ParityFault.TheVariants.{TooSmall}
use Rattle.fec_commands.specs.declared.fault.FecFault.TheVariants.{Parity}
use Rattle.fec_commands.proofs.EndingLemmas.{err-from}
use Rattle.fec_commands.proofs.verifying.measure.Goals as goal

pub returns-in_err-laid-clause-err : goal.returns-in_err-laid-clause-err
returns-in_err-laid-clause-err g c =
    err-from c.from_residual.result _ c.in_err-laid.field-0.0 c.from_residual.ensures.1 (inl (g.H.BlockDev.state c.lay_out.new.hash_dev, (c.lay_out.new.hash_dev, refl), c.in_err-laid.ensures.err))

pub returns-then-sectors-needed-clause-err : goal.returns-then-sectors-needed-clause-err
returns-then-sectors-needed-clause-err g c =
    inr (record {
      laid = c.in_ok-laid.laid;
      read_dev = g.H.BlockDev.state c.lay_out.new.hash_dev;
      left = (c.lay_out.new.hash_dev, refl);
      lays = c.in_ok-laid.ensures.ok;
      short = omega (arith, c.parity_sectors-needed.ensures);
      is = ap (λ n. Parity (TooSmall n)) c.parity_sectors-needed.ensures;
    })

pub returns-clause-ok : goal.returns-clause-ok
returns-clause-ok g c = record { lays = c.in_ok-laid.ensures.ok; room = omega (arith, c.parity_sectors-needed.ensures) }
