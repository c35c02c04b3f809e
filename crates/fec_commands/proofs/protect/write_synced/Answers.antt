use Rattle.std.proofs.Common.{inl, inr, refl}
use Rattle.fec_area.specs.declared.writing.ParityFault.TheVariants.{Device as DeviceFailed}
use Rattle.fec_commands.proofs.EndingLemmas.{err-from}
use Rattle.fec_commands.proofs.protect.write_synced.Goals as goal

pub returns-in_err-write_parity-clause-err : goal.returns-in_err-write_parity-clause-err
returns-in_err-write_parity-clause-err g c =
    err-from c.from_residual.result _ c.in_err-write_parity.field-0.0 c.from_residual.ensures.1
    (inl (record {
      data_dev' = g.D.BlockDev.state c.write_parity.new.data_dev;
      hash_dev' = g.H.BlockDev.state c.write_parity.new.hash_dev;
      left = ((c.write_parity.new.data_dev, refl), (c.write_parity.new.hash_dev, refl));
      cause = c.in_err-write_parity.ensures.err;
      only = c.in_err-write_parity.ensures.written;
    }))

pub returns-in_err-sync-clause-err : goal.returns-in_err-sync-clause-err
returns-in_err-sync-clause-err g c =
    err-from c.from_residual-in_err-sync.result _ DeviceFailed c.from_residual-in_err-sync.ensures.1
    (inr (record {
      data_dev' = g.D.BlockDev.state c.write_parity.new.data_dev;
      hash_dev' = g.H.BlockDev.state c.write_parity.new.hash_dev;
      left = ((c.write_parity.new.data_dev, refl), (c.write_parity.new.hash_dev, refl));
      written_dev = g.P.BlockDev.state c.write_parity.new.parity_dev;
      written = c.in_ok-write_parity.ensures.ok;
      only = c.in_ok-write_parity.ensures.written;
      failed = c.in_err-sync.ensures.err;
      is = refl;
    }))

pub returns-clause-ok : goal.returns-clause-ok
returns-clause-ok g c = record {
  data_dev' = g.D.BlockDev.state c.write_parity.new.data_dev;
  hash_dev' = g.H.BlockDev.state c.write_parity.new.hash_dev;
  left = ((c.write_parity.new.data_dev, refl), (c.write_parity.new.hash_dev, refl));
  written_dev = g.P.BlockDev.state c.write_parity.new.parity_dev;
  written = c.in_ok-write_parity.ensures.ok;
  only = c.in_ok-write_parity.ensures.written;
  is_synced = c.in_ok-sync.ensures.ok;
}
