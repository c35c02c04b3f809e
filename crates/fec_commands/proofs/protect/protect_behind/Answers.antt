use Rattle.std.proofs.Common.{ap, inl, inr, refl, subst}
use Rattle.block_device.specs.Device.{Device}
use Rattle.device_adapters.specs.Parts.{part_before, part_behind}
use Rattle.device_adapters.specs.Windows.{windowed}
use Rattle.image_commands.specs.Places.{IsPartState}
use Rattle.fec_commands.specs.declared.fault.FecFault.TheVariants.{Parity}
use Rattle.fec_commands.specs.Protecting.{IsSealed, IsSealingEnd}
use Rattle.fec_commands.proofs.EndingLemmas.{err-from}
use Rattle.fec_commands.proofs.LayingLemmas.{layout_end-as, lays-as, windowed-same}
use Rattle.fec_commands.proofs.ProtectingLemmas.{sealed-left, sealing_end-left}
use Rattle.fec_commands.proofs.protect.protect_behind.Goals as goal

pub returns-in_err-laid-clause-err : goal.returns-in_err-laid-clause-err
returns-in_err-laid-clause-err g c =
    let data_dev = g.D.BlockDev.state c.args.data_dev in
    let hash_dev = g.H.BlockDev.state c.args.hash_dev in
    let read = c.lay_out.new.hash_dev in
    let read_dev = windowed (g.H.BlockDev.state read.inner) read.part in
    let a = windowed-same _ data_dev _ (part_before data_dev c.args.extent.end) (ap g.D.BlockDev.state c.before-before.ensures.inner) c.before-before.ensures.part in
    let b = windowed-same _ hash_dev _ (part_behind hash_dev c.args.extent.first) (ap g.H.BlockDev.state c.behind-behind.ensures.inner) c.behind-behind.ensures.part in
    let fault = c.in_err-laid.field-0.0 in
    err-from c.from_residual.result _ fault c.from_residual.ensures.1
    (inl (record { read_dev = read_dev; left = (read.inner, (read.part, refl)); ends = layout_end-as _ _ _ _ read_dev c.args.extent.first c.args.source.now fault a b c.in_err-laid.ensures.err; same = refl }))

pub write_synced-requires : goal.write_synced-requires
write_synced-requires g c = c.in_ok-laid.ensures.ok.laid_on

pub returns-in_err-write_synced-clause-err : goal.returns-in_err-write_synced-clause-err
returns-in_err-write_synced-clause-err g c =
    let data_dev = g.D.BlockDev.state c.args.data_dev in
    let hash_dev = g.H.BlockDev.state c.args.hash_dev in
    let read = c.lay_out.new.hash_dev in
    let read_dev = windowed (g.H.BlockDev.state read.inner) read.part in
    let a = windowed-same _ data_dev _ (part_before data_dev c.args.extent.end) (ap g.D.BlockDev.state c.before-before.ensures.inner) c.before-before.ensures.part in
    let b = windowed-same _ hash_dev _ (part_behind hash_dev c.args.extent.first) (ap g.H.BlockDev.state c.behind-behind.ensures.inner) c.behind-behind.ensures.part in
    let l = c.in_ok-laid.laid in
    let cause = c.in_err-write_synced.field-0.0 in
    let old = g.P.BlockDev.state c.args.parity.now in
    let new = g.P.BlockDev.state c.write_synced.new.parity_dev in
    err-from c.from_residual-in_err-write_synced.result _ (Parity cause) c.from_residual-in_err-write_synced.ensures.1
    (inr (record {
      laid = l;
      read_dev = read_dev;
      left = (read.inner, (read.part, refl));
      cause = cause;
      lays = lays-as _ _ _ _ read_dev c.args.extent.first c.args.source.now c.args.extent.roots l a b c.in_ok-laid.ensures.ok;
      ends = subst (λ (v : Device). IsSealingEnd (IsPartState g.D.BlockDev.state) (IsPartState g.H.BlockDev.state) l.layout v read_dev old new cause) a
          (sealing_end-left c.in_err-write_synced.ensures.err (λ device left. (left.0.inner, (left.0.part, left.1))) (λ device left. (left.0.inner, (left.0.part, left.1))));
      is = refl;
    }))

pub returns-clause-ok : goal.returns-clause-ok
returns-clause-ok g c =
    let data_dev = g.D.BlockDev.state c.args.data_dev in
    let hash_dev = g.H.BlockDev.state c.args.hash_dev in
    let read = c.lay_out.new.hash_dev in
    let read_dev = windowed (g.H.BlockDev.state read.inner) read.part in
    let a = windowed-same _ data_dev _ (part_before data_dev c.args.extent.end) (ap g.D.BlockDev.state c.before-before.ensures.inner) c.before-before.ensures.part in
    let b = windowed-same _ hash_dev _ (part_behind hash_dev c.args.extent.first) (ap g.H.BlockDev.state c.behind-behind.ensures.inner) c.behind-behind.ensures.part in
    let l = c.in_ok-laid.laid in
    let old = g.P.BlockDev.state c.args.parity.now in
    let new = g.P.BlockDev.state c.write_synced.new.parity_dev in
    record {
      laid = l;
      read_dev = read_dev;
      left = (read.inner, (read.part, refl));
      lays = lays-as _ _ _ _ read_dev c.args.extent.first c.args.source.now c.args.extent.roots l a b c.in_ok-laid.ensures.ok;
      sealed = subst (λ (v : Device). IsSealed (IsPartState g.D.BlockDev.state) (IsPartState g.H.BlockDev.state) l.layout v read_dev old new) a
          (sealed-left c.in_ok-write_synced.ensures.ok (λ device left. (left.0.inner, (left.0.part, left.1))) (λ device left. (left.0.inner, (left.0.part, left.1))));
    }
