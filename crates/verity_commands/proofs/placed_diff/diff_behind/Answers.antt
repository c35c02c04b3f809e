use Rattle.std.proofs.Common.{ap, sym}
use Rattle.std.proofs.Math.Path.{subst₂}
use Rattle.std.proofs.lemmas.Result.{IfErr-weaker, on_ok_weaker}
use Rattle.block_device.specs.Device.{Device}
use Rattle.device_adapters.specs.Windows.{windowed}
use Rattle.tree_difference.specs.Comparisons.{difference_world}
use Rattle.verity_commands.specs.DiffImages.{DiffsWorld, IsWorldEnd}
use Rattle.verity_commands.proofs.placed_diff.diff_behind.Goals as goal

pub returns-clause-ok : goal.returns-clause-ok
returns-clause-ok g c =
    let state = g.D.BlockDev.state in
    let starts = c.args.starts.now in
    let sought = c.args.sought.now in
    let form = c.args.form in
    let new = c.diff_devices-ended.new.two in
    let first' = windowed (state new.first.device.inner) new.first.device.part in
    let second' = windowed (state new.second.device.inner) new.second.device.part in
    let writer = c.diff_devices-ended.new.writer in
    let old = g.W.Write.contents c.args.writer.now.inner in
    let printed = g.W.Write.contents writer.inner in
    on_ok_weaker c.diff_devices-ended.result (λ done. record {
      first' = first';
      second' = second';
      left = (
        (new.first.device.part, ap (λ d. windowed (state d) new.first.device.part) (sym c.whole_files.ensures.first)),
        (new.second.device.part, ap (λ d. windowed (state d) new.second.device.part) (sym c.whole_files.ensures.second)),
      );
      holds = subst₂ (λ (a b : Device). DiffsWorld (difference_world a b first' second' old printed) starts sought form) c.place_both-placed.ensures.first c.place_both-placed.ensures.second done;
    }) c.diff_devices-ended.ensures.ok

pub returns-clause-err : goal.returns-clause-err
returns-clause-err g c =
    let state = g.D.BlockDev.state in
    let starts = c.args.starts.now in
    let sought = c.args.sought.now in
    let form = c.args.form in
    let new = c.diff_devices-ended.new.two in
    let first' = windowed (state new.first.device.inner) new.first.device.part in
    let second' = windowed (state new.second.device.inner) new.second.device.part in
    let writer = c.diff_devices-ended.new.writer in
    let old = g.W.Write.contents c.args.writer.now.inner in
    let printed = g.W.Write.contents writer.inner in
    IfErr-weaker c.diff_devices-ended.result _ _ (λ fault ends. record {
      first' = first';
      second' = second';
      left = (
        (new.first.device.part, ap (λ d. windowed (state d) new.first.device.part) (sym c.whole_files.ensures.first)),
        (new.second.device.part, ap (λ d. windowed (state d) new.second.device.part) (sym c.whole_files.ensures.second)),
      );
      holds = subst₂ (λ (a b : Device). IsWorldEnd (difference_world a b first' second' old printed) starts sought form writer.failed fault) c.place_both-placed.ensures.first c.place_both-placed.ensures.second ends;
    }) c.diff_devices-ended.ensures.err
