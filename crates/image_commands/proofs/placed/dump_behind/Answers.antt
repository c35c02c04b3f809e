use Rattle.std.proofs.Common.{ap, refl, subst}
use Rattle.std.proofs.lemmas.Result.{IfErr-weaker, on_ok_weaker}
use Rattle.block_device.specs.Device.{Device}
use Rattle.device_adapters.specs.Parts.{part_behind}
use Rattle.device_adapters.specs.Windows.{windowed}
use Rattle.verity_format.specs.Verifying.{IsReadCause, IsReadFrom}
use Rattle.image_commands.specs.declared.fault.ImageFault.TheVariants.{Verify}
use Rattle.image_commands.specs.PlacedImages.{RefusesDumpOf}
use Rattle.image_commands.specs.SuperblockJson.{RefusesDump}
use Rattle.image_commands.proofs.lemmas.EndingLemmas.{common-as, may_end}
use Rattle.image_commands.proofs.OpeningLemmas.{err-from}
use Rattle.image_commands.proofs.PlacedLemmas.{windowed-same}
use Rattle.image_commands.proofs.placed.dump_behind.Goals as goal

pub returns-in_err-superblock-clause-err : goal.returns-in_err-superblock-clause-err
returns-in_err-superblock-clause-err g c =
    let hash_dev = g.H.BlockDev.state c.args.hash_dev in
    let new = c.read_superblock.new.hash_dev in
    let after = windowed (g.H.BlockDev.state new.inner) new.part in
    let b = windowed-same _ hash_dev _ (part_behind hash_dev c.args.first) (ap g.H.BlockDev.state c.behind-window.ensures.inner) c.behind-window.ensures.part in
    err-from c.from_residual.result _ (Verify c.in_err-superblock.field-0.0) c.from_residual.ensures.1
    (after, ((new.inner, (new.part, refl)), subst (λ (v : Device). IsReadCause v after c.in_err-superblock.field-0.0) b c.in_err-superblock.ensures.err))

pub returns-clause-err : goal.returns-clause-err
returns-clause-err g c =
    let hash_dev = g.H.BlockDev.state c.args.hash_dev in
    let failed = c.say_dump.new.writer.failed in
    let new = c.read_superblock.new.hash_dev in
    let after = windowed (g.H.BlockDev.state new.inner) new.part in
    let b = windowed-same _ hash_dev _ (part_behind hash_dev c.args.first) (ap g.H.BlockDev.state c.behind-window.ensures.inner) c.behind-window.ensures.part in
    let found = c.in_ok-superblock.ensures.found in
    let refuses : RefusesDump c.args.form → RefusesDumpOf c.args.first c.args.form hash_dev =
    (λ refused. record {
      super = c.in_ok-superblock.superblock;
      sector = found.0;
      super_read = subst (λ (v : Device). IsReadFrom v found.0 c.in_ok-superblock.superblock) b found.1;
      refused = refused;
    }) in
    IfErr-weaker c.say_dump.result _ _ (λ fault ends. (after, ((new.inner, (new.part, refl)), may_end _ _ failed fault (common-as failed refuses fault ends)))) c.say_dump.ensures.err

pub returns-clause-ok : goal.returns-clause-ok
returns-clause-ok g c =
    let hash_dev = g.H.BlockDev.state c.args.hash_dev in
    let b = windowed-same _ hash_dev _ (part_behind hash_dev c.args.first) (ap g.H.BlockDev.state c.behind-window.ensures.inner) c.behind-window.ensures.part in
    let found = c.in_ok-superblock.ensures.found in
    on_ok_weaker c.say_dump.result
    (λ printed. record {
      super = c.in_ok-superblock.superblock;
      sector = found.0;
      read = subst (λ (v : Device). IsReadFrom v found.0 c.in_ok-superblock.superblock) b found.1;
      pinned = refl;
      allowed = refl;
      printed = printed;
    })
    c.say_dump.ensures.ok
