use Rattle.std.proofs.Common.{ℕ, ap, arith, inl, inr, subst, sym, ◌∙◌}
use Rattle.block_device.specs.Device.{Device}
use Rattle.device_adapters.specs.Parts.{part_before, part_behind}
use Rattle.image_commands.specs.Places.{before, behind}
use Rattle.fec_commands.specs.Needed.{HasNone, IsNeeded, said_shape}
use Rattle.fec_commands.proofs.LayingLemmas.{windowed-same}
use Rattle.fec_commands.proofs.NeededLemmas.{takes-one}
use Rattle.fec_commands.proofs.fits.check_room.Goals as goal

pub returns-in-None-clause-ok : goal.returns-in-None-clause-ok
returns-in-None-clause-ok g c =
    let data_dev = g.D.BlockDev.state c.args.data_dev in
    let a = windowed-same _ data_dev _ (part_before data_dev c.args.extent.end) (ap g.D.BlockDev.state c.before-before.ensures.inner) c.before-before.ensures.part in
    inl (subst (λ (n : ℕ). HasNone c.args.wanted.now n) (c.sectors.ensures.size ∙ ap (λ (d : Device). d.size) a) c.in-None.ensures.none)

pub returns-then-sectors-needed-clause-err : goal.returns-then-sectors-needed-clause-err
returns-then-sectors-needed-clause-err g c =
    let data_dev = g.D.BlockDev.state c.args.data_dev in
    let hash_dev = g.H.BlockDev.state c.args.hash_dev in
    let a = windowed-same _ data_dev _ (part_before data_dev c.args.extent.end) (ap g.D.BlockDev.state c.before-before.ensures.inner) c.before-before.ensures.part in
    let b = windowed-same _ hash_dev _ (part_behind hash_dev c.args.extent.first) (ap g.H.BlockDev.state c.behind-behind.ensures.inner) c.behind-behind.ensures.part in
    let data_size = c.sectors.ensures.size ∙ ap (λ (d : Device). d.size) a in
    let hash_size = c.sectors-2.ensures.size ∙ ap (λ (d : Device). d.size) b in
    let roots = c.args.extent.roots in
    let needed = c.in-Some.needed in
    record {
      needs = subst (λ (n : ℕ). IsNeeded c.args.wanted.now n (behind hash_dev c.args.extent.first).size roots needed) data_size
          (subst (λ (n : ℕ). IsNeeded c.args.wanted.now c.sectors.result n roots needed) hash_size c.in-Some.ensures.some);
      short = omega arith;
    }

pub returns-clause-ok : goal.returns-clause-ok
returns-clause-ok g c =
    let data_dev = g.D.BlockDev.state c.args.data_dev in
    let hash_dev = g.H.BlockDev.state c.args.hash_dev in
    let a = windowed-same _ data_dev _ (part_before data_dev c.args.extent.end) (ap g.D.BlockDev.state c.before-before.ensures.inner) c.before-before.ensures.part in
    let b = windowed-same _ hash_dev _ (part_behind hash_dev c.args.extent.first) (ap g.H.BlockDev.state c.behind-behind.ensures.inner) c.behind-behind.ensures.part in
    let data_size = c.sectors.ensures.size ∙ ap (λ (d : Device). d.size) a in
    let hash_size = c.sectors-2.ensures.size ∙ ap (λ (d : Device). d.size) b in
    let wanted = c.args.wanted.now in
    let roots = c.args.extent.roots in
    let first = c.in-Some.needed in
    let needs : IsNeeded wanted (before data_dev c.args.extent.end).size (behind hash_dev c.args.extent.first).size roots first =
    subst (λ (n : ℕ). IsNeeded wanted n (behind hash_dev c.args.extent.first).size roots first) data_size
    (subst (λ (n : ℕ). IsNeeded wanted c.sectors.result n roots first) hash_size c.in-Some.ensures.some) in
    inr (λ needed is.
    let same = takes-one (said_shape wanted (before data_dev c.args.extent.end).size) (behind hash_dev c.args.extent.first).size roots first needed needs is in
    omega (arith, same, c.sectors-3.ensures.size, c.if-sectors-needed.false))
