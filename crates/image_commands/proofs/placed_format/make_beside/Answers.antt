use Rattle.std.proofs.Common.{ap, refl, subst, sym}
use Rattle.std.proofs.lemmas.Result.{IfErr-weaker, IfOk-weaker}
use Rattle.device_adapters.specs.declared.part.Part.{Part}
use Rattle.device_adapters.specs.Parts.{StandOutside, outside_of, part_before, part_behind}
use Rattle.device_adapters.specs.Windows.{windowed}
use Rattle.image_commands.proofs.PlacedLemmas.{end-as, made-as, windowed-same}
use Rattle.image_commands.proofs.placed_format.make_beside.Goals as goal

pub returns-clause-ok : goal.returns-clause-ok
returns-clause-ok g c =
    let data_dev = g.D.BlockDev.state c.args.data_dev in
    let hash_dev = g.H.BlockDev.state c.args.hash_dev in
    let part = part_behind hash_dev c.args.bounds.first in
    let made_data = c.make-made.new.data_dev in
    let made_hash = c.make-made.new.hash_dev in
    let after = g.H.BlockDev.state c.into_inner.result in
    let kept : StandOutside after made_hash.part (outside_of hash_dev.image part) = c.into_inner.ensures.kept _ c.requires in
    let a = windowed-same _ data_dev _ (part_before data_dev c.args.bounds.end) (ap g.D.BlockDev.state c.before-before.ensures.inner) c.before-before.ensures.part in
    let b = windowed-same _ hash_dev _ part (ap g.H.BlockDev.state c.behind-behind.ensures.inner) c.behind-behind.ensures.part in
    let e = windowed-same (g.H.BlockDev.state made_hash.inner) after made_hash.part part (ap g.H.BlockDev.state (sym c.into_inner.ensures.value)) kept.place in
    IfOk-weaker c.make-made.result _ _
    (λ image made. record {
      data_dev' = windowed (g.D.BlockDev.state made_data.inner) made_data.part;
      left = (made_data.inner, (made_data.part, refl));
      made = made-as c.args.options _ _ _ _ _ _ _ image a b e made (λ device left. (left.0.inner, (left.0.part, left.1)));
      kept = subst (λ (p : Part). StandOutside after p (outside_of hash_dev.image part)) kept.place kept;
    })
    c.make-made.ensures.ok

pub returns-clause-err : goal.returns-clause-err
returns-clause-err g c =
    let data_dev = g.D.BlockDev.state c.args.data_dev in
    let hash_dev = g.H.BlockDev.state c.args.hash_dev in
    let part = part_behind hash_dev c.args.bounds.first in
    let made_data = c.make-made.new.data_dev in
    let made_hash = c.make-made.new.hash_dev in
    let after = g.H.BlockDev.state c.into_inner.result in
    let kept : StandOutside after made_hash.part (outside_of hash_dev.image part) = c.into_inner.ensures.kept _ c.requires in
    let a = windowed-same _ data_dev _ (part_before data_dev c.args.bounds.end) (ap g.D.BlockDev.state c.before-before.ensures.inner) c.before-before.ensures.part in
    let b = windowed-same _ hash_dev _ part (ap g.H.BlockDev.state c.behind-behind.ensures.inner) c.behind-behind.ensures.part in
    let e = windowed-same (g.H.BlockDev.state made_hash.inner) after made_hash.part part (ap g.H.BlockDev.state (sym c.into_inner.ensures.value)) kept.place in
    IfErr-weaker c.make-made.result _ _
    (λ fault ends. record {
      data_dev' = windowed (g.D.BlockDev.state made_data.inner) made_data.part;
      left = (made_data.inner, (made_data.part, refl));
      ends = end-as c.args.options _ _ _ _ _ _ _ fault a b e ends (λ device left. (left.0.inner, (left.0.part, left.1)));
      kept = subst (λ (p : Part). StandOutside after p (outside_of hash_dev.image part)) kept.place kept;
    })
    c.make-made.ensures.err
