use Rattle.std.proofs.Common.{◌≡◌, ap, inl, inr, refl, subst, ◌∙◌}
use Rattle.std.proofs.lemmas.Result.{IfErr-weaker, IfOk-weaker}
use Rattle.block_device.specs.Device.{Device}
use Rattle.device_adapters.specs.Parts.{part_before}
use Rattle.device_adapters.specs.Windows.{windowed}
use Rattle.verity_format.specs.Options.{superblock_with}
use Rattle.verity_format.specs.Superblock.{SuperRecord}
use Rattle.image_commands.specs.Places.{IsPartState, before}
use Rattle.image_commands.specs.TreeFormats.{IsPlacedTreeCause, IsTreeKept, IsTreeMade, tree_with}
use Rattle.image_commands.specs.TreePlaces.{HasNoShape}
use Rattle.image_commands.proofs.PlacedLemmas.{windowed-same}
use Rattle.image_commands.proofs.TreeLemmas.{made-left}
use Rattle.image_commands.proofs.tree_format.make_at.Goals as goal

pub returns-in-Ok-clause-ok : goal.returns-in-Ok-clause-ok
returns-in-Ok-clause-ok g c =
    let whole : Device = g.D.BlockDev.state c.args.data_dev in
    let data_dev : Device = before whole c.args.bounds.end in
    let part_dev : Device = windowed (g.D.BlockDev.state c.before-before.result.inner) c.before-before.result.part in
    let hash_dev : Device = g.H.BlockDev.state c.args.hash_dev in
    let hash_dev' : Device = g.H.BlockDev.state c.make_behind.result.0 in
    let same : part_dev ≡ data_dev = windowed-same _ whole _ (part_before whole c.args.bounds.end) (ap g.D.BlockDev.state c.before-before.ensures.inner) c.before-before.ensures.part in
    let params : c.in-Ok.params ≡ tree_with c.args.options data_dev = c.in-Ok.ensures.ok.0 ∙ ap (superblock_with c.args.options) (c.sectors.ensures.size ∙ ap (λ (d : Device). d.size) same) in
    IfOk-weaker c.make_behind.result.1 _ _
    (λ made m. subst (λ (s : SuperRecord). IsTreeMade (IsPartState g.D.BlockDev.state) (IsPartState g.H.BlockDev.state) s data_dev hash_dev c.args.bounds.first hash_dev' made) params (subst (λ (d : Device). IsTreeMade (IsPartState g.D.BlockDev.state) (IsPartState g.H.BlockDev.state) c.in-Ok.params d hash_dev c.args.bounds.first hash_dev' made) same (made-left m (λ device left. (left.0.inner, (left.0.part, left.1))))))
    c.make_behind.ensures.ok

pub returns-in-Ok-clause-err : goal.returns-in-Ok-clause-err
returns-in-Ok-clause-err g c =
    let whole : Device = g.D.BlockDev.state c.args.data_dev in
    let data_dev : Device = before whole c.args.bounds.end in
    let part_dev : Device = windowed (g.D.BlockDev.state c.before-before.result.inner) c.before-before.result.part in
    let hash_dev : Device = g.H.BlockDev.state c.args.hash_dev in
    let hash_dev' : Device = g.H.BlockDev.state c.make_behind.result.0 in
    let same : part_dev ≡ data_dev = windowed-same _ whole _ (part_before whole c.args.bounds.end) (ap g.D.BlockDev.state c.before-before.ensures.inner) c.before-before.ensures.part in
    let params : c.in-Ok.params ≡ tree_with c.args.options data_dev = c.in-Ok.ensures.ok.0 ∙ ap (superblock_with c.args.options) (c.sectors.ensures.size ∙ ap (λ (d : Device). d.size) same) in
    IfErr-weaker c.make_behind.result.1 _ _
    (λ fault ends. inr (subst (λ (s : SuperRecord). IsPlacedTreeCause (IsPartState g.D.BlockDev.state) (IsPartState g.H.BlockDev.state) s data_dev hash_dev c.args.bounds.first hash_dev' fault × IsTreeKept s hash_dev c.args.bounds.first hash_dev') params
    (subst (λ (d : Device). IsPlacedTreeCause (IsPartState g.D.BlockDev.state) (IsPartState g.H.BlockDev.state) c.in-Ok.params d hash_dev c.args.bounds.first hash_dev' fault × IsTreeKept c.in-Ok.params hash_dev c.args.bounds.first hash_dev') same
    ((ends.0.0, ((ends.0.1.0.0.inner, (ends.0.1.0.0.part, ends.0.1.0.1)), ends.0.1.1)), ends.1))))
    c.make_behind.ensures.err

pub returns-clause-err : goal.returns-clause-err
returns-clause-err g c =
    let whole : Device = g.D.BlockDev.state c.args.data_dev in
    let data_dev : Device = before whole c.args.bounds.end in
    let part_dev : Device = windowed (g.D.BlockDev.state c.before-before.result.inner) c.before-before.result.part in
    let same : part_dev ≡ data_dev = windowed-same _ whole _ (part_before whole c.args.bounds.end) (ap g.D.BlockDev.state c.before-before.ensures.inner) c.before-before.ensures.part in
    let params : superblock_with c.args.options c.sectors.result ≡ tree_with c.args.options data_dev = ap (superblock_with c.args.options) (c.sectors.ensures.size ∙ ap (λ (d : Device). d.size) same) in
    inl (subst (λ (s : SuperRecord). HasNoShape s c.in-Err.fault) params c.in-Err.ensures.err, refl)
