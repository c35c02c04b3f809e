use Rattle.std.proofs.Common.{◌≡◌, List, ℕ, Result, ap, refl, subst, sym}
use Rattle.std.specs.Prelude.{IfErr, IfOk}
use Rattle.std.proofs.lemmas.Result.{IfErr-weaker, IfOk-weaker}
use Rattle.block_device.specs.Device.{Device}
use Rattle.device_adapters.specs.declared.part.Part.{Part}
use Rattle.device_adapters.specs.Parts.{StandOutside, outside_of, part_behind}
use Rattle.device_adapters.specs.Windows.{windowed}
use Rattle.verity_format.specs.declared.formatting.FormatFault.{FormatFault}
use Rattle.image_commands.specs.ClearedTrees.{IsClearedEnd, IsKeptBehind, IsMadeCleared}
use Rattle.image_commands.specs.Places.{IsPartState, IsStateOf}
use Rattle.image_commands.proofs.ClearedTreeLemmas.{end-known, made-known}
use Rattle.image_commands.proofs.PlacedLemmas.{windowed-same}
use Rattle.image_commands.proofs.TreeLemmas.{end-placed, made-placed}
use Rattle.image_commands.proofs.tree_format.make_beside.Goals as goal

pub returns-clause-ok : goal.returns-clause-ok
returns-clause-ok g c =
    let s = c.args.params in
    let data_dev : Device = g.D.BlockDev.state c.args.data_dev.now in
    let data_dev' : Device = g.D.BlockDev.state c.make_cleared-root.new.data_dev in
    let hash_dev : Device = g.H.BlockDev.state c.args.hash_dev in
    let hash_dev' : Device = g.H.BlockDev.state c.into_inner.result in
    let part : Part = part_behind hash_dev c.args.first in
    let image : Device = windowed (g.H.BlockDev.state c.make_cleared-root.new.hash_dev.inner) c.make_cleared-root.new.hash_dev.part in
    let image' : Device = windowed (g.H.BlockDev.state c.finish-made.new.hash_dev.inner) c.finish-made.new.hash_dev.part in
    let kept = c.into_inner.ensures.kept _ c.requires in
    let back : image' ≡ windowed hash_dev' part = windowed-same _ hash_dev' _ part (ap g.H.BlockDev.state (sym c.into_inner.ensures.value)) kept.place in
    let outside : StandOutside hash_dev' part (outside_of hash_dev.image part) = subst (λ (p : Part). StandOutside hash_dev' p (outside_of hash_dev.image part)) kept.place kept in
    let written : IsKeptBehind s (windowed hash_dev part) image = subst (λ (p : Part). IsKeptBehind s (windowed hash_dev p) image) c.behind-part.ensures.value c.make_cleared-root.ensures.devices.1 in
    let ok : IfOk c.make_cleared-root.result (IsMadeCleared (IsPartState g.H.BlockDev.state) s data_dev (windowed hash_dev part) data_dev' image) =
    subst (λ (p : Part). IfOk c.make_cleared-root.result (IsMadeCleared (IsPartState g.H.BlockDev.state) s data_dev (windowed hash_dev p) data_dev' image)) c.behind-part.ensures.value
    (IfOk-weaker c.make_cleared-root.result _ _ (λ root made. made-known s data_dev _ data_dev' image root made (λ device left. (left.0.inner, (left.0.part, left.1)))) c.make_cleared-root.ensures.ok) in
    IfOk-weaker c.finish-made.result _ _
    (λ made done. made-placed (IsStateOf g.D.BlockDev.state) (IsPartState g.H.BlockDev.state) s data_dev data_dev' hash_dev hash_dev' c.args.first (c.make_cleared-root.new.data_dev, refl) (g.met.H.BlockDev.whole c.args.hash_dev) image image' c.make_cleared-root.result written back outside made
    (subst (λ (r : Result (List ℕ) FormatFault). IfOk r (IsMadeCleared (IsPartState g.H.BlockDev.state) s data_dev (windowed hash_dev part) data_dev' image)) done.root_is ok) done)
    c.finish-made.ensures.ok

pub returns-clause-err : goal.returns-clause-err
returns-clause-err g c =
    let s = c.args.params in
    let data_dev : Device = g.D.BlockDev.state c.args.data_dev.now in
    let data_dev' : Device = g.D.BlockDev.state c.make_cleared-root.new.data_dev in
    let hash_dev : Device = g.H.BlockDev.state c.args.hash_dev in
    let hash_dev' : Device = g.H.BlockDev.state c.into_inner.result in
    let part : Part = part_behind hash_dev c.args.first in
    let image : Device = windowed (g.H.BlockDev.state c.make_cleared-root.new.hash_dev.inner) c.make_cleared-root.new.hash_dev.part in
    let image' : Device = windowed (g.H.BlockDev.state c.finish-made.new.hash_dev.inner) c.finish-made.new.hash_dev.part in
    let kept = c.into_inner.ensures.kept _ c.requires in
    let back : image' ≡ windowed hash_dev' part = windowed-same _ hash_dev' _ part (ap g.H.BlockDev.state (sym c.into_inner.ensures.value)) kept.place in
    let outside : StandOutside hash_dev' part (outside_of hash_dev.image part) = subst (λ (p : Part). StandOutside hash_dev' p (outside_of hash_dev.image part)) kept.place kept in
    let written : IsKeptBehind s (windowed hash_dev part) image = subst (λ (p : Part). IsKeptBehind s (windowed hash_dev p) image) c.behind-part.ensures.value c.make_cleared-root.ensures.devices.1 in
    let ok : IfOk c.make_cleared-root.result (IsMadeCleared (IsPartState g.H.BlockDev.state) s data_dev (windowed hash_dev part) data_dev' image) =
    subst (λ (p : Part). IfOk c.make_cleared-root.result (IsMadeCleared (IsPartState g.H.BlockDev.state) s data_dev (windowed hash_dev p) data_dev' image)) c.behind-part.ensures.value
    (IfOk-weaker c.make_cleared-root.result _ _ (λ root made. made-known s data_dev _ data_dev' image root made (λ device left. (left.0.inner, (left.0.part, left.1)))) c.make_cleared-root.ensures.ok) in
    let err : IfErr c.make_cleared-root.result (IsClearedEnd (IsPartState g.H.BlockDev.state) s data_dev (windowed hash_dev part) data_dev' image) =
    subst (λ (p : Part). IfErr c.make_cleared-root.result (IsClearedEnd (IsPartState g.H.BlockDev.state) s data_dev (windowed hash_dev p) data_dev' image)) c.behind-part.ensures.value
    (IfErr-weaker c.make_cleared-root.result _ _ (λ fault ends. end-known s data_dev _ data_dev' image fault ends (λ device left. (left.0.inner, (left.0.part, left.1)))) c.make_cleared-root.ensures.err) in
    IfErr-weaker c.finish-made.result _ _
    (λ fault ends. end-placed (IsStateOf g.D.BlockDev.state) (IsPartState g.H.BlockDev.state) s data_dev data_dev' hash_dev hash_dev' c.args.first (c.make_cleared-root.new.data_dev, refl) (g.met.H.BlockDev.whole c.args.hash_dev) image image' c.make_cleared-root.result written back outside fault ok err ends)
    c.finish-made.ensures.err
