use Rattle.std.proofs.Common.{ℕ, ap, false, inl, inr, refl, subst, true, ◌∙◌}
use Rattle.std.proofs.lemmas.Result.{IfErr-weaker, IfOk-weaker}
use Rattle.block_device.specs.Call.{DeviceDoes}
use Rattle.block_device.specs.Device.{Device}
use Rattle.verity_format.specs.declared.tree.VerityTree.{VerityTree}
use Rattle.verity_format.specs.Handing.{HandsTreeOver}
use Rattle.verity_format.specs.Image.{tree_sectors}
use Rattle.verity_format.proofs.lemmas.DeviceLemmas.{only_read-none}
use Rattle.image_commands.specs.ClearedTrees.{HandsTreeClearing}
use Rattle.image_commands.specs.Places.{IsStateOf}
use Rattle.image_commands.proofs.ClearingLemmas.{ended-and}
use Rattle.image_commands.proofs.ClearedTreeLemmas.{kept-is, kept-uncleared, made-is, uncleared-is, unfinished-is}
use Rattle.image_commands.proofs.cleared_tree.make_cleared.Goals as goal

pub returns-in_err-clear_first-clause-devices : goal.returns-in_err-clear_first-clause-devices
returns-in_err-clear_first-clause-devices g c =
    let s = c.args.params.now in
    let data_dev : Device = g.D.BlockDev.state c.args.data_dev.now in
    let hash_dev : Device = g.H.BlockDev.state c.args.hash_dev.now in
    let hash_dev' : Device = g.H.BlockDev.state c.clear_first.new.hash_dev in (
      only_read-none data_dev,
      kept-uncleared s hash_dev hash_dev'
          (uncleared-is s c.tree_alone-tree.result c.tree_sectors-sectors.result c.tree_alone-tree.ensures.value c.tree_sectors-sectors.ensures.value data_dev hash_dev hash_dev' c.in_err-clear_first.ensures.err),
    )

pub returns-clause-devices : goal.returns-clause-devices
returns-clause-devices g c =
    let s = c.args.params.now in
    let data_dev : Device = g.D.BlockDev.state c.args.data_dev.now in
    let hash_dev : Device = g.H.BlockDev.state c.args.hash_dev.now in
    let cleared : Device = g.H.BlockDev.state c.clear_first.new.hash_dev in
    let data_dev' : Device = g.D.BlockDev.state c.make_tree.new.data_dev in
    let hash_dev' : Device = g.H.BlockDev.state c.make_tree.new.hash_dev in (
      c.make_tree.ensures.devices.read,
      kept-is s c.tree_alone-tree.result c.tree_sectors-sectors.result c.tree_alone-tree.ensures.value c.tree_sectors-sectors.ensures.value data_dev hash_dev cleared
          c.in_ok-clear_first.ensures.ok data_dev' hash_dev' c.make_tree.ensures.devices.part,
    )

pub returns-clause-ok : goal.returns-clause-ok
returns-clause-ok g c =
    let s = c.args.params.now in
    let data_dev : Device = g.D.BlockDev.state c.args.data_dev.now in
    let hash_dev : Device = g.H.BlockDev.state c.args.hash_dev.now in
    let cleared : Device = g.H.BlockDev.state c.clear_first.new.hash_dev in
    let data_dev' : Device = g.D.BlockDev.state c.make_tree.new.data_dev in
    let hash_dev' : Device = g.H.BlockDev.state c.make_tree.new.hash_dev in
    IfOk-weaker c.make_tree.result _ _
    (λ root built.
    made-is s c.tree_alone-tree.result c.tree_sectors-sectors.result c.tree_alone-tree.ensures.value c.tree_sectors-sectors.ensures.value data_dev hash_dev cleared
    c.in_ok-clear_first.ensures.ok data_dev' hash_dev' (IsStateOf g.H.BlockDev.state) (c.clear_first.new.hash_dev, refl) c.in_ok-check_room.ensures root built)
    c.make_tree.ensures.ok

pub returns-in_err-check_room-clause-handed : goal.returns-in_err-check_room-clause-handed
returns-in_err-check_room-clause-handed g c = inr (ended-and _ c.from_residual.result c.from_residual.ensures.1 (refl, inl refl))

pub returns-in_err-clear_first-clause-handed : goal.returns-in_err-clear_first-clause-handed
returns-in_err-clear_first-clause-handed g c =
    let does = DeviceDoes g.H.BlockDev.state g.H.BlockDev.does in
    let count = c.tree_sectors-sectors.ensures.value ∙ ap (λ (t : VerityTree). tree_sectors t.shape) c.tree_alone-tree.ensures.value in
    inr (ended-and _ c.from_residual-in_err-clear_first.result c.from_residual-in_err-clear_first.ensures.1
    (refl, inr (subst (λ (n : ℕ). HandsTreeClearing n does c.args.hash_dev.now c.clear_first.new.hash_dev false) count c.in_err-clear_first.ensures.handed)))

pub returns-clause-handed : goal.returns-clause-handed
returns-clause-handed g c =
    let asks = DeviceDoes g.D.BlockDev.state g.D.BlockDev.does in
    let does = DeviceDoes g.H.BlockDev.state g.H.BlockDev.does in
    let count = c.tree_sectors-sectors.ensures.value ∙ ap (λ (t : VerityTree). tree_sectors t.shape) c.tree_alone-tree.ensures.value in
    inl (record {
      cleared = c.clear_first.new.hash_dev;
      clearing = subst (λ (n : ℕ). HandsTreeClearing n does c.args.hash_dev.now c.clear_first.new.hash_dev true) count c.in_ok-clear_first.ensures.handed;
      tree = subst (λ (t : VerityTree). HandsTreeOver asks does t.shape t.salt c.args.data_dev.now c.clear_first.new.hash_dev c.make_tree.new.data_dev c.make_tree.new.hash_dev c.make_tree.result) c.tree_alone-tree.ensures.value c.make_tree.ensures.handed;
    })

pub returns-clause-err : goal.returns-clause-err
returns-clause-err g c =
    let s = c.args.params.now in
    let data_dev : Device = g.D.BlockDev.state c.args.data_dev.now in
    let hash_dev : Device = g.H.BlockDev.state c.args.hash_dev.now in
    let cleared : Device = g.H.BlockDev.state c.clear_first.new.hash_dev in
    let data_dev' : Device = g.D.BlockDev.state c.make_tree.new.data_dev in
    let hash_dev' : Device = g.H.BlockDev.state c.make_tree.new.hash_dev in
    IfErr-weaker c.make_tree.result _ _
    (λ fault cause.
    inr (inr (unfinished-is s c.tree_alone-tree.result c.tree_sectors-sectors.result c.tree_alone-tree.ensures.value c.tree_sectors-sectors.ensures.value data_dev hash_dev cleared
    c.in_ok-clear_first.ensures.ok data_dev' hash_dev' (IsStateOf g.H.BlockDev.state) (c.clear_first.new.hash_dev, refl) c.in_ok-check_room.ensures fault cause)))
    c.make_tree.ensures.err
