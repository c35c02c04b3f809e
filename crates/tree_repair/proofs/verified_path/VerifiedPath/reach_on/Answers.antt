use Rattle.std.proofs.Common.{◌+◌, ◌≤◌, ap, arith, inl, inr}
use Rattle.std.proofs.lemmas.Bool.{false≢true}
use Rattle.tree_shape.specs.Shape.{ShapeRecord, levels}
use Rattle.verity_format.specs.Image.{tree_sectors}
use Rattle.tree_repair.specs.Jobs.{job}
use Rattle.tree_repair.proofs.VerifiedPathLemmas.{cut-off, leads-kept, tree-down, tree-kept, way-down, way-within}
use Rattle.block_device.specs.Call.{DeviceDoes}
use Rattle.tree_repair.proofs.RepairCallLemmas.{calls-path}
use Rattle.tree_repair.proofs.verified_path.VerifiedPath.reach_on.Goals as goal

pub descend-requires : goal.descend-requires
descend-requires g c =
    let same = c.requires.tree.shape_is in
    record {
      index = omega (arith, c.requires.place.inside, ap (λ (s : ShapeRecord). s.blocks) same);
      order = c.shared_level-from.ensures.high;
      few = omega (arith, c.shared_level-from.ensures.few, ap levels same);
      fits = omega (arith, c.requires.fits, ap tree_sectors same);
    }

pub returns-in-Ok-None-clause-tree : goal.returns-in-Ok-None-clause-tree
returns-in-Ok-None-clause-tree g c =
    let down = rw c.in-Ok-None.field-0-is at c.in-Ok-None.ensures.ok in
    tree-down (job c.args.repair.now).tree c.requires.tree c.shared_level-from.ensures.leads down

pub returns-in-Ok-None-clause-way : goal.returns-in-Ok-None-clause-way
returns-in-Ok-None-clause-way g c =
    let down = rw c.in-Ok-None.field-0-is at c.in-Ok-None.ensures.ok in
    way-down (job c.args.repair.now).tree c.requires.tree c.shared_level-from.ensures.leads c.requires.place.high down

pub returns-in-Ok-Some-clause-tree : goal.returns-in-Ok-Some-clause-tree
returns-in-Ok-Some-clause-tree g c =
    let stopped = rw c.in-Ok-Some.field-0-is at c.in-Ok-Some.ensures.ok in
    tree-down (job c.args.repair.now).tree c.requires.tree c.shared_level-from.ensures.leads stopped.down

pub returns-in-Ok-Some-clause-way : goal.returns-in-Ok-Some-clause-way
returns-in-Ok-Some-clause-way g c =
    let stopped = rw c.in-Ok-Some.field-0-is at c.in-Ok-Some.ensures.ok in
    inr (cut-off (job c.args.repair.now).tree c.requires.tree c.shared_level-from.ensures.leads c.shared_level-from.ensures.few stopped)

pub returns-in-Err-clause-tree : goal.returns-in-Err-clause-tree
returns-in-Err-clause-tree g c =
    tree-kept (job c.args.repair.now).tree c.requires.tree c.shared_level-from.ensures.leads c.in-Err.ensures.kept

pub returns-in-Err-clause-way : goal.returns-in-Err-clause-way
returns-in-Err-clause-way g c =
    inl (c.in-Err.ensures.fault, λ sure. false≢true (c.in-Err.ensures.sure sure))

pub returns-in-Ok-None-clause-asked : goal.returns-in-Ok-None-clause-asked
returns-in-Ok-None-clause-asked g c =
    way-within (job c.args.repair.now).tree (g.H.BlockDev.state c.args.device.now) (g.H.BlockDev.state c.descend.new.device) c.shared_level-from.result c.args.height c.requires.tree c.shared_level-from.ensures.few c.descend.ensures.asked

pub returns-in-Ok-Some-clause-asked : goal.returns-in-Ok-Some-clause-asked
returns-in-Ok-Some-clause-asked g c =
    way-within (job c.args.repair.now).tree (g.H.BlockDev.state c.args.device.now) (g.H.BlockDev.state c.descend.new.device) c.shared_level-from.result c.args.height c.requires.tree c.shared_level-from.ensures.few c.descend.ensures.asked

pub returns-in-Err-clause-asked : goal.returns-in-Err-clause-asked
returns-in-Err-clause-asked g c =
    way-within (job c.args.repair.now).tree (g.H.BlockDev.state c.args.device.now) (g.H.BlockDev.state c.descend.new.device) c.shared_level-from.result c.args.height c.requires.tree c.shared_level-from.ensures.few c.descend.ensures.asked

pub invariant_of-self : goal.invariant_of-self
invariant_of-self g c =
    let down = rw c.in-Ok-None.field-0-is at c.in-Ok-None.ensures.ok in
    let of_tree = tree-down (job c.args.repair.now).tree c.requires.tree c.shared_level-from.ensures.leads down in
    record { inside = omega (arith, c.requires.place.inside, ap (λ (s : ShapeRecord). s.blocks) of_tree.shape_is); leads = (way-down (job c.args.repair.now).tree c.requires.tree c.shared_level-from.ensures.leads c.requires.place.high down).leads }

pub invariant_of-self-in-Ok-Some : goal.invariant_of-self-in-Ok-Some
invariant_of-self-in-Ok-Some g c =
    let stopped = rw c.in-Ok-Some.field-0-is at c.in-Ok-Some.ensures.ok in
    let of_tree = tree-down (job c.args.repair.now).tree c.requires.tree c.shared_level-from.ensures.leads stopped.down in
    let few : c.in-Ok-Some.level + 1 ≤ levels c.args.repair.now.shape = omega (arith, stopped.between.1, c.shared_level-from.ensures.few) in
    record { inside = omega (arith, c.requires.place.inside, ap (λ (s : ShapeRecord). s.blocks) of_tree.shape_is); leads = (way-down (job c.args.repair.now).tree c.requires.tree c.shared_level-from.ensures.leads few stopped.down).leads }

pub invariant_of-self-in-Err : goal.invariant_of-self-in-Err
invariant_of-self-in-Err g c =
    let of_tree = tree-kept (job c.args.repair.now).tree c.requires.tree c.shared_level-from.ensures.leads c.in-Err.ensures.kept in
    record { inside = omega (arith, c.requires.place.inside, ap (λ (s : ShapeRecord). s.blocks) of_tree.shape_is); leads = leads-kept (job c.args.repair.now).tree c.requires.tree c.shared_level-from.ensures.leads c.in-Err.ensures.kept }

pub returns-in-Ok-None-clause-called : goal.returns-in-Ok-None-clause-called
returns-in-Ok-None-clause-called g c = calls-path (DeviceDoes g.H.BlockDev.state g.H.BlockDev.does) c.args.device.now c.descend.new.device c.descend.ensures.calls

pub returns-in-Ok-Some-clause-called : goal.returns-in-Ok-Some-clause-called
returns-in-Ok-Some-clause-called g c = calls-path (DeviceDoes g.H.BlockDev.state g.H.BlockDev.does) c.args.device.now c.descend.new.device c.descend.ensures.calls

pub returns-in-Err-clause-called : goal.returns-in-Err-clause-called
returns-in-Err-clause-called g c = calls-path (DeviceDoes g.H.BlockDev.state g.H.BlockDev.does) c.args.device.now c.descend.new.device c.descend.ensures.calls
