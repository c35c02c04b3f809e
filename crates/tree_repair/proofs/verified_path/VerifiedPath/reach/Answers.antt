use Rattle.std.proofs.Common.{◌≤◌, ◌-◌, ◌*◌, ◌/◌, ℕ, arith, refl, map, subst, sym, ap, true}
use Rattle.verity_format.specs.Image.{tree_sectors}
use Rattle.tree_shape.specs.Shape.{levels}
use Rattle.verity_format.proofs.lemmas.DeviceLemmas.{only_read-none}
use Rattle.tree_repair.specs.AccessBudgets.{LeavesWorld, nothing_due, reading}
use Rattle.tree_repair.specs.Jobs.{job}
use Rattle.tree_repair.specs.ParitySearches.{IsWayOr, path_found}
use Rattle.tree_repair.specs.Worlds.{IsWorldRead, RepairWorld, image_record, repair_world, world_of}
use Rattle.tree_repair.proofs.BillLemmas.{leaves-read}
use Rattle.tree_repair.proofs.RunLemmas.{tree-read}
use Rattle.block_device.specs.Call.{DeviceDoes}
use Rattle.tree_repair.specs.RepairCalls.{HandsToHash, IsNoWrite}
use Rattle.tree_repair.proofs.verified_path.VerifiedPath.reach.Goals as goal

pub reach_on-requires-clause-fits : goal.reach_on-requires-clause-fits
reach_on-requires-clause-fits g c = subst (λ (w : RepairWorld). tree_sectors c.args.repair.now.shape ≤ w.hash_dev.size) (sym (ap (λ i. world_of i) c.image.view_is)) c.requires.fits

pub returns-clause-read : goal.returns-clause-read
returns-clause-read g c =
    let i = c.image.inside in
    let a = repair_world (g.D.BlockDev.state i.data) (g.H.BlockDev.state i.hash) (map g.C.BlockDev.state i.data_copies.items) (map g.C.BlockDev.state i.hash_copies.items) in
    let h' = g.H.BlockDev.state c.reach_on.new.device in
    subst (λ (w : RepairWorld). IsWorldRead w (repair_world a.data_dev h' a.data_copies a.hash_copies)) (ap (λ i. world_of i) c.image.view_is) (tree-read a h' c.reach_on.ensures.read c.reach_on.ensures.counted)

pub returns-clause-way : goal.returns-clause-way
returns-clause-way g c =
    subst (λ (w : RepairWorld). IsWayOr (job c.args.repair.now).tree c.args.index c.args.height w.hash_dev (g.H.BlockDev.state c.reach_on.new.device) (path_found c.reach_on.result c.reach_on.new.self.path)) (ap (λ i. world_of i) c.image.view_is) c.reach_on.ensures.way

pub returns-clause-asked : goal.returns-clause-asked
returns-clause-asked g c =
    let s = c.args.repair.now.shape in
    let n : ℕ = (levels s - c.args.height) * (s.hash_block / 512) in
    let i = c.image.inside in
    let a = repair_world (g.D.BlockDev.state i.data) (g.H.BlockDev.state i.hash) (map g.C.BlockDev.state i.data_copies.items) (map g.C.BlockDev.state i.hash_copies.items) in
    let b = repair_world a.data_dev (g.H.BlockDev.state c.reach_on.new.device) a.data_copies a.hash_copies in
    subst (λ (w : RepairWorld). LeavesWorld (reading 0 n) nothing_due w b) (ap (λ i. world_of i) c.image.view_is)
    (leaves-read 0 n a b (record { data_read = only_read-none a.data_dev; hash_read = c.reach_on.ensures.read }) refl refl (omega arith) c.reach_on.ensures.asked)

pub returns-clause-called : goal.returns-clause-called
returns-clause-called g c =
    let i = c.image.inside in
    let b = image_record (repair_world (g.D.BlockDev.state i.data) (g.H.BlockDev.state c.reach_on.new.device) (map g.C.BlockDev.state i.data_copies.items) (map g.C.BlockDev.state i.hash_copies.items)) i.data c.reach_on.new.device in
    subst (λ x. HandsToHash (DeviceDoes g.H.BlockDev.state g.H.BlockDev.does) IsNoWrite true x b) c.image.view_is
    (c.reach_on.ensures.called, refl)

pub returns-clause-kept : goal.returns-clause-kept
returns-clause-kept g c = ap (λ i. (world_of i).data_copies) c.image.view_is
