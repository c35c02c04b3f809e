use Rattle.std.proofs.Common.{◌≡◌, ◌≤◌, ◌-◌, ◌*◌, ◌/◌, ℕ, true, arith, map, refl, subst, sym, ap}
use Rattle.block_device.specs.Call.{DeviceDoes}
use Rattle.verity_format.specs.Image.{data_sectors}
use Rattle.verity_format.proofs.lemmas.DeviceLemmas.{only_read-none}
use Rattle.tree_repair.specs.AccessBudgets.{LeavesWorld, data_over, nothing_due, reading}
use Rattle.tree_repair.specs.Coverage.{AreGoodFrom}
use Rattle.tree_repair.specs.Jobs.{job}
use Rattle.tree_repair.specs.RepairCalls.{HandsToData, IsNoWrite}
use Rattle.tree_repair.specs.Worlds.{IsWorldRead, RepairWorld, image_record, repair_world, world_of}
use Rattle.tree_repair.proofs.BillLemmas.{leaves-end, leaves-none, leaves-read}
use Rattle.tree_repair.proofs.OverLemmas.{data-all}
use Rattle.tree_repair.proofs.RepairCallLemmas.{calls-nothing}
use Rattle.tree_repair.proofs.RunLemmas.{data-read, world-none}
use Rattle.tree_repair.proofs.good_row.is_good_row.Goals as goal

pub returns-then-row-gt0-clause-read : goal.returns-then-row-gt0-clause-read
returns-then-row-gt0-clause-read g c = world-none c.args.image.now.world

pub are_good-requires-clause-fits : goal.are_good-requires-clause-fits
are_good-requires-clause-fits g c = subst (λ (w : RepairWorld). data_sectors c.args.repair.now.shape ≤ w.data_dev.size) (sym (ap (λ i. world_of i) c.image.view_is)) c.requires.fits

pub returns-clause-read : goal.returns-clause-read
returns-clause-read g c =
    let i = c.image.inside in
    let a = repair_world (g.D.BlockDev.state i.data) (g.H.BlockDev.state i.hash) (map g.C.BlockDev.state i.data_copies.items) (map g.C.BlockDev.state i.hash_copies.items) in
    let d' = g.D.BlockDev.state c.are_good.new.data_dev in
    subst (λ (w : RepairWorld). IsWorldRead w (repair_world d' a.hash_dev a.data_copies a.hash_copies)) (ap (λ i. world_of i) c.image.view_is) (data-read a d' c.are_good.ensures.read c.are_good.ensures.counted)

pub returns-clause-good : goal.returns-clause-good
returns-clause-good g c = λ ok. record {
  height_is = omega (arith, c.if-row-gt0.false);
  good = subst (λ (w : RepairWorld). AreGoodFrom (job c.args.repair.now) c.args.path.now w.data_dev c.args.row.first (c.args.row.end - c.args.row.first)) (ap (λ i. world_of i) c.image.view_is) (c.are_good.ensures.good ok);
}

pub returns-then-row-gt0-clause-asked : goal.returns-then-row-gt0-clause-asked
returns-then-row-gt0-clause-asked g c =
    leaves-end (leaves-none (reading (data_over c.args.repair.now.shape c.args.row.height (c.args.row.end - c.args.row.first)) 0) c.args.image.now.world)

pub returns-clause-asked : goal.returns-clause-asked
returns-clause-asked g c =
    let s = c.args.repair.now.shape in
    let n = c.args.row.end - c.args.row.first in
    let i = c.image.inside in
    let a = repair_world (g.D.BlockDev.state i.data) (g.H.BlockDev.state i.hash) (map g.C.BlockDev.state i.data_copies.items) (map g.C.BlockDev.state i.hash_copies.items) in
    let b = repair_world (g.D.BlockDev.state c.are_good.new.data_dev) a.hash_dev a.data_copies a.hash_copies in
    let none : c.args.row.height ≡ 0 = omega (arith, c.if-row-gt0.false) in
    subst (λ (w : RepairWorld). LeavesWorld (reading (data_over s c.args.row.height n) 0) nothing_due w b) (ap (λ i. world_of i) c.image.view_is)
    (subst (λ (h : ℕ). LeavesWorld (reading (data_over s h n) 0) nothing_due a b) (sym none)
    (subst (λ (k : ℕ). LeavesWorld (reading k 0) nothing_due a b) (sym (data-all s c.requires.valid n))
    (leaves-read (n * (s.data_block / 512)) 0 a b
    (record { data_read = c.are_good.ensures.read; hash_read = only_read-none a.hash_dev }) refl refl c.are_good.ensures.asked (omega arith))))

pub returns-then-row-gt0-clause-called : goal.returns-then-row-gt0-clause-called
returns-then-row-gt0-clause-called g c = (calls-nothing (DeviceDoes g.D.BlockDev.state g.D.BlockDev.does) IsNoWrite c.args.image.now.data_dev, refl)

pub returns-clause-called : goal.returns-clause-called
returns-clause-called g c =
    let i = c.image.inside in
    let b = image_record (repair_world (g.D.BlockDev.state c.are_good.new.data_dev) (g.H.BlockDev.state i.hash) (map g.C.BlockDev.state i.data_copies.items) (map g.C.BlockDev.state i.hash_copies.items)) c.are_good.new.data_dev i.hash in
    subst (λ x. HandsToData (DeviceDoes g.D.BlockDev.state g.D.BlockDev.does) IsNoWrite true x b) c.image.view_is (c.are_good.ensures.called, refl)
