use Rattle.std.proofs.Common.{◌/◌, map, refl, subst, sym, arith, ap}
use Rattle.std.specs.Prelude.{IfOk, OnErr, is_ok}
use Rattle.block_device.specs.Call.{DeviceDoes}
use Rattle.verity_format.proofs.lemmas.SizeLemmas.{block-inside, block-size}
use Rattle.tree_repair.specs.AccessBudgets.{LeavesVisit}
use Rattle.tree_repair.specs.Jobs.{job}
use Rattle.tree_repair.specs.RepairCalls.{HandsToData, IsPlaceWrite}
use Rattle.tree_repair.specs.Runs.{CanRun}
use Rattle.tree_repair.specs.Visits.{FailsToStoreBlock, IsBlockMade}
use Rattle.tree_repair.specs.Worlds.{RepairWorld, image_record, repair_world, world_of}
use Rattle.tree_repair.proofs.AskedLemmas.{visit-data}
use Rattle.tree_repair.proofs.VisitLemmas.{data-fails, data-made}
use Rattle.tree_repair.proofs.visiting.visit_data.Goals as goal

pub overflow_mul-first : goal.overflow_mul-first
overflow_mul-first g c =
    let s = c.args.repair.now.shape in
    let room = block-inside c.args.index s.blocks (s.data_block / 512) c.requires.inside in
    rw (c.requires.size) (omega (arith, room, c.requires.can.valid.data_fits))

pub mend-requires-clause-inside : goal.mend-requires-clause-inside
mend-requires-clause-inside g c =
    let s = c.args.repair.now.shape in
    let can = subst (λ (w : RepairWorld). CanRun (job c.args.repair.now) w) (sym (ap (λ i. world_of i) c.image.view_is)) c.requires.can in
    let block = block-size s.data_block can.valid.data_size in
    let room = block-inside c.args.index s.blocks (s.data_block / 512) c.requires.inside in
    rw (c.requires.size) (record { some = block.some; whole = block.whole; inside = omega (arith, room, can.data_fits) })

pub mend-requires-clause-small : goal.mend-requires-clause-small
mend-requires-clause-small g c =
    let s = c.args.repair.now.shape in
    let room = block-inside c.args.index s.blocks (s.data_block / 512) c.requires.inside in
    rw (c.requires.size) (omega (arith, room, c.requires.can.valid.data_fits))

pub mend-requires-clause-allowed : goal.mend-requires-clause-allowed
mend-requires-clause-allowed g c = (subst (λ (w : RepairWorld). CanRun (job c.args.repair.now) w) (sym (ap (λ i. world_of i) c.image.view_is)) c.requires.can).data_writable

pub returns-clause-ok : goal.returns-clause-ok
returns-clause-ok g c =
    let i = c.image.inside in
    let a = repair_world (g.D.BlockDev.state i.data) (g.H.BlockDev.state i.hash) (map g.C.BlockDev.state i.data_copies.items) (map g.C.BlockDev.state i.hash_copies.items) in
    let d' = g.D.BlockDev.state c.mend.new.device in
    let cs' = map g.C.BlockDev.state c.mend.new.copies.items in
    subst (λ (w : RepairWorld). IfOk c.mend.result (IsBlockMade (job c.args.repair.now) 0 c.args.index w (repair_world d' a.hash_dev cs' a.hash_copies))) (ap (λ i. world_of i) c.image.view_is)
    (data-made (job c.args.repair.now) c.args.path.now 0 c.args.index c.requires.inside c.requires.way refl a.data_dev d' a.hash_dev a.data_copies cs' a.hash_copies c.mend.result c.mend.ensures.plain
    (rw (c.digest_at-digest.ensures, c.requires.size) at c.mend.ensures.ok))

pub returns-clause-err : goal.returns-clause-err
returns-clause-err g c =
    let i = c.image.inside in
    let a = repair_world (g.D.BlockDev.state i.data) (g.H.BlockDev.state i.hash) (map g.C.BlockDev.state i.data_copies.items) (map g.C.BlockDev.state i.hash_copies.items) in
    let d' = g.D.BlockDev.state c.mend.new.device in
    let cs' = map g.C.BlockDev.state c.mend.new.copies.items in
    subst (λ (w : RepairWorld). OnErr c.mend.result (FailsToStoreBlock (job c.args.repair.now) 0 c.args.index w (repair_world d' a.hash_dev cs' a.hash_copies))) (ap (λ i. world_of i) c.image.view_is)
    (data-fails (job c.args.repair.now) c.args.path.now 0 c.args.index c.requires.inside c.requires.way refl a.data_dev d' a.hash_dev a.data_copies cs' a.hash_copies c.mend.result
    (rw (c.digest_at-digest.ensures, c.requires.size) at c.mend.ensures.err))

pub returns-clause-asked : goal.returns-clause-asked
returns-clause-asked g c =
    let s = c.args.repair.now.shape in
    let i = c.image.inside in
    let a = repair_world (g.D.BlockDev.state i.data) (g.H.BlockDev.state i.hash) (map g.C.BlockDev.state i.data_copies.items) (map g.C.BlockDev.state i.hash_copies.items) in
    let d' = g.D.BlockDev.state c.mend.new.device in
    let cs' = map g.C.BlockDev.state c.mend.new.copies.items in
    subst (λ (w : RepairWorld). LeavesVisit s 0 c.args.index w (repair_world d' a.hash_dev cs' a.hash_copies)) (ap (λ i. world_of i) c.image.view_is)
    (visit-data s c.requires.can.valid c.args.index c.requires.inside a d' cs' (rw c.requires.size at c.mend.ensures.asked))

pub returns-clause-handed : goal.returns-clause-handed
returns-clause-handed g c =
    let i = c.image.inside in
    let b = image_record (repair_world (g.D.BlockDev.state c.mend.new.device) (g.H.BlockDev.state i.hash) (map g.C.BlockDev.state c.mend.new.copies.items) (map g.C.BlockDev.state i.hash_copies.items)) c.mend.new.device i.hash in
    subst (λ x. HandsToData (DeviceDoes g.D.BlockDev.state g.D.BlockDev.does) (IsPlaceWrite (job c.args.repair.now) c.args.path.now 0 c.args.index) (is_ok c.mend.result) x b) c.image.view_is
    ((rw (c.digest_at-digest.ensures, c.requires.size) at c.mend.ensures.handed), refl)
