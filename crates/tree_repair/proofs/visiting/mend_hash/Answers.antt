use Rattle.std.proofs.Common.{◌/◌, length, IsTrue, map, refl, subst, sym, ap}
use Rattle.std.specs.Prelude.{IfOk, OnErr, is_ok}
use Rattle.block_device.specs.Call.{DeviceDoes}
use Rattle.block_device.specs.Device.{IsInside}
use Rattle.tree_repair.specs.AccessBudgets.{IsAskedOnce}
use Rattle.tree_repair.specs.BlockChecks.{tree_look}
use Rattle.tree_repair.specs.Mending.{IsUnmended}
use Rattle.tree_repair.specs.RepairCalls.{HandsToHash, IsBlockWrite}
use Rattle.tree_repair.specs.Sources.{due}
use Rattle.tree_repair.specs.Visits.{IsLooked}
use Rattle.tree_repair.specs.Worlds.{RepairWorld, image_record, repair_world, world_of}
use Rattle.tree_repair.proofs.visiting.mend_hash.Goals as goal

pub mend-requires-clause-inside : goal.mend-requires-clause-inside
mend-requires-clause-inside g c = subst (λ (w : RepairWorld). IsInside w.hash_dev c.args.sought.now.first (length c.args.block.now)) (sym (ap (λ i. world_of i) c.image.view_is)) c.requires.inside

pub mend-requires-clause-allowed : goal.mend-requires-clause-allowed
mend-requires-clause-allowed g c = subst (λ (w : RepairWorld). IsTrue c.args.sought.now.repair.now.write → IsTrue w.hash_dev.may_write) (sym (ap (λ i. world_of i) c.image.view_is)) c.requires.allowed

pub returns-clause-ok : goal.returns-clause-ok
returns-clause-ok g c =
    let i = c.image.inside in
    let a = repair_world (g.D.BlockDev.state i.data) (g.H.BlockDev.state i.hash) (map g.C.BlockDev.state i.data_copies.items) (map g.C.BlockDev.state i.hash_copies.items) in
    let b = repair_world a.data_dev (g.H.BlockDev.state c.mend.new.device) a.data_copies (map g.C.BlockDev.state c.mend.new.copies.items) in
    subst (λ (w : RepairWorld). IfOk c.mend.result (IsLooked (tree_look c.args.sought.now c.args.block.now w b))) (ap (λ i. world_of i) c.image.view_is) c.mend.ensures.ok

pub returns-clause-err : goal.returns-clause-err
returns-clause-err g c =
    let i = c.image.inside in
    let a = repair_world (g.D.BlockDev.state i.data) (g.H.BlockDev.state i.hash) (map g.C.BlockDev.state i.data_copies.items) (map g.C.BlockDev.state i.hash_copies.items) in
    let b = repair_world a.data_dev (g.H.BlockDev.state c.mend.new.device) a.data_copies (map g.C.BlockDev.state c.mend.new.copies.items) in
    subst (λ (w : RepairWorld). OnErr c.mend.result (IsUnmended (tree_look c.args.sought.now c.args.block.now w b))) (ap (λ i. world_of i) c.image.view_is) c.mend.ensures.err

pub returns-clause-kept : goal.returns-clause-kept
returns-clause-kept g c = record { device_is = ap (λ (w : RepairWorld). w.data_dev) (ap (λ i. world_of i) c.image.view_is); copies_are = ap (λ (w : RepairWorld). w.data_copies) (ap (λ i. world_of i) c.image.view_is) }

pub returns-clause-asked : goal.returns-clause-asked
returns-clause-asked g c =
    let i = c.image.inside in
    let a = repair_world (g.D.BlockDev.state i.data) (g.H.BlockDev.state i.hash) (map g.C.BlockDev.state i.data_copies.items) (map g.C.BlockDev.state i.hash_copies.items) in
    let b = repair_world a.data_dev (g.H.BlockDev.state c.mend.new.device) a.data_copies (map g.C.BlockDev.state c.mend.new.copies.items) in
    subst (λ (w : RepairWorld). IsAskedOnce (length c.args.block.now / 512) w.hash_dev b.hash_dev w.hash_copies b.hash_copies) (ap (λ i. world_of i) c.image.view_is) c.mend.ensures.asked

pub returns-clause-handed : goal.returns-clause-handed
returns-clause-handed g c =
    let s = c.args.sought.now in
    let i = c.image.inside in
    let b = image_record (repair_world (g.D.BlockDev.state i.data) (g.H.BlockDev.state c.mend.new.device) (map g.C.BlockDev.state i.data_copies.items) (map g.C.BlockDev.state c.mend.new.copies.items)) i.data c.mend.new.device in
    subst (λ x. HandsToHash (DeviceDoes g.H.BlockDev.state g.H.BlockDev.does) (IsBlockWrite s.first (due s.repair.now.salt s.digest c.args.block.now)) (is_ok c.mend.result) x b) c.image.view_is
    (c.mend.ensures.handed, refl)
