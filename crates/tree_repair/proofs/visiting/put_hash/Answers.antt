use Rattle.std.proofs.Common.{length, IsTrue, map, refl, subst, sym, ap}
use Rattle.std.specs.Prelude.{is_ok}
use Rattle.block_device.specs.Call.{DeviceDoes}
use Rattle.block_device.specs.Device.{IsInside}
use Rattle.tree_repair.specs.Mending.{put_calls}
use Rattle.tree_repair.specs.RepairCalls.{CallsHash}
use Rattle.tree_repair.specs.Visits.{IsTreePut}
use Rattle.tree_repair.specs.Worlds.{RepairWorld, image_record, repair_world, world_of}
use Rattle.tree_repair.proofs.visiting.put_hash.Goals as goal

pub put-requires-clause-inside : goal.put-requires-clause-inside
put-requires-clause-inside g c = subst (λ (w : RepairWorld). IsInside w.hash_dev c.args.first (length c.args.block.now)) (sym (ap (λ i. world_of i) c.image.view_is)) c.requires.inside

pub put-requires-clause-allowed : goal.put-requires-clause-allowed
put-requires-clause-allowed g c = subst (λ (w : RepairWorld). IsTrue c.args.repair.now.write → IsTrue w.hash_dev.may_write) (sym (ap (λ i. world_of i) c.image.view_is)) c.requires.allowed

pub returns-clause-put : goal.returns-clause-put
returns-clause-put g c =
    let i = c.image.inside in
    let a = repair_world (g.D.BlockDev.state i.data) (g.H.BlockDev.state i.hash) (map g.C.BlockDev.state i.data_copies.items) (map g.C.BlockDev.state i.hash_copies.items) in
    let b = repair_world a.data_dev (g.H.BlockDev.state c.put.new.device) a.data_copies a.hash_copies in
    subst (λ (w : RepairWorld). IsTreePut c.args.repair.now.write c.args.first c.args.block.now (is_ok c.put.result) w b) (ap (λ i. world_of i) c.image.view_is)
    (record { put = c.put.ensures.put; keeps = record { device_is = refl; copies_are = refl }; hash_copies_are = refl })

pub returns-clause-handed : goal.returns-clause-handed
returns-clause-handed g c =
    let i = c.image.inside in
    let b = image_record (repair_world (g.D.BlockDev.state i.data) (g.H.BlockDev.state c.put.new.device) (map g.C.BlockDev.state i.data_copies.items) (map g.C.BlockDev.state i.hash_copies.items)) i.data c.put.new.device in
    subst (λ x. CallsHash (DeviceDoes g.H.BlockDev.state g.H.BlockDev.does) (put_calls c.args.repair.now.write c.args.first c.args.block.now (is_ok c.put.result)) x b) c.image.view_is
    (c.put.ensures.handed, refl)
