use Rattle.std.proofs.Common.{List, map, ap, subst}
use Rattle.block_device.specs.Device.{Device}
use Rattle.block_device.specs.Call.{DeviceDoes}
use Rattle.tree_repair.specs.CopyReads.{ReadsCopyOnce}
use Rattle.tree_repair.specs.RepairCalls.{IsNoWrite, ReadsBoth}
use Rattle.tree_repair.specs.Worlds.{IsWorldRead, RepairWorld, image_record, repair_world, world_of}
use Rattle.tree_repair.proofs.FetchLemmas.{copies-read}
use Rattle.tree_repair.proofs.RepairCallLemmas.{calls-nothing}
use Rattle.tree_repair.proofs.large_reads.read_from_copy.Goals as goal

pub returns-clause-read : goal.returns-clause-read
returns-clause-read g c =
    let i = c.image.inside in
    let a = repair_world (g.D.BlockDev.state i.data) (g.H.BlockDev.state i.hash) (map g.C.BlockDev.state i.data_copies.items) (map g.C.BlockDev.state i.hash_copies.items) in
    let cs' = map g.C.BlockDev.state c.read_one.new.copies.items in
    subst (λ (w : RepairWorld). IsWorldRead w (repair_world a.data_dev a.hash_dev cs' a.hash_copies)) (ap (λ i. world_of i) c.image.view_is) (copies-read a cs' c.read_one.ensures.read)

pub returns-clause-called : goal.returns-clause-called
returns-clause-called g c =
    let asks = DeviceDoes g.D.BlockDev.state g.D.BlockDev.does in
    let does = DeviceDoes g.H.BlockDev.state g.H.BlockDev.does in
    let i = c.image.inside in
    let cs' = map g.C.BlockDev.state c.read_one.new.copies.items in
    let b = image_record (repair_world (g.D.BlockDev.state i.data) (g.H.BlockDev.state i.hash) cs' (map g.C.BlockDev.state i.hash_copies.items)) i.data i.hash in
    subst (λ x. ReadsBoth asks does x b) c.image.view_is (calls-nothing asks IsNoWrite i.data, calls-nothing does IsNoWrite i.hash)

pub returns-clause-once : goal.returns-clause-once
returns-clause-once g c =
    let cs' = map g.C.BlockDev.state c.read_one.new.copies.items in
    subst (λ (l : List Device). ReadsCopyOnce c.args.copy c.args.first c.read_one.new.bytes l cs') (ap (λ i. (world_of i).data_copies) c.image.view_is) c.read_one.ensures.once
