use Rattle.std.proofs.Common.{◌/◌, map, refl, subst, sym, arith, ap}
use Rattle.block_device.specs.Call.{DeviceDoes}
use Rattle.verity_format.proofs.lemmas.SizeLemmas.{block-inside, block-size}
use Rattle.tree_repair.specs.Fetches.{IsNotOnData, IsOnData}
use Rattle.tree_repair.specs.Jobs.{job}
use Rattle.tree_repair.specs.RepairCalls.{IsNoWrite, ReadsBoth}
use Rattle.tree_repair.specs.Runs.{CanRun}
use Rattle.tree_repair.specs.Worlds.{IsWorldRead, RepairWorld, image_record, repair_world, world_of}
use Rattle.tree_repair.proofs.RepairCallLemmas.{calls-read, data-both}
use Rattle.tree_repair.proofs.RunLemmas.{data-read}
use Rattle.tree_repair.proofs.lacking.isnt_on_data.Goals as goal

pub overflow_mul-first : goal.overflow_mul-first
overflow_mul-first g c =
    let s = c.args.repair.now.shape in
    let room = block-inside c.args.index s.blocks (s.data_block / 512) c.requires.inside in
    rw (c.requires.size) (omega (arith, room, c.requires.can.valid.data_fits))

pub is_there-requires : goal.is_there-requires
is_there-requires g c =
    let s = c.args.repair.now.shape in
    let can = subst (λ (w : RepairWorld). CanRun (job c.args.repair.now) w) (sym (ap (λ i. world_of i) c.image.view_is)) c.requires.can in
    let block = block-size s.data_block can.valid.data_size in
    let room = block-inside c.args.index s.blocks (s.data_block / 512) c.requires.inside in
    rw (c.requires.size) (record { some = block.some; whole = block.whole; inside = omega (arith, room, can.data_fits) })

pub returns-then-is_there-clause-read : goal.returns-then-is_there-clause-read
returns-then-is_there-clause-read g c =
    let i = c.image.inside in
    let a = repair_world (g.D.BlockDev.state i.data) (g.H.BlockDev.state i.hash) (map g.C.BlockDev.state i.data_copies.items) (map g.C.BlockDev.state i.hash_copies.items) in
    let d' = g.D.BlockDev.state c.is_there.new.device in
    subst (λ (w : RepairWorld). IsWorldRead w (repair_world d' a.hash_dev a.data_copies a.hash_copies)) (ap (λ i. world_of i) c.image.view_is) (data-read a d' c.is_there.ensures.read c.is_there.ensures.counted)

pub returns-clause-read : goal.returns-clause-read
returns-clause-read g c =
    let i = c.image.inside in
    let a = repair_world (g.D.BlockDev.state i.data) (g.H.BlockDev.state i.hash) (map g.C.BlockDev.state i.data_copies.items) (map g.C.BlockDev.state i.hash_copies.items) in
    let d' = g.D.BlockDev.state c.is_there.new.device in
    subst (λ (w : RepairWorld). IsWorldRead w (repair_world d' a.hash_dev a.data_copies a.hash_copies)) (ap (λ i. world_of i) c.image.view_is) (data-read a d' c.is_there.ensures.read c.is_there.ensures.counted)

pub returns-clause-bad : goal.returns-clause-bad
returns-clause-bad g c = λ yes.
    let i = c.image.inside in
    let a = repair_world (g.D.BlockDev.state i.data) (g.H.BlockDev.state i.hash) (map g.C.BlockDev.state i.data_copies.items) (map g.C.BlockDev.state i.hash_copies.items) in
    let d' = g.D.BlockDev.state c.is_there.new.device in
    subst (λ (w : RepairWorld). IsNotOnData (job c.args.repair.now) c.args.path.now c.args.index w (repair_world d' a.hash_dev a.data_copies a.hash_copies)) (ap (λ i. world_of i) c.image.view_is)
    (rw (c.digest_at-digest.ensures, c.requires.size) at (c.is_there.ensures.bad c.if-is_there.false))

pub returns-then-is_there-clause-called : goal.returns-then-is_there-clause-called
returns-then-is_there-clause-called g c =
    let asks = DeviceDoes g.D.BlockDev.state g.D.BlockDev.does in
    let does = DeviceDoes g.H.BlockDev.state g.H.BlockDev.does in
    let i = c.image.inside in
    let w = repair_world (g.D.BlockDev.state i.data) (g.H.BlockDev.state i.hash) (map g.C.BlockDev.state i.data_copies.items) (map g.C.BlockDev.state i.hash_copies.items) in
    let a = image_record w i.data i.hash in
    let b = image_record (repair_world (g.D.BlockDev.state c.is_there.new.device) w.hash_dev w.data_copies w.hash_copies) c.is_there.new.device i.hash in
    subst (λ x. ReadsBoth asks does x b) c.image.view_is
    (data-both asks does a b (calls-read asks IsNoWrite _ c.is_there.new.block i.data c.is_there.new.device c.is_there.ensures.called, refl))

pub returns-clause-called : goal.returns-clause-called
returns-clause-called g c =
    let asks = DeviceDoes g.D.BlockDev.state g.D.BlockDev.does in
    let does = DeviceDoes g.H.BlockDev.state g.H.BlockDev.does in
    let i = c.image.inside in
    let w = repair_world (g.D.BlockDev.state i.data) (g.H.BlockDev.state i.hash) (map g.C.BlockDev.state i.data_copies.items) (map g.C.BlockDev.state i.hash_copies.items) in
    let a = image_record w i.data i.hash in
    let b = image_record (repair_world (g.D.BlockDev.state c.is_there.new.device) w.hash_dev w.data_copies w.hash_copies) c.is_there.new.device i.hash in
    subst (λ x. ReadsBoth asks does x b) c.image.view_is
    (data-both asks does a b (calls-read asks IsNoWrite _ c.is_there.new.block i.data c.is_there.new.device c.is_there.ensures.called, refl))

pub returns-then-is_there-clause-there : goal.returns-then-is_there-clause-there
returns-then-is_there-clause-there g c = λ no.
    subst (λ (w : RepairWorld). IsOnData (job c.args.repair.now) c.args.path.now c.args.index w c.is_there.new.block) (ap (λ i. world_of i) c.image.view_is)
    (rw (c.digest_at-digest.ensures, c.requires.size) at (c.is_there.ensures.good c.if-is_there.true))

pub returns-then-is_there-clause-kept : goal.returns-then-is_there-clause-kept
returns-then-is_there-clause-kept g c = ap (λ i. (world_of i).data_copies) c.image.view_is

pub returns-clause-kept : goal.returns-clause-kept
returns-clause-kept g c = ap (λ i. (world_of i).data_copies) c.image.view_is
