use Rattle.std.proofs.Common.{ap, arith, map, refl, subst, ◌∙◌}
use Rattle.tree_shape.specs.Shape.{levels}
use Rattle.tree_repair.specs.Worlds.{IsWorldRead, RepairWorld, image_record, repair_world, world_of}
use Rattle.tree_repair.proofs.ParityLemmas.{size-block}
use Rattle.tree_repair.proofs.RunLemmas.{data-read, world-none}
use Rattle.block_device.specs.Call.{DeviceDoes}
use Rattle.tree_repair.specs.RepairCalls.{ReadsBoth}
use Rattle.tree_repair.proofs.RepairCallLemmas.{both-nothing, data-both}
use Rattle.tree_repair.proofs.moving.is_at.Goals as goal

pub returns-then-is_far-clause-read : goal.returns-then-is_far-clause-read
returns-then-is_far-clause-read g c = world-none c.args.image.now.world

pub digest_at-expected-requires : goal.digest_at-expected-requires
digest_at-expected-requires g c = omega (arith, c.requires.way.few, ap levels c.requires.way.is.shape_is)

pub has-requires-clause-some : goal.has-requires-clause-some
has-requires-clause-some g c = rw c.requires.size (size-block c.args.missing.now.repair.now.shape c.args.missing.now.place.height c.requires.can.valid).some

pub has-requires-clause-whole : goal.has-requires-clause-whole
has-requires-clause-whole g c = rw c.requires.size (size-block c.args.missing.now.repair.now.shape c.args.missing.now.place.height c.requires.can.valid).whole

pub has-requires-clause-small : goal.has-requires-clause-small
has-requires-clause-small g c =
    rw c.requires.size (omega (arith, c.is_far.ensures c.if-is_far.false, (size-block c.args.missing.now.repair.now.shape c.args.missing.now.place.height c.requires.can.valid).most))

pub returns-clause-read : goal.returns-clause-read
returns-clause-read g c =
    let i = c.image.inside in
    let a = repair_world (g.D.BlockDev.state i.data) (g.H.BlockDev.state i.hash) (map g.C.BlockDev.state i.data_copies.items) (map g.C.BlockDev.state i.hash_copies.items) in
    let d' = g.D.BlockDev.state c.has.new.device in
    subst (λ (w : RepairWorld). IsWorldRead w (repair_world d' a.hash_dev a.data_copies a.hash_copies)) (ap (λ i. world_of i) c.image.view_is) (data-read a d' c.has.ensures.read c.has.ensures.counted)

pub returns-clause-good : goal.returns-clause-good
returns-clause-good g c = λ yes. (c.has.ensures.good yes).good ∙ c.digest_at-expected.ensures

pub returns-then-is_far-clause-called : goal.returns-then-is_far-clause-called
returns-then-is_far-clause-called g c =
    let asks = DeviceDoes g.D.BlockDev.state g.D.BlockDev.does in
    let does = DeviceDoes g.H.BlockDev.state g.H.BlockDev.does in
    both-nothing asks does c.args.image.now

pub returns-clause-called : goal.returns-clause-called
returns-clause-called g c =
    let asks = DeviceDoes g.D.BlockDev.state g.D.BlockDev.does in
    let does = DeviceDoes g.H.BlockDev.state g.H.BlockDev.does in
    let i = c.image.inside in
    let w = repair_world (g.D.BlockDev.state i.data) (g.H.BlockDev.state i.hash) (map g.C.BlockDev.state i.data_copies.items) (map g.C.BlockDev.state i.hash_copies.items) in
    let a = image_record w i.data i.hash in
    let b = image_record (repair_world (g.D.BlockDev.state c.has.new.device) w.hash_dev w.data_copies w.hash_copies) c.has.new.device i.hash in
    subst (λ x. ReadsBoth asks does x b) c.image.view_is
    (data-both asks does a b (c.has.ensures.called, refl))

pub returns-then-is_far-clause-kept : goal.returns-then-is_far-clause-kept
returns-then-is_far-clause-kept g c = refl

pub returns-clause-kept : goal.returns-clause-kept
returns-clause-kept g c = ap (λ i. (world_of i).data_copies) c.image.view_is
