use Rattle.std.proofs.Common.{Bool, false, inl, inr, refl, subst, sym}
use Rattle.tree_repair.specs.Jobs.{job}
use Rattle.tree_repair.specs.ParitySearches.{IsSoughtAt, trial}
use Rattle.tree_repair.proofs.TryLemmas.{sought-behind}
use Rattle.tree_repair.proofs.RunLemmas.{can-read, has-behind, has-none, has-read, laid-read, parity-none, world-none}
use Rattle.tree_repair.specs.ParityBounds.{IsAskedWithin, parity_bill, tries_of}
use Rattle.tree_repair.proofs.ParityBillLemmas.{asked-none, work-along, work-way}
use Rattle.tree_repair.proofs.ParityPassLemmas.{tells-behind, tells-none}
use Rattle.block_device.specs.Call.{DeviceDoes}
use Rattle.tree_repair.proofs.RepairCallLemmas.{hash-both}
use Rattle.tree_repair.proofs.RunCallLemmas.{hands-behind, hands-none, hands-read}
use Rattle.tree_repair.proofs.parity.restore_block_at.Goals as goal

pub returns-then-bad-clause-parity : goal.returns-then-bad-clause-parity
returns-then-bad-clause-parity g c = parity-none (g.P.BlockDev.state c.args.parity.now)

pub returns-then-bad-clause-run : goal.returns-then-bad-clause-run
returns-then-bad-clause-run g c = has-none

pub returns-then-not-is_place-clause-parity : goal.returns-then-not-is_place-clause-parity
returns-then-not-is_place-clause-parity g c = parity-none (g.P.BlockDev.state c.args.parity.now)

pub returns-then-not-is_place-clause-run : goal.returns-then-not-is_place-clause-run
returns-then-not-is_place-clause-run g c = has-none

pub reach-requires-clause-place : goal.reach-requires-clause-place
reach-requires-clause-place g c = c.is_place.ensures.some c.if-not-is_place.false

pub returns-then-not-reach-clause-parity : goal.returns-then-not-reach-clause-parity
returns-then-not-reach-clause-parity g c = parity-none (g.P.BlockDev.state c.args.parity.now)

pub returns-then-not-reach-clause-run : goal.returns-then-not-reach-clause-run
returns-then-not-reach-clause-run g c = has-read c.reach.ensures.read

pub restore_missing-requires-clause-can : goal.restore_missing-requires-clause-can
restore_missing-requires-clause-can g c = can-read c.reach.ensures.read c.requires.can

pub restore_missing-requires-clause-laid : goal.restore_missing-requires-clause-laid
restore_missing-requires-clause-laid g c = laid-read c.reach.ensures.read c.requires.laid

pub restore_missing-requires-clause-place : goal.restore_missing-requires-clause-place
restore_missing-requires-clause-place g c = c.is_place.ensures.some c.if-not-is_place.false

pub restore_missing-requires-clause-way : goal.restore_missing-requires-clause-way
restore_missing-requires-clause-way g c = rw c.if-not-reach.false at c.reach.ensures.way

pub returns-clause-parity : goal.returns-clause-parity
returns-clause-parity g c = c.restore_missing.ensures.parity

pub returns-clause-run : goal.returns-clause-run
returns-clause-run g c = has-behind c.reach.ensures.read c.restore_missing.ensures.run

pub returns-then-bad-clause-sought : goal.returns-then-bad-clause-sought
returns-then-bad-clause-sought g c =
    subst (λ (found : Bool). IsSoughtAt (job c.args.repair.now) c.args.bad.now.place.height c.args.bad.now.place.index
    (trial c.args.losses.now.layout c.args.losses.now.lost.items c.args.image.now.world c.args.image.now.world (g.P.BlockDev.state c.args.parity.now) (g.P.BlockDev.state c.args.parity.now)) found false) (sym c.if-bad.true)
    (refl, record { image = world-none c.args.image.now.world; parity = parity-none (g.P.BlockDev.state c.args.parity.now) })

pub returns-then-not-is_place-clause-sought : goal.returns-then-not-is_place-clause-sought
returns-then-not-is_place-clause-sought g c =
    subst (λ (found : Bool). IsSoughtAt (job c.args.repair.now) c.args.bad.now.place.height c.args.bad.now.place.index
    (trial c.args.losses.now.layout c.args.losses.now.lost.items c.args.image.now.world c.args.image.now.world (g.P.BlockDev.state c.args.parity.now) (g.P.BlockDev.state c.args.parity.now)) found false) (sym c.if-bad.false)
    (inl (refl, (record { image = world-none c.args.image.now.world; parity = parity-none (g.P.BlockDev.state c.args.parity.now) }, inl (c.is_place.ensures.none c.if-not-is_place.true))))

pub returns-then-not-reach-clause-sought : goal.returns-then-not-reach-clause-sought
returns-then-not-reach-clause-sought g c =
    subst (λ (found : Bool). IsSoughtAt (job c.args.repair.now) c.args.bad.now.place.height c.args.bad.now.place.index
    (trial c.args.losses.now.layout c.args.losses.now.lost.items c.args.image.now.world c.reach.new.image.world (g.P.BlockDev.state c.args.parity.now) (g.P.BlockDev.state c.args.parity.now)) found false) (sym c.if-bad.false)
    (inl (refl, (record { image = c.reach.ensures.read; parity = parity-none (g.P.BlockDev.state c.args.parity.now) }, inr (rw c.if-not-reach.true at c.reach.ensures.way))))

pub returns-clause-sought : goal.returns-clause-sought
returns-clause-sought g c =
    sought-behind (job c.args.repair.now) c.args.bad.now.place.height c.args.bad.now.place.index c.args.bad.now.found c.args.losses.now.layout c.args.losses.now.lost.items c.args.image.now.world c.reach.new.image.world c.restore_missing.new.image.world
    (g.P.BlockDev.state c.args.parity.now) (g.P.BlockDev.state c.restore_missing.new.parity) c.restore_missing.result c.reach.ensures.read c.if-bad.false c.restore_missing.ensures.tried

pub returns-then-bad-clause-within : goal.returns-then-bad-clause-within
returns-then-bad-clause-within g c = asked-none (parity_bill c.args.repair.now.shape c.args.losses.now.layout 0 0 (tries_of c.args.bad.now.found)) c.args.image.now.world (g.P.BlockDev.state c.args.parity.now)

pub returns-then-not-is_place-clause-within : goal.returns-then-not-is_place-clause-within
returns-then-not-is_place-clause-within g c = asked-none (parity_bill c.args.repair.now.shape c.args.losses.now.layout 0 0 (tries_of c.args.bad.now.found)) c.args.image.now.world (g.P.BlockDev.state c.args.parity.now)

pub returns-then-not-reach-clause-within : goal.returns-then-not-reach-clause-within
returns-then-not-reach-clause-within g c =
    let p = g.P.BlockDev.state c.args.parity.now in
    subst (λ (found : Bool). IsAskedWithin (parity_bill c.args.repair.now.shape c.args.losses.now.layout 0 0 (tries_of found)) c.args.image.now.world c.reach.new.image.world p p) (sym c.if-bad.false)
    (work-way c.args.repair.now.shape c.args.losses.now.layout c.args.bad.now.place.height c.reach.ensures.asked p)

pub returns-clause-within : goal.returns-clause-within
returns-clause-within g c =
    subst (λ (found : Bool). IsAskedWithin (parity_bill c.args.repair.now.shape c.args.losses.now.layout 0 0 (tries_of found)) c.args.image.now.world c.restore_missing.new.image.world (g.P.BlockDev.state c.args.parity.now) (g.P.BlockDev.state c.restore_missing.new.parity)) (sym c.if-bad.false)
    (work-along c.args.repair.now.shape c.args.losses.now.layout c.args.bad.now.place.height c.reach.ensures.asked c.restore_missing.ensures.within)

pub returns-then-bad-clause-came : goal.returns-then-bad-clause-came
returns-then-bad-clause-came g c = tells-none c.args.bad.now.place.height has-none

pub returns-then-not-is_place-clause-came : goal.returns-then-not-is_place-clause-came
returns-then-not-is_place-clause-came g c = tells-none c.args.bad.now.place.height has-none

pub returns-then-not-reach-clause-came : goal.returns-then-not-reach-clause-came
returns-then-not-reach-clause-came g c = tells-none c.args.bad.now.place.height (has-read c.reach.ensures.read)

pub returns-clause-came : goal.returns-clause-came
returns-clause-came g c = tells-behind c.reach.ensures.read c.restore_missing.ensures.came

pub returns-then-bad-clause-handed : goal.returns-then-bad-clause-handed
returns-then-bad-clause-handed g c =
    let asks = DeviceDoes g.D.BlockDev.state g.D.BlockDev.does in
    let does = DeviceDoes g.H.BlockDev.state g.H.BlockDev.does in
    hands-none asks does (job c.args.repair.now) c.args.image.now

pub returns-then-not-is_place-clause-handed : goal.returns-then-not-is_place-clause-handed
returns-then-not-is_place-clause-handed g c =
    let asks = DeviceDoes g.D.BlockDev.state g.D.BlockDev.does in
    let does = DeviceDoes g.H.BlockDev.state g.H.BlockDev.does in
    hands-none asks does (job c.args.repair.now) c.args.image.now

pub returns-then-not-reach-clause-handed : goal.returns-then-not-reach-clause-handed
returns-then-not-reach-clause-handed g c =
    let asks = DeviceDoes g.D.BlockDev.state g.D.BlockDev.does in
    let does = DeviceDoes g.H.BlockDev.state g.H.BlockDev.does in
    hands-read asks does (job c.args.repair.now) c.args.image.now c.reach.new.image (hash-both asks does c.args.image.now c.reach.new.image c.reach.ensures.called)

pub returns-clause-handed : goal.returns-clause-handed
returns-clause-handed g c =
    let asks = DeviceDoes g.D.BlockDev.state g.D.BlockDev.does in
    let does = DeviceDoes g.H.BlockDev.state g.H.BlockDev.does in
    hands-behind asks does (job c.args.repair.now) _ c.args.image.now c.reach.new.image c.restore_missing.new.image (hash-both asks does c.args.image.now c.reach.new.image c.reach.ensures.called) c.restore_missing.ensures.handed
