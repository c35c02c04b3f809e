use Rattle.std.proofs.Common.{ℕ, [], subst}
use Rattle.tree_repair.specs.Coverage.{IsLookedAt}
use Rattle.tree_repair.specs.Jobs.{job}
use Rattle.tree_repair.proofs.CountLemmas.{row-unnoted}
use Rattle.tree_repair.proofs.HeightLemmas.{row-all, row-cut}
use Rattle.tree_repair.proofs.BlockCheckLemmas.{looked-cut, row-above}
use Rattle.tree_repair.proofs.PassLemmas.{noted-behind, noted-read}
use Rattle.tree_repair.proofs.RunLemmas.{can-read}
use Rattle.block_device.specs.Call.{DeviceDoes}
use Rattle.tree_repair.proofs.RepairCallLemmas.{hash-both}
use Rattle.tree_repair.proofs.RunCallLemmas.{hands-behind, hands-read}
use Rattle.tree_repair.proofs.levels.repair_row.Goals as goal

pub reach-requires-clause-place : goal.reach-requires-clause-place
reach-requires-clause-place g c = record { valid = c.requires.can.valid; inside = c.requires.some; high = c.requires.row.high }

pub returns-then-not-reach-clause-notes : goal.returns-then-not-reach-clause-notes
returns-then-not-reach-clause-notes g c =
    let j = job c.args.repair.now in
    noted-read c.pass_by.ensures c.reach.ensures.read
    (record { height = c.args.row.height; index = c.args.row.first; inside = c.requires.some; read = c.reach.ensures.read; cut = rw c.if-not-reach.true at c.reach.ensures.way })
    (λ h i due.
    subst (λ (n : ℕ). IsLookedAt j n i [] c.args.image.now.world c.reach.new.image.world) due.0
    (looked-cut j c.args.row.height i c.args.row.first c.args.image.now.world c.reach.new.image.world c.reach.ensures.read (row-above c.args.repair.now.shape c.args.row i c.requires.can.valid c.requires.row due.1.0 due.1.1)
    (rw c.if-not-reach.true at c.reach.ensures.way)))

pub repair_unless_good-requires-clause-can : goal.repair_unless_good-requires-clause-can
repair_unless_good-requires-clause-can g c = can-read c.reach.ensures.read c.requires.can

pub repair_unless_good-requires-clause-way : goal.repair_unless_good-requires-clause-way
repair_unless_good-requires-clause-way g c = rw c.if-not-reach.false at c.reach.ensures.way

pub returns-clause-notes : goal.returns-clause-notes
returns-clause-notes g c = noted-behind c.reach.ensures.read c.repair_unless_good.ensures.notes

pub returns-then-not-reach-clause-asked : goal.returns-then-not-reach-clause-asked
returns-then-not-reach-clause-asked g c =
    row-cut c.args.repair.now.shape c.requires.can.valid c.args.row c.requires.row c.requires.some c.args.image.now.world c.reach.new.image.world c.reach.ensures.asked

pub returns-clause-asked : goal.returns-clause-asked
returns-clause-asked g c =
    row-all c.args.repair.now.shape c.requires.can.valid c.args.row c.requires.row c.requires.some c.args.image.now.world c.reach.new.image.world c.repair_unless_good.new.image.world c.reach.ensures.asked c.repair_unless_good.ensures.asked

pub returns-then-not-reach-clause-few : goal.returns-then-not-reach-clause-few
returns-then-not-reach-clause-few g c = rw c.pass_by.ensures (row-unnoted c.args.repair.now.shape c.requires.can.valid c.args.row c.args.bad.now)

pub returns-clause-few : goal.returns-clause-few
returns-clause-few g c = c.repair_unless_good.ensures.few

pub returns-then-not-reach-clause-handed : goal.returns-then-not-reach-clause-handed
returns-then-not-reach-clause-handed g c =
    let asks = DeviceDoes g.D.BlockDev.state g.D.BlockDev.does in
    let does = DeviceDoes g.H.BlockDev.state g.H.BlockDev.does in
    hands-read asks does (job c.args.repair.now) c.args.image.now c.reach.new.image (hash-both asks does c.args.image.now c.reach.new.image c.reach.ensures.called)

pub returns-clause-handed : goal.returns-clause-handed
returns-clause-handed g c =
    let asks = DeviceDoes g.D.BlockDev.state g.D.BlockDev.does in
    let does = DeviceDoes g.H.BlockDev.state g.H.BlockDev.does in
    hands-behind asks does (job c.args.repair.now) _ c.args.image.now c.reach.new.image c.repair_unless_good.new.image (hash-both asks does c.args.image.now c.reach.new.image c.reach.ensures.called) c.repair_unless_good.ensures.handed
