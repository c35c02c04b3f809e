use Rattle.std.proofs.Common.{arith}
use Rattle.tree_repair.specs.Jobs.{job}
use Rattle.tree_repair.proofs.CountLemmas.{row-unnoted}
use Rattle.tree_repair.proofs.GoodLemmas.{noted-good}
use Rattle.tree_repair.proofs.HeightLemmas.{row-seen, row-visited}
use Rattle.tree_repair.proofs.PassLemmas.{noted-behind}
use Rattle.tree_repair.proofs.RowLemmas.{way-along}
use Rattle.tree_repair.proofs.RunLemmas.{can-read}
use Rattle.block_device.specs.Call.{DeviceDoes}
use Rattle.tree_repair.proofs.RepairCallLemmas.{data-both}
use Rattle.tree_repair.proofs.RunCallLemmas.{hands-behind, hands-read}
use Rattle.tree_repair.proofs.levels.repair_unless_good.Goals as goal

pub returns-then-is_good_row-clause-notes : goal.returns-then-is_good_row-clause-notes
returns-then-is_good_row-clause-notes g c =
    noted-good c.args.path.now c.args.row c.requires.can.valid c.is_good_row.ensures.read (c.is_good_row.ensures.good c.if-is_good_row.true)
    (λ k from below. (
      omega (arith, below, c.requires.row.inside),
      way-along (job c.args.repair.now).tree c.requires.can.valid c.args.row.first k c.args.row.height c.args.path.now c.requires.row.begins from (omega (arith, below, c.requires.row.few)) c.requires.way,
    ))

pub repair_blocks-requires-clause-can : goal.repair_blocks-requires-clause-can
repair_blocks-requires-clause-can g c = can-read c.is_good_row.ensures.read c.requires.can

pub returns-clause-notes : goal.returns-clause-notes
returns-clause-notes g c = noted-behind c.is_good_row.ensures.read c.repair_blocks.ensures.notes

pub returns-then-is_good_row-clause-asked : goal.returns-then-is_good_row-clause-asked
returns-then-is_good_row-clause-asked g c =
    row-seen c.args.repair.now.shape c.requires.can.valid c.args.row c.requires.row c.args.image.now.world c.is_good_row.new.image.world c.is_good_row.ensures.asked

pub returns-clause-asked : goal.returns-clause-asked
returns-clause-asked g c =
    row-visited c.args.repair.now.shape c.requires.can.valid c.args.row c.requires.row c.args.image.now.world c.is_good_row.new.image.world c.repair_blocks.new.image.world c.is_good_row.ensures.asked c.repair_blocks.ensures.asked

pub returns-then-is_good_row-clause-few : goal.returns-then-is_good_row-clause-few
returns-then-is_good_row-clause-few g c = row-unnoted c.args.repair.now.shape c.requires.can.valid c.args.row c.args.bad.now

pub returns-clause-few : goal.returns-clause-few
returns-clause-few g c = c.repair_blocks.ensures.few

pub returns-then-is_good_row-clause-handed : goal.returns-then-is_good_row-clause-handed
returns-then-is_good_row-clause-handed g c =
    let asks = DeviceDoes g.D.BlockDev.state g.D.BlockDev.does in
    let does = DeviceDoes g.H.BlockDev.state g.H.BlockDev.does in
    hands-read asks does (job c.args.repair.now) c.args.image.now c.is_good_row.new.image (data-both asks does c.args.image.now c.is_good_row.new.image c.is_good_row.ensures.called)

pub returns-clause-handed : goal.returns-clause-handed
returns-clause-handed g c =
    let asks = DeviceDoes g.D.BlockDev.state g.D.BlockDev.does in
    let does = DeviceDoes g.H.BlockDev.state g.H.BlockDev.does in
    hands-behind asks does (job c.args.repair.now) _ c.args.image.now c.is_good_row.new.image c.repair_blocks.new.image (data-both asks does c.args.image.now c.is_good_row.new.image c.is_good_row.ensures.called) c.repair_blocks.ensures.handed
