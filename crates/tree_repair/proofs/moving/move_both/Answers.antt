use Rattle.tree_repair.proofs.MoveLemmas.{copies-then}
use Rattle.tree_repair.proofs.ParityLemmas.{if_ok-from}
use Rattle.tree_repair.proofs.RunLemmas.{can-later, ended-from, has-then}
use Rattle.std.proofs.Common.{true, ◌∙◌}
use Rattle.block_device.specs.Call.{DeviceDoes}
use Rattle.tree_repair.specs.Jobs.{job}
use Rattle.tree_repair.proofs.RunCallLemmas.{hands-ended, hands-then}
use Rattle.tree_repair.proofs.moving.move_both.Goals as goal

pub returns-in_err-up-clause-run : goal.returns-in_err-up-clause-run
returns-in_err-up-clause-run g c = ended-from c.from_residual.result c.from_residual.ensures.1 c.in_err-up.ensures.run

pub returns-in_err-up-clause-said : goal.returns-in_err-up-clause-said
returns-in_err-up-clause-said g c = if_ok-from c.from_residual.result _ _ c.from_residual.ensures.1

pub move_data-requires-2-clause-can : goal.move_data-requires-2-clause-can
move_data-requires-2-clause-can g c = can-later c.in_ok-up.ensures.run c.requires.can

pub returns-in_err-down-clause-run : goal.returns-in_err-down-clause-run
returns-in_err-down-clause-run g c = ended-from c.from_residual-in_err-down.result c.from_residual-in_err-down.ensures.1 (has-then c.in_ok-up.ensures.run c.in_err-down.ensures.run)

pub returns-in_err-down-clause-said : goal.returns-in_err-down-clause-said
returns-in_err-down-clause-said g c = if_ok-from c.from_residual-in_err-down.result _ _ c.from_residual-in_err-down.ensures.1

pub returns-clause-run : goal.returns-clause-run
returns-clause-run g c = has-then c.in_ok-up.ensures.run c.in_ok-down.ensures.run

pub returns-clause-said : goal.returns-clause-said
returns-clause-said g c = copies-then c.saturating_add.ensures c.in_ok-up.ensures.said c.in_ok-down.ensures.said

pub returns-in_err-up-clause-handed : goal.returns-in_err-up-clause-handed
returns-in_err-up-clause-handed g c =
    let asks = DeviceDoes g.D.BlockDev.state g.D.BlockDev.does in
    let does = DeviceDoes g.H.BlockDev.state g.H.BlockDev.does in
    hands-ended asks does (job c.args.repair.now) c.args.image.now c.move_data.new.image c.from_residual.result _ c.from_residual.ensures.1 c.in_err-up.ensures.handed

pub returns-in_err-down-clause-handed : goal.returns-in_err-down-clause-handed
returns-in_err-down-clause-handed g c =
    let asks = DeviceDoes g.D.BlockDev.state g.D.BlockDev.does in
    let does = DeviceDoes g.H.BlockDev.state g.H.BlockDev.does in
    hands-ended asks does (job c.args.repair.now) c.args.image.now c.move_data-2.new.image c.from_residual-in_err-down.result _ c.from_residual-in_err-down.ensures.1
    (hands-then asks does (job c.args.repair.now) _ c.args.image.now c.move_data.new.image c.move_data-2.new.image c.in_ok-up.ensures.handed c.in_err-down.ensures.handed)

pub returns-clause-handed : goal.returns-clause-handed
returns-clause-handed g c =
    let asks = DeviceDoes g.D.BlockDev.state g.D.BlockDev.does in
    let does = DeviceDoes g.H.BlockDev.state g.H.BlockDev.does in
    hands-then asks does (job c.args.repair.now) true c.args.image.now c.move_data.new.image c.move_data-2.new.image c.in_ok-up.ensures.handed c.in_ok-down.ensures.handed

pub returns-in_err-up-clause-kept : goal.returns-in_err-up-clause-kept
returns-in_err-up-clause-kept g c = c.move_data.ensures.kept

pub returns-in_err-down-clause-kept : goal.returns-in_err-down-clause-kept
returns-in_err-down-clause-kept g c = c.move_data-2.ensures.kept ∙ c.move_data.ensures.kept

pub returns-clause-kept : goal.returns-clause-kept
returns-clause-kept g c = c.move_data-2.ensures.kept ∙ c.move_data.ensures.kept
