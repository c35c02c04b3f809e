use Rattle.std.proofs.Common.{arith, refl, true, ◌∙◌}
use Rattle.tree_repair.proofs.MoveLemmas.{copies-read, copies-then}
use Rattle.tree_repair.proofs.ParityLemmas.{if_ok-from}
use Rattle.tree_repair.proofs.RunLemmas.{can-later, ended-from, ends-read, has-none, has-then, memory-within, world-none}
use Rattle.block_device.specs.Call.{DeviceDoes}
use Rattle.tree_repair.specs.Jobs.{job}
use Rattle.tree_repair.proofs.RunCallLemmas.{hands-ended, hands-none, hands-then}
use Rattle.tree_repair.proofs.moving.move_data.Goals as goal

pub returns-in_err-last_path-clause-run : goal.returns-in_err-last_path-clause-run
returns-in_err-last_path-clause-run g c = ended-from c.from_residual.result c.from_residual.ensures.1 (ends-read (world-none c.args.image.now.world) (memory-within 4096 (omega arith) c.in_err-last_path.ensures.err))

pub returns-in_err-last_path-clause-said : goal.returns-in_err-last_path-clause-said
returns-in_err-last_path-clause-said g c = if_ok-from c.from_residual.result _ _ c.from_residual.ensures.1

pub each-init : goal.each-init
each-init g c = record { tree = c.in_ok-last_path.ensures.ok; run = has-none; handed = hands-none (DeviceDoes g.D.BlockDev.state g.D.BlockDev.does) (DeviceDoes g.H.BlockDev.state g.H.BlockDev.does) (job c.args.repair.now) c.args.image.now; said = copies-read (world-none c.args.image.now.world); kept = refl }

pub move_block-requires-clause-can : goal.move_block-requires-clause-can
move_block-requires-clause-can g c = can-later c.each.invariant.run c.requires.can

pub each-preserved : goal.each-preserved
each-preserved g c = record {
  tree = c.move_block.ensures.tree;
  run = has-then c.each.invariant.run c.in_ok-copied.ensures.run;
  handed = hands-then (DeviceDoes g.D.BlockDev.state g.D.BlockDev.does) (DeviceDoes g.H.BlockDev.state g.H.BlockDev.does) (job c.args.repair.now) true c.args.image.now c.each.image c.move_block.new.image c.each.invariant.handed c.in_ok-copied.ensures.handed;
  said = copies-then c.saturating_add-moved.ensures c.each.invariant.said c.in_ok-copied.ensures.said;
  kept = c.move_block.ensures.kept ∙ c.each.invariant.kept;
}

pub returns-in_err-copied-clause-run : goal.returns-in_err-copied-clause-run
returns-in_err-copied-clause-run g c = ended-from c.from_residual-in_err-copied.result c.from_residual-in_err-copied.ensures.1 (has-then c.each.invariant.run c.in_err-copied.ensures.run)

pub returns-in_err-copied-clause-said : goal.returns-in_err-copied-clause-said
returns-in_err-copied-clause-said g c = if_ok-from c.from_residual-in_err-copied.result _ _ c.from_residual-in_err-copied.ensures.1

pub returns-clause-run : goal.returns-clause-run
returns-clause-run g c = c.each.invariant.run

pub returns-clause-said : goal.returns-clause-said
returns-clause-said g c = c.each.invariant.said

pub returns-in_err-last_path-clause-handed : goal.returns-in_err-last_path-clause-handed
returns-in_err-last_path-clause-handed g c =
    let asks = DeviceDoes g.D.BlockDev.state g.D.BlockDev.does in
    let does = DeviceDoes g.H.BlockDev.state g.H.BlockDev.does in
    hands-ended asks does (job c.args.repair.now) c.args.image.now c.args.image.now c.from_residual.result _ c.from_residual.ensures.1 (hands-none asks does (job c.args.repair.now) c.args.image.now)

pub returns-in_err-copied-clause-handed : goal.returns-in_err-copied-clause-handed
returns-in_err-copied-clause-handed g c =
    let asks = DeviceDoes g.D.BlockDev.state g.D.BlockDev.does in
    let does = DeviceDoes g.H.BlockDev.state g.H.BlockDev.does in
    hands-ended asks does (job c.args.repair.now) c.args.image.now c.move_block.new.image c.from_residual-in_err-copied.result _ c.from_residual-in_err-copied.ensures.1
    (hands-then asks does (job c.args.repair.now) _ c.args.image.now c.each.image c.move_block.new.image c.each.invariant.handed c.in_err-copied.ensures.handed)

pub returns-clause-handed : goal.returns-clause-handed
returns-clause-handed g c = c.each.invariant.handed

pub returns-in_err-last_path-clause-kept : goal.returns-in_err-last_path-clause-kept
returns-in_err-last_path-clause-kept g c = refl

pub returns-in_err-copied-clause-kept : goal.returns-in_err-copied-clause-kept
returns-in_err-copied-clause-kept g c = c.move_block.ensures.kept ∙ c.each.invariant.kept

pub returns-clause-kept : goal.returns-clause-kept
returns-clause-kept g c = c.each.invariant.kept
