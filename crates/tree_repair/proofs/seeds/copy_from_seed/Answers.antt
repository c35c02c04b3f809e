use Rattle.std.proofs.Common.{◌+◌, arith, inl, true}
use Rattle.tree_repair.proofs.MoveLemmas.{copies-read, copies-then}
use Rattle.tree_repair.proofs.ParityLemmas.{if_ok-from}
use Rattle.tree_repair.proofs.RunLemmas.{can-later, ended-from, ends-read, has-none, has-then, memory-within, world-none}
use Rattle.block_device.specs.Call.{DeviceDoes}
use Rattle.tree_repair.specs.CopyReads.{copy_block}
use Rattle.tree_repair.specs.Jobs.{job}
use Rattle.tree_repair.proofs.CopyReadLemmas.{leaves-none, reads-end, reads-none, reads-then}
use Rattle.tree_repair.proofs.OutcomeLemmas.{on_ok-from}
use Rattle.tree_repair.proofs.RunCallLemmas.{hands-ended, hands-none, hands-then}
use Rattle.tree_repair.proofs.seeds.copy_from_seed.Goals as goal

pub returns-in_err-last_path-clause-run : goal.returns-in_err-last_path-clause-run
returns-in_err-last_path-clause-run g c = ended-from c.from_residual.result c.from_residual.ensures.1 (ends-read (world-none c.args.image.now.world) (memory-within 4096 (omega arith) c.in_err-last_path.ensures.err))

pub returns-in_err-last_path-clause-said : goal.returns-in_err-last_path-clause-said
returns-in_err-last_path-clause-said g c = if_ok-from c.from_residual.result _ _ c.from_residual.ensures.1

pub each-init : goal.each-init
each-init g c = record { tree = c.in_ok-last_path.ensures.ok; run = has-none; handed = hands-none (DeviceDoes g.D.BlockDev.state g.D.BlockDev.does) (DeviceDoes g.H.BlockDev.state g.H.BlockDev.does) (job c.args.repair.now) c.args.image.now; said = copies-read (world-none c.args.image.now.world); reads = reads-none (job c.args.repair.now) (copy_block c.args.seed.now.copy 0) c.args.image.now.world }

pub seek_in_seed-requires-clause-can : goal.seek_in_seed-requires-clause-can
seek_in_seed-requires-clause-can g c = can-later c.each.invariant.run c.requires.can

pub each-preserved : goal.each-preserved
each-preserved g c = record {
  tree = c.seek_in_seed.ensures.tree;
  run = has-then c.each.invariant.run c.in_ok-more.ensures.run;
  handed = hands-then (DeviceDoes g.D.BlockDev.state g.D.BlockDev.does) (DeviceDoes g.H.BlockDev.state g.H.BlockDev.does) (job c.args.repair.now) true c.args.image.now c.each.image c.seek_in_seed.new.image c.each.invariant.handed c.in_ok-more.ensures.handed;
  said = copies-then c.saturating_add-copied.ensures c.each.invariant.said c.in_ok-more.ensures.said;
  reads = reads-then (job c.args.repair.now) (copy_block c.args.seed.now.copy 0) (copy_block c.args.seed.now.copy c.each.index) (copy_block c.args.seed.now.copy (c.each.index + 1)) c.args.image.now.world c.each.image.world c.seek_in_seed.new.image.world c.each.invariant.reads c.in_ok-more.ensures.reads;
}

pub returns-in_err-more-clause-run : goal.returns-in_err-more-clause-run
returns-in_err-more-clause-run g c = ended-from c.from_residual-in_err-more.result c.from_residual-in_err-more.ensures.1 (has-then c.each.invariant.run c.in_err-more.ensures.run)

pub returns-in_err-more-clause-said : goal.returns-in_err-more-clause-said
returns-in_err-more-clause-said g c = if_ok-from c.from_residual-in_err-more.result _ _ c.from_residual-in_err-more.ensures.1

pub returns-clause-run : goal.returns-clause-run
returns-clause-run g c = c.each.invariant.run

pub returns-clause-said : goal.returns-clause-said
returns-clause-said g c = c.each.invariant.said

pub returns-in_err-last_path-clause-handed : goal.returns-in_err-last_path-clause-handed
returns-in_err-last_path-clause-handed g c =
    let asks = DeviceDoes g.D.BlockDev.state g.D.BlockDev.does in
    let does = DeviceDoes g.H.BlockDev.state g.H.BlockDev.does in
    hands-ended asks does (job c.args.repair.now) c.args.image.now c.args.image.now c.from_residual.result _ c.from_residual.ensures.1 (hands-none asks does (job c.args.repair.now) c.args.image.now)

pub returns-in_err-more-clause-handed : goal.returns-in_err-more-clause-handed
returns-in_err-more-clause-handed g c =
    let asks = DeviceDoes g.D.BlockDev.state g.D.BlockDev.does in
    let does = DeviceDoes g.H.BlockDev.state g.H.BlockDev.does in
    hands-ended asks does (job c.args.repair.now) c.args.image.now c.seek_in_seed.new.image c.from_residual-in_err-more.result _ c.from_residual-in_err-more.ensures.1
    (hands-then asks does (job c.args.repair.now) _ c.args.image.now c.each.image c.seek_in_seed.new.image c.each.invariant.handed c.in_err-more.ensures.handed)

pub returns-clause-handed : goal.returns-clause-handed
returns-clause-handed g c = c.each.invariant.handed

pub returns-in_err-last_path-clause-reads : goal.returns-in_err-last_path-clause-reads
returns-in_err-last_path-clause-reads g c = on_ok-from c.from_residual.result _ _ c.from_residual.ensures.1

pub returns-in_err-more-clause-reads : goal.returns-in_err-more-clause-reads
returns-in_err-more-clause-reads g c = on_ok-from c.from_residual-in_err-more.result _ _ c.from_residual-in_err-more.ensures.1

pub returns-clause-reads : goal.returns-clause-reads
returns-clause-reads g c = reads-end (job c.args.repair.now) (copy_block c.args.seed.now.copy 0) (copy_block c.args.seed.now.copy c.each.index) (copy_block (c.args.seed.now.copy + 1) 0) c.args.image.now.world c.each.image.world c.each.image.world c.each.invariant.reads (inl (omega arith)) (leaves-none (job c.args.repair.now) c.each.image.world)
