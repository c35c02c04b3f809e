use Rattle.std.proofs.Common.{true, ◌+◌}
use Rattle.block_device.specs.Call.{DeviceDoes}
use Rattle.tree_repair.specs.CopyReads.{copy_block}
use Rattle.tree_repair.specs.Jobs.{job}
use Rattle.tree_repair.proofs.CopyReadLemmas.{reads-none, reads-then}
use Rattle.tree_repair.proofs.MoveLemmas.{fetches-read, fetches-then}
use Rattle.tree_repair.proofs.OutcomeLemmas.{on_ok-from}
use Rattle.tree_repair.proofs.RunCallLemmas.{hands-ended, hands-none, hands-then}
use Rattle.tree_repair.proofs.RunLemmas.{can-later, ended-from, has-none, has-then, world-none}
use Rattle.tree_repair.proofs.fetching.fetch_copies.Goals as goal

pub copies-init : goal.copies-init
copies-init g c = record {
  run = has-none;
  handed = hands-none (DeviceDoes g.D.BlockDev.state g.D.BlockDev.does) (DeviceDoes g.H.BlockDev.state g.H.BlockDev.does) (job c.args.repair.now) c.args.image.now;
  said = fetches-read (job c.args.repair.now) (world-none c.args.image.now.world);
  reads = reads-none (job c.args.repair.now) (copy_block 0 0) c.args.image.now.world;
}

pub fetch_each-requires-clause-can : goal.fetch_each-requires-clause-can
fetch_each-requires-clause-can g c = can-later c.copies.invariant.run c.requires.can

pub copies-preserved : goal.copies-preserved
copies-preserved g c = record {
  run = has-then c.copies.invariant.run c.in_ok-fetch_each.ensures.run;
  handed = hands-then (DeviceDoes g.D.BlockDev.state g.D.BlockDev.does) (DeviceDoes g.H.BlockDev.state g.H.BlockDev.does) (job c.args.repair.now) true c.args.image.now c.copies.image c.fetch_each.new.image c.copies.invariant.handed c.in_ok-fetch_each.ensures.handed;
  said = fetches-then (job c.args.repair.now) c.copies.invariant.said c.in_ok-fetch_each.ensures.said;
  reads = reads-then (job c.args.repair.now) (copy_block 0 0) (copy_block c.copies.copy 0) (copy_block (c.copies.copy + 1) 0) c.args.image.now.world c.copies.image.world c.fetch_each.new.image.world c.copies.invariant.reads c.in_ok-fetch_each.ensures.reads;
}

pub returns-in_err-fetch_each-clause-run : goal.returns-in_err-fetch_each-clause-run
returns-in_err-fetch_each-clause-run g c = ended-from c.from_residual.result c.from_residual.ensures.1 (has-then c.copies.invariant.run c.in_err-fetch_each.ensures.run)

pub returns-in_err-fetch_each-clause-said : goal.returns-in_err-fetch_each-clause-said
returns-in_err-fetch_each-clause-said g c = on_ok-from c.from_residual.result _ _ c.from_residual.ensures.1

pub returns-in_err-fetch_each-clause-handed : goal.returns-in_err-fetch_each-clause-handed
returns-in_err-fetch_each-clause-handed g c =
    let asks = DeviceDoes g.D.BlockDev.state g.D.BlockDev.does in
    let does = DeviceDoes g.H.BlockDev.state g.H.BlockDev.does in
    hands-ended asks does (job c.args.repair.now) c.args.image.now c.fetch_each.new.image c.from_residual.result _ c.from_residual.ensures.1
    (hands-then asks does (job c.args.repair.now) _ c.args.image.now c.copies.image c.fetch_each.new.image c.copies.invariant.handed c.in_err-fetch_each.ensures.handed)

pub returns-clause-run : goal.returns-clause-run
returns-clause-run g c = c.copies.invariant.run

pub returns-clause-said : goal.returns-clause-said
returns-clause-said g c = c.copies.invariant.said

pub returns-clause-handed : goal.returns-clause-handed
returns-clause-handed g c = c.copies.invariant.handed

pub returns-in_err-fetch_each-clause-reads : goal.returns-in_err-fetch_each-clause-reads
returns-in_err-fetch_each-clause-reads g c = on_ok-from c.from_residual.result _ _ c.from_residual.ensures.1

pub returns-clause-reads : goal.returns-clause-reads
returns-clause-reads g c = (copy_block c.copies.copy 0, c.copies.invariant.reads)
