use Rattle.std.proofs.Common.{ℕ, ◌*◌, ◌/◌, arith, subst, true}
use Rattle.std.proofs.lemmas.List.{length-take}
use Rattle.block_device.specs.Call.{DeviceDoes}
use Rattle.tree_repair.specs.CopyReads.{ReadsCopyOnce, copy_read}
use Rattle.tree_repair.specs.Jobs.{job}
use Rattle.tree_repair.proofs.CopyReadLemmas.{at-sector, leaves-run, once-read, once-then}
use Rattle.tree_repair.proofs.MoveLemmas.{fetches-read, fetches-then}
use Rattle.tree_repair.proofs.OutcomeLemmas.{on_ok-from}
use Rattle.tree_repair.proofs.RunCallLemmas.{hands-ended, hands-read, hands-then}
use Rattle.tree_repair.proofs.RunLemmas.{can-later, ended-from, has-read, has-then}
use Rattle.tree_repair.proofs.fetching.fetch_run.Goals as goal

pub returns-then-not-read_from_copy-clause-run : goal.returns-then-not-read_from_copy-clause-run
returns-then-not-read_from_copy-clause-run g c = has-read c.read_from_copy.ensures.read

pub returns-then-not-read_from_copy-clause-said : goal.returns-then-not-read_from_copy-clause-said
returns-then-not-read_from_copy-clause-said g c = fetches-read (job c.args.repair.now) c.read_from_copy.ensures.read

pub returns-then-not-read_from_copy-clause-handed : goal.returns-then-not-read_from_copy-clause-handed
returns-then-not-read_from_copy-clause-handed g c =
    hands-read (DeviceDoes g.D.BlockDev.state g.D.BlockDev.does) (DeviceDoes g.H.BlockDev.state g.H.BlockDev.does) (job c.args.repair.now) c.args.image.now c.read_from_copy.new.image c.read_from_copy.ensures.called

pub each-init : goal.each-init
each-init g c = record {
  tree = c.requires.tree;
  run = has-read c.read_from_copy.ensures.read;
  handed = hands-read (DeviceDoes g.D.BlockDev.state g.D.BlockDev.does) (DeviceDoes g.H.BlockDev.state g.H.BlockDev.does) (job c.args.repair.now) c.args.image.now c.read_from_copy.new.image c.read_from_copy.ensures.called;
  said = fetches-read (job c.args.repair.now) c.read_from_copy.ensures.read;
  once =
      let r = copy_read c.args.fetch.now.copy c.args.fetch.now.run.first c.args.fetch.now.run.end in
      once-read (job c.args.repair.now) r c.read_from_copy.new.bytes c.args.image.now.world c.read_from_copy.new.image.world c.read_from_copy.ensures.read (grind (arith, c.read_from_copy.auto.bytes, length-take c.min-len.result c.args.memory.now, c.block_size-size.ensures))
      (subst (λ (size : ℕ). ReadsCopyOnce r.copy (r.first * (size / 512)) c.read_from_copy.new.bytes c.args.image.now.world.data_copies c.read_from_copy.new.image.world.data_copies) c.block_size-size.ensures (at-sector r.copy c.saturating_mul-sector.result _ c.read_from_copy.new.bytes c.args.image.now.world.data_copies c.read_from_copy.new.image.world.data_copies c.saturating_mul-sector.ensures c.read_from_copy.ensures.once));
}

pub fetch_block-requires-clause-can : goal.fetch_block-requires-clause-can
fetch_block-requires-clause-can g c = can-later c.each.invariant.run c.requires.can

pub each-preserved : goal.each-preserved
each-preserved g c = record {
  tree = c.fetch_block.ensures.tree;
  run = has-then c.each.invariant.run c.in_ok-fetch_block.ensures.run;
  handed = hands-then (DeviceDoes g.D.BlockDev.state g.D.BlockDev.does) (DeviceDoes g.H.BlockDev.state g.H.BlockDev.does) (job c.args.repair.now) true c.args.image.now c.each.image c.fetch_block.new.image c.each.invariant.handed c.in_ok-fetch_block.ensures.handed;
  said = fetches-then (job c.args.repair.now) c.each.invariant.said (_, c.in_ok-fetch_block.ensures.said);
  once = once-then (job c.args.repair.now) (copy_read c.args.fetch.now.copy c.args.fetch.now.run.first c.args.fetch.now.run.end) c.args.image.now.world c.each.image.world c.fetch_block.new.image.world c.each.invariant.once
      (leaves-run (job c.args.repair.now) c.each.image.world c.fetch_block.new.image.world c.in_ok-fetch_block.ensures.run c.fetch_block.ensures.kept);
}

pub returns-in_err-fetch_block-clause-run : goal.returns-in_err-fetch_block-clause-run
returns-in_err-fetch_block-clause-run g c = ended-from c.from_residual.result c.from_residual.ensures.1 (has-then c.each.invariant.run c.in_err-fetch_block.ensures.run)

pub returns-in_err-fetch_block-clause-said : goal.returns-in_err-fetch_block-clause-said
returns-in_err-fetch_block-clause-said g c = on_ok-from c.from_residual.result _ _ c.from_residual.ensures.1

pub returns-in_err-fetch_block-clause-handed : goal.returns-in_err-fetch_block-clause-handed
returns-in_err-fetch_block-clause-handed g c =
    let asks = DeviceDoes g.D.BlockDev.state g.D.BlockDev.does in
    let does = DeviceDoes g.H.BlockDev.state g.H.BlockDev.does in
    hands-ended asks does (job c.args.repair.now) c.args.image.now c.fetch_block.new.image c.from_residual.result _ c.from_residual.ensures.1
    (hands-then asks does (job c.args.repair.now) _ c.args.image.now c.each.image c.fetch_block.new.image c.each.invariant.handed c.in_err-fetch_block.ensures.handed)

pub returns-clause-run : goal.returns-clause-run
returns-clause-run g c = c.each.invariant.run

pub returns-clause-said : goal.returns-clause-said
returns-clause-said g c = c.each.invariant.said

pub returns-clause-handed : goal.returns-clause-handed
returns-clause-handed g c = c.each.invariant.handed

pub returns-then-not-read_from_copy-clause-reads : goal.returns-then-not-read_from_copy-clause-reads
returns-then-not-read_from_copy-clause-reads g c =
    let r = copy_read c.args.fetch.now.copy c.args.fetch.now.run.first c.args.fetch.now.run.end in
    once-read (job c.args.repair.now) r c.read_from_copy.new.bytes c.args.image.now.world c.read_from_copy.new.image.world c.read_from_copy.ensures.read (grind (arith, c.read_from_copy.auto.bytes, length-take c.min-len.result c.args.memory.now, c.block_size-size.ensures))
    (subst (λ (size : ℕ). ReadsCopyOnce r.copy (r.first * (size / 512)) c.read_from_copy.new.bytes c.args.image.now.world.data_copies c.read_from_copy.new.image.world.data_copies) c.block_size-size.ensures (at-sector r.copy c.saturating_mul-sector.result _ c.read_from_copy.new.bytes c.args.image.now.world.data_copies c.read_from_copy.new.image.world.data_copies c.saturating_mul-sector.ensures c.read_from_copy.ensures.once))

pub returns-in_err-fetch_block-clause-reads : goal.returns-in_err-fetch_block-clause-reads
returns-in_err-fetch_block-clause-reads g c = on_ok-from c.from_residual.result _ _ c.from_residual.ensures.1

pub returns-clause-reads : goal.returns-clause-reads
returns-clause-reads g c = c.each.invariant.once
