use Rattle.std.proofs.Common.{List, ap, arith, inl, length, true, ℕ, ◌+◌, ◌∙◌}
use Rattle.std.proofs.lemmas.List.{length-replicate}
use Rattle.block_device.specs.Call.{DeviceDoes}
use Rattle.tree_repair.specs.CopyReads.{copy_block, copy_read}
use Rattle.tree_repair.specs.Jobs.{job}
use Rattle.tree_repair.proofs.CopyReadLemmas.{leaves-none, leaves-read, reads-end, reads-none, reads-run, reads-then}
use Rattle.tree_repair.proofs.MoveLemmas.{fetches-behind, fetches-read, fetches-then}
use Rattle.tree_repair.proofs.OutcomeLemmas.{on_ok-from}
use Rattle.tree_repair.proofs.ParityLemmas.{size-block}
use Rattle.tree_repair.proofs.RunCallLemmas.{hands-behind, hands-ended, hands-none, hands-read, hands-then}
use Rattle.tree_repair.proofs.RunLemmas.{can-later, can-read, ended-from, ends-read, has-behind, has-none, has-read, has-then, memory-within, refused-within, world-none}
use Rattle.tree_repair.proofs.fetching.fetch_each.Goals as goal

pub returns-in_err-last_path-clause-run : goal.returns-in_err-last_path-clause-run
returns-in_err-last_path-clause-run g c = ended-from c.from_residual.result c.from_residual.ensures.1 (ends-read (world-none c.args.image.now.world) (memory-within 4096 (omega arith) c.in_err-last_path.ensures.err))

pub returns-in_err-last_path-clause-said : goal.returns-in_err-last_path-clause-said
returns-in_err-last_path-clause-said g c = on_ok-from c.from_residual.result _ _ c.from_residual.ensures.1

pub returns-in_err-last_path-clause-handed : goal.returns-in_err-last_path-clause-handed
returns-in_err-last_path-clause-handed g c =
    let asks = DeviceDoes g.D.BlockDev.state g.D.BlockDev.does in
    let does = DeviceDoes g.H.BlockDev.state g.H.BlockDev.does in
    hands-ended asks does (job c.args.repair.now) c.args.image.now c.args.image.now c.from_residual.result _ c.from_residual.ensures.1 (hands-none asks does (job c.args.repair.now) c.args.image.now)

pub returns-in_err-read-clause-run : goal.returns-in_err-read-clause-run
returns-in_err-read-clause-run g c = ended-from c.from_residual-in_err-read.result c.from_residual-in_err-read.ensures.1 (ends-read (world-none c.args.image.now.world) (refused-within c.block_size-size.result (omega (arith, c.block_size-size.ensures, (size-block c.args.repair.now.shape 0 c.requires.can.valid).most)) c.in_err-read.ensures.err.1))

pub returns-in_err-read-clause-said : goal.returns-in_err-read-clause-said
returns-in_err-read-clause-said g c = on_ok-from c.from_residual-in_err-read.result _ _ c.from_residual-in_err-read.ensures.1

pub returns-in_err-read-clause-handed : goal.returns-in_err-read-clause-handed
returns-in_err-read-clause-handed g c =
    let asks = DeviceDoes g.D.BlockDev.state g.D.BlockDev.does in
    let does = DeviceDoes g.H.BlockDev.state g.H.BlockDev.does in
    hands-ended asks does (job c.args.repair.now) c.args.image.now c.args.image.now c.from_residual-in_err-read.result _ c.from_residual-in_err-read.ensures.1 (hands-none asks does (job c.args.repair.now) c.args.image.now)

pub runs-init : goal.runs-init
runs-init g c = record {
  tree = c.in_ok-last_path.ensures.ok;
  run = has-none;
  handed = hands-none (DeviceDoes g.D.BlockDev.state g.D.BlockDev.does) (DeviceDoes g.H.BlockDev.state g.H.BlockDev.does) (job c.args.repair.now) c.args.image.now;
  said = fetches-read (job c.args.repair.now) (world-none c.args.image.now.world);
  reads = reads-none (job c.args.repair.now) (copy_block c.args.copy 0) c.args.image.now.world;
}

pub next_run-requires-clause-can : goal.next_run-requires-clause-can
next_run-requires-clause-can g c = can-later c.runs.invariant.run c.requires.can

pub next_run-requires-clause-size : goal.next_run-requires-clause-size
next_run-requires-clause-size g c =
    c.runs.auto.block ∙ ap (λ (l : List ℕ). length l) (c.as_mut_slice-block.ensures.value ∙ c.in_ok-read.ensures.ok) ∙ length-replicate {A = ℕ} c.block_size-size.result 0 ∙ c.block_size-size.ensures

pub fetch_run-requires-clause-can : goal.fetch_run-requires-clause-can
fetch_run-requires-clause-can g c = can-read c.next_run.ensures.read (can-later c.runs.invariant.run c.requires.can)

pub runs-preserved : goal.runs-preserved
runs-preserved g c = record {
  tree = c.fetch_run.ensures.tree;
  run = has-then c.runs.invariant.run (has-behind c.next_run.ensures.read c.in_ok-fetch_run.ensures.run);
  handed = hands-then (DeviceDoes g.D.BlockDev.state g.D.BlockDev.does) (DeviceDoes g.H.BlockDev.state g.H.BlockDev.does) (job c.args.repair.now) true c.args.image.now c.runs.image c.fetch_run.new.image c.runs.invariant.handed
      (hands-behind (DeviceDoes g.D.BlockDev.state g.D.BlockDev.does) (DeviceDoes g.H.BlockDev.state g.H.BlockDev.does) (job c.args.repair.now) true c.runs.image c.next_run.new.image c.fetch_run.new.image c.next_run.ensures.called c.in_ok-fetch_run.ensures.handed);
  said = fetches-then (job c.args.repair.now) c.runs.invariant.said (fetches-behind (job c.args.repair.now) c.next_run.ensures.read c.in_ok-fetch_run.ensures.said);
  reads = let j = job c.args.repair.now in
      let r = copy_read c.args.copy c.in-Some.run'.first c.in-Some.run'.end in
      reads-then j (copy_block c.args.copy 0) (copy_block c.args.copy c.runs.next) (copy_block c.args.copy c.in-Some.run'.end) c.args.image.now.world c.runs.image.world c.fetch_run.new.image.world c.runs.invariant.reads
      (reads-run j r c.runs.next c.runs.image.world c.next_run.new.image.world c.in-Some.ensures.apart.0 c.in-Some.ensures.apart.1 c.next_run.ensures.read c.next_run.ensures.kept c.in-Some.ensures.lacking.0
      c.in-Some.ensures.lacking.1 c.in-Some.ensures.full c.fetch_run.new.image.world c.in_ok-fetch_run.ensures.reads);
}

pub returns-in_default-clause-run : goal.returns-in_default-clause-run
returns-in_default-clause-run g c = has-then c.runs.invariant.run (has-read c.next_run.ensures.read)

pub returns-in_default-clause-said : goal.returns-in_default-clause-said
returns-in_default-clause-said g c = fetches-then (job c.args.repair.now) c.runs.invariant.said (fetches-read (job c.args.repair.now) c.next_run.ensures.read)

pub returns-in_default-clause-handed : goal.returns-in_default-clause-handed
returns-in_default-clause-handed g c =
    let asks = DeviceDoes g.D.BlockDev.state g.D.BlockDev.does in
    let does = DeviceDoes g.H.BlockDev.state g.H.BlockDev.does in
    hands-then asks does (job c.args.repair.now) true c.args.image.now c.runs.image c.next_run.new.image c.runs.invariant.handed
    (hands-read asks does (job c.args.repair.now) c.runs.image c.next_run.new.image c.next_run.ensures.called)

pub returns-in_err-fetch_run-clause-run : goal.returns-in_err-fetch_run-clause-run
returns-in_err-fetch_run-clause-run g c = ended-from c.from_residual-in_err-fetch_run.result c.from_residual-in_err-fetch_run.ensures.1 (has-then c.runs.invariant.run (has-behind c.next_run.ensures.read c.in_err-fetch_run.ensures.run))

pub returns-in_err-fetch_run-clause-said : goal.returns-in_err-fetch_run-clause-said
returns-in_err-fetch_run-clause-said g c = on_ok-from c.from_residual-in_err-fetch_run.result _ _ c.from_residual-in_err-fetch_run.ensures.1

pub returns-in_err-fetch_run-clause-handed : goal.returns-in_err-fetch_run-clause-handed
returns-in_err-fetch_run-clause-handed g c =
    let asks = DeviceDoes g.D.BlockDev.state g.D.BlockDev.does in
    let does = DeviceDoes g.H.BlockDev.state g.H.BlockDev.does in
    hands-ended asks does (job c.args.repair.now) c.args.image.now c.fetch_run.new.image c.from_residual-in_err-fetch_run.result _ c.from_residual-in_err-fetch_run.ensures.1
    (hands-then asks does (job c.args.repair.now) _ c.args.image.now c.runs.image c.fetch_run.new.image c.runs.invariant.handed
    (hands-behind asks does (job c.args.repair.now) _ c.runs.image c.next_run.new.image c.fetch_run.new.image c.next_run.ensures.called c.in_err-fetch_run.ensures.handed))

pub returns-clause-run : goal.returns-clause-run
returns-clause-run g c = c.runs.invariant.run

pub returns-clause-said : goal.returns-clause-said
returns-clause-said g c = c.runs.invariant.said

pub returns-clause-handed : goal.returns-clause-handed
returns-clause-handed g c = c.runs.invariant.handed

pub returns-in_err-last_path-clause-reads : goal.returns-in_err-last_path-clause-reads
returns-in_err-last_path-clause-reads g c = on_ok-from c.from_residual.result _ _ c.from_residual.ensures.1

pub returns-in_err-read-clause-reads : goal.returns-in_err-read-clause-reads
returns-in_err-read-clause-reads g c = on_ok-from c.from_residual-in_err-read.result _ _ c.from_residual-in_err-read.ensures.1

pub returns-in_err-fetch_run-clause-reads : goal.returns-in_err-fetch_run-clause-reads
returns-in_err-fetch_run-clause-reads g c = on_ok-from c.from_residual-in_err-fetch_run.result _ _ c.from_residual-in_err-fetch_run.ensures.1

pub returns-in_default-clause-reads : goal.returns-in_default-clause-reads
returns-in_default-clause-reads g c =
    let j = job c.args.repair.now in
    reads-end j (copy_block c.args.copy 0) (copy_block c.args.copy c.runs.next) (copy_block (c.args.copy + 1) 0) c.args.image.now.world c.runs.image.world c.next_run.new.image.world c.runs.invariant.reads
    (inl (omega arith)) (leaves-read j c.runs.image.world c.next_run.new.image.world c.next_run.ensures.read c.next_run.ensures.kept)

pub returns-clause-reads : goal.returns-clause-reads
returns-clause-reads g c =
    let j = job c.args.repair.now in
    reads-end j (copy_block c.args.copy 0) (copy_block c.args.copy c.runs.next) (copy_block (c.args.copy + 1) 0) c.args.image.now.world c.runs.image.world c.runs.image.world c.runs.invariant.reads
    (inl (omega arith)) (leaves-none j c.runs.image.world)
