use Rattle.std.proofs.Common.{List, ap, arith, inr, length, refl, subst, ℕ, ◌*◌, ◌+◌, ◌/◌, ◌∙◌}
use Rattle.std.proofs.lemmas.List.{length-replicate}
use Rattle.block_device.specs.Call.{DeviceDoes}
use Rattle.tree_repair.specs.CopyReads.{ReadsCopyOnce, copy_block}
use Rattle.tree_repair.specs.Jobs.{job}
use Rattle.tree_repair.proofs.CopyReadLemmas.{at-sector, leaves-none, leaves-read, leaves-run, on_ok-run, reads-leave, reads-seed}
use Rattle.std.proofs.lemmas.Result.{IfOk-weaker}
use Rattle.tree_repair.proofs.MoveLemmas.{copies-behind, copies-read}
use Rattle.tree_repair.proofs.OutcomeLemmas.{on_ok-from}
use Rattle.tree_repair.proofs.ParityLemmas.{if_ok-from, size-block}
use Rattle.tree_repair.proofs.RepairCallLemmas.{both-more}
use Rattle.tree_repair.proofs.RunCallLemmas.{hands-behind, hands-ended, hands-none, hands-read}
use Rattle.tree_repair.proofs.RunLemmas.{can-read, ended-from, ends-read, has-behind, has-read, refused-within, world-none, world-then}
use Rattle.tree_repair.proofs.seeds.copy_seed_block.Goals as goal

pub returns-in_err-read-clause-run : goal.returns-in_err-read-clause-run
returns-in_err-read-clause-run g c = ended-from c.from_residual.result c.from_residual.ensures.1 (ends-read (world-none c.args.image.now.world) (refused-within c.block_size-size.result (omega (arith, c.block_size-size.ensures, (size-block c.args.repair.now.shape 0 c.requires.can.valid).most)) c.in_err-read.ensures.err.1))

pub returns-in_err-read-clause-said : goal.returns-in_err-read-clause-said
returns-in_err-read-clause-said g c = if_ok-from c.from_residual.result _ _ c.from_residual.ensures.1

pub returns-in_err-read-clause-handed : goal.returns-in_err-read-clause-handed
returns-in_err-read-clause-handed g c =
    let asks = DeviceDoes g.D.BlockDev.state g.D.BlockDev.does in
    let does = DeviceDoes g.H.BlockDev.state g.H.BlockDev.does in
    hands-ended asks does (job c.args.repair.now) c.args.image.now c.args.image.now c.from_residual.result _ c.from_residual.ensures.1 (hands-none asks does (job c.args.repair.now) c.args.image.now)

pub is_lacking-requires-clause-size : goal.is_lacking-requires-clause-size
is_lacking-requires-clause-size g c =
    ap (λ (l : List ℕ). length l) (c.as_mut_slice-bytes.ensures.value ∙ c.in_ok-read.ensures.ok) ∙ length-replicate {A = ℕ} c.block_size-size.result 0 ∙ c.block_size-size.ensures

pub returns-then-not-is_lacking-clause-run : goal.returns-then-not-is_lacking-clause-run
returns-then-not-is_lacking-clause-run g c = has-read c.is_lacking.ensures.read

pub returns-then-not-is_lacking-clause-said : goal.returns-then-not-is_lacking-clause-said
returns-then-not-is_lacking-clause-said g c = copies-read c.is_lacking.ensures.read

pub returns-then-not-is_lacking-clause-handed : goal.returns-then-not-is_lacking-clause-handed
returns-then-not-is_lacking-clause-handed g c =
    let asks = DeviceDoes g.D.BlockDev.state g.D.BlockDev.does in
    let does = DeviceDoes g.H.BlockDev.state g.H.BlockDev.does in
    hands-read asks does (job c.args.repair.now) c.args.image.now c.is_lacking.new.image c.is_lacking.ensures.called

pub returns-then-not-read_from_copy-clause-run : goal.returns-then-not-read_from_copy-clause-run
returns-then-not-read_from_copy-clause-run g c = has-read (world-then c.args.image.now.world c.is_lacking.new.image.world c.read_from_copy.new.image.world c.is_lacking.ensures.read c.read_from_copy.ensures.read)

pub returns-then-not-read_from_copy-clause-said : goal.returns-then-not-read_from_copy-clause-said
returns-then-not-read_from_copy-clause-said g c = copies-read (world-then c.args.image.now.world c.is_lacking.new.image.world c.read_from_copy.new.image.world c.is_lacking.ensures.read c.read_from_copy.ensures.read)

pub returns-then-not-read_from_copy-clause-handed : goal.returns-then-not-read_from_copy-clause-handed
returns-then-not-read_from_copy-clause-handed g c =
    let asks = DeviceDoes g.D.BlockDev.state g.D.BlockDev.does in
    let does = DeviceDoes g.H.BlockDev.state g.H.BlockDev.does in
    hands-read asks does (job c.args.repair.now) c.args.image.now c.read_from_copy.new.image (both-more asks does c.args.image.now c.is_lacking.new.image c.read_from_copy.new.image c.is_lacking.ensures.called c.read_from_copy.ensures.called)

pub fetch_block-requires-clause-can : goal.fetch_block-requires-clause-can
fetch_block-requires-clause-can g c = can-read (world-then c.args.image.now.world c.is_lacking.new.image.world c.read_from_copy.new.image.world c.is_lacking.ensures.read c.read_from_copy.ensures.read) c.requires.can

pub returns-clause-run : goal.returns-clause-run
returns-clause-run g c = has-behind (world-then c.args.image.now.world c.is_lacking.new.image.world c.read_from_copy.new.image.world c.is_lacking.ensures.read c.read_from_copy.ensures.read) c.fetch_block.ensures.run

pub returns-clause-said : goal.returns-clause-said
returns-clause-said g c = IfOk-weaker c.fetch_block.result _ _ (λ count copies. copies-behind (world-then c.args.image.now.world c.is_lacking.new.image.world c.read_from_copy.new.image.world c.is_lacking.ensures.read c.read_from_copy.ensures.read) copies) c.fetch_block.ensures.said

pub returns-clause-handed : goal.returns-clause-handed
returns-clause-handed g c =
    let asks = DeviceDoes g.D.BlockDev.state g.D.BlockDev.does in
    let does = DeviceDoes g.H.BlockDev.state g.H.BlockDev.does in
    hands-behind asks does (job c.args.repair.now) _ c.args.image.now c.read_from_copy.new.image c.fetch_block.new.image (both-more asks does c.args.image.now c.is_lacking.new.image c.read_from_copy.new.image c.is_lacking.ensures.called c.read_from_copy.ensures.called) c.fetch_block.ensures.handed

pub returns-in_err-read-clause-reads : goal.returns-in_err-read-clause-reads
returns-in_err-read-clause-reads g c = on_ok-from c.from_residual.result _ _ c.from_residual.ensures.1

pub returns-then-not-is_lacking-clause-reads : goal.returns-then-not-is_lacking-clause-reads
returns-then-not-is_lacking-clause-reads g c = reads-leave (job c.args.repair.now) (copy_block c.args.block.now.copy c.args.block.now.index) (copy_block c.args.block.now.copy (c.args.block.now.index + 1)) c.args.image.now.world c.is_lacking.new.image.world (inr (refl, omega arith)) (leaves-read (job c.args.repair.now) c.args.image.now.world c.is_lacking.new.image.world c.is_lacking.ensures.read c.is_lacking.ensures.kept)

pub returns-then-not-read_from_copy-clause-reads : goal.returns-then-not-read_from_copy-clause-reads
returns-then-not-read_from_copy-clause-reads g c =
    let j = job c.args.repair.now in
    let b = c.args.block.now in
    let a = c.args.image.now.world in
    let seen = c.is_lacking.new.image.world in
    let between = c.read_from_copy.new.image.world in
    reads-seed j b.copy b.index b.source c.read_from_copy.new.bytes a seen between between (c.is_lacking.ensures.lacking c.if-not-is_lacking.false) c.is_lacking.ensures.kept c.is_lacking.ensures.read c.read_from_copy.ensures.read
    (c.read_from_copy.auto.bytes ∙ c.is_lacking.auto.block ∙ ap (λ (l : List ℕ). length l) (c.as_mut_slice-bytes.ensures.value ∙ c.in_ok-read.ensures.ok) ∙ length-replicate {A = ℕ} c.block_size-size.result 0 ∙ c.block_size-size.ensures)
    (subst (λ (size : ℕ). ReadsCopyOnce b.copy (b.source * (size / 512)) c.read_from_copy.new.bytes seen.data_copies between.data_copies) c.block_size-size.ensures
    (at-sector b.copy c.saturating_mul-first.result _ c.read_from_copy.new.bytes seen.data_copies between.data_copies c.saturating_mul-first.ensures c.read_from_copy.ensures.once))
    (leaves-none j between)

pub returns-clause-reads : goal.returns-clause-reads
returns-clause-reads g c = on_ok-run c.fetch_block.result c.fetch_block.ensures.run (λ run.
    let j = job c.args.repair.now in
    let b = c.args.block.now in
    let a = c.args.image.now.world in
    let seen = c.is_lacking.new.image.world in
    let between = c.read_from_copy.new.image.world in
    reads-seed j b.copy b.index b.source c.read_from_copy.new.bytes a seen between c.fetch_block.new.image.world (c.is_lacking.ensures.lacking c.if-not-is_lacking.false) c.is_lacking.ensures.kept c.is_lacking.ensures.read c.read_from_copy.ensures.read
    (c.read_from_copy.auto.bytes ∙ c.is_lacking.auto.block ∙ ap (λ (l : List ℕ). length l) (c.as_mut_slice-bytes.ensures.value ∙ c.in_ok-read.ensures.ok) ∙ length-replicate {A = ℕ} c.block_size-size.result 0 ∙ c.block_size-size.ensures)
    (subst (λ (size : ℕ). ReadsCopyOnce b.copy (b.source * (size / 512)) c.read_from_copy.new.bytes seen.data_copies between.data_copies) c.block_size-size.ensures
    (at-sector b.copy c.saturating_mul-first.result _ c.read_from_copy.new.bytes seen.data_copies between.data_copies c.saturating_mul-first.ensures c.read_from_copy.ensures.once))
    (leaves-run j between c.fetch_block.new.image.world run c.fetch_block.ensures.kept))
