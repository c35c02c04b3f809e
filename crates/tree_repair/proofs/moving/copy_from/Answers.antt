use Rattle.std.proofs.Common.{List, ℕ, ap, arith, false, length, refl, true, ◌∙◌}
use Rattle.std.proofs.lemmas.List.{length-replicate}
use Rattle.tree_repair.proofs.MoveLemmas.{copies-behind, copies-one, copies-read}
use Rattle.tree_repair.proofs.ParityLemmas.{if_ok-from, size-block}
use Rattle.tree_repair.proofs.RunLemmas.{can-read, ended-from, ends-read, ends-unsaid, ends-unwritten, has-behind, has-one, has-read, refused-within, world-none}
use Rattle.block_device.specs.Call.{DeviceDoes}
use Rattle.tree_repair.specs.Jobs.{job}
use Rattle.tree_repair.proofs.RunCallLemmas.{hands-behind, hands-ended, hands-none, hands-read, hands-visit, visit-restored}
use Rattle.tree_repair.proofs.moving.copy_from.Goals as goal

pub returns-in_err-made-clause-run : goal.returns-in_err-made-clause-run
returns-in_err-made-clause-run g c = ended-from c.from_residual.result c.from_residual.ensures.1 (ends-read (world-none c.args.image.now.world) (refused-within c.block_size-size.result (omega (arith, c.block_size-size.ensures, (size-block c.args.missing.now.repair.now.shape c.args.missing.now.place.height c.requires.can.valid).most)) c.in_err-made.ensures.err.1))

pub returns-in_err-made-clause-said : goal.returns-in_err-made-clause-said
returns-in_err-made-clause-said g c = if_ok-from c.from_residual.result _ _ c.from_residual.ensures.1

pub returns-in_err-read-clause-run : goal.returns-in_err-read-clause-run
returns-in_err-read-clause-run g c = ended-from c.from_residual-in_err-read.result c.from_residual-in_err-read.ensures.1 (ends-read (world-none c.args.image.now.world) (refused-within c.block_size-size.result (omega (arith, c.block_size-size.ensures, (size-block c.args.missing.now.repair.now.shape c.args.missing.now.place.height c.requires.can.valid).most)) c.in_err-read.ensures.err.1))

pub returns-in_err-read-clause-said : goal.returns-in_err-read-clause-said
returns-in_err-read-clause-said g c = if_ok-from c.from_residual-in_err-read.result _ _ c.from_residual-in_err-read.ensures.1

pub is_at-requires-clause-size : goal.is_at-requires-clause-size
is_at-requires-clause-size g c =
    ap (λ (l : List ℕ). length l) (c.as_mut_slice-bytes.ensures.value ∙ c.in_ok-made.ensures.ok) ∙ length-replicate {A = ℕ} c.block_size-size.result 0 ∙ c.block_size-size.ensures

pub returns-then-not-is_at-clause-run : goal.returns-then-not-is_at-clause-run
returns-then-not-is_at-clause-run g c = has-read c.is_at.ensures.read

pub returns-then-not-is_at-clause-said : goal.returns-then-not-is_at-clause-said
returns-then-not-is_at-clause-said g c = copies-read c.is_at.ensures.read

pub put_block-requires-clause-can : goal.put_block-requires-clause-can
put_block-requires-clause-can g c = can-read c.is_at.ensures.read c.requires.can

pub put_block-requires-clause-good : goal.put_block-requires-clause-good
put_block-requires-clause-good g c = c.is_at.ensures.good c.if-not-is_at.false

pub put_block-requires-clause-bytes : goal.put_block-requires-clause-bytes
put_block-requires-clause-bytes g c =
    c.is_at.auto.bytes ∙ ap (λ (l : List ℕ). length l) (c.as_mut_slice-bytes.ensures.value ∙ c.in_ok-made.ensures.ok) ∙ length-replicate {A = ℕ} c.block_size-size.result 0 ∙ c.block_size-size.ensures

pub put_block-requires-clause-size : goal.put_block-requires-clause-size
put_block-requires-clause-size g c =
    ap (λ (l : List ℕ). length l) (c.as_mut_slice-block.ensures.value ∙ c.in_ok-read.ensures.ok) ∙ length-replicate {A = ℕ} c.block_size-size.result 0 ∙ c.block_size-size.ensures

pub returns-in_err-back-clause-run : goal.returns-in_err-back-clause-run
returns-in_err-back-clause-run g c = ended-from c.from_residual-in_err-back.result c.from_residual-in_err-back.ensures.1 (has-behind c.is_at.ensures.read (ends-unwritten c.in_err-back.ensures.err tt refl))

pub returns-in_err-back-clause-said : goal.returns-in_err-back-clause-said
returns-in_err-back-clause-said g c = if_ok-from c.from_residual-in_err-back.result _ _ c.from_residual-in_err-back.ensures.1

pub returns-then-not-back-clause-run : goal.returns-then-not-back-clause-run
returns-then-not-back-clause-run g c = has-behind c.is_at.ensures.read (has-read (rw c.if-not-back.true at c.in_ok-back.ensures.ok).0)

pub returns-then-not-back-clause-said : goal.returns-then-not-back-clause-said
returns-then-not-back-clause-said g c = copies-behind c.is_at.ensures.read (copies-read (rw c.if-not-back.true at c.in_ok-back.ensures.ok).0)

pub returns-in_err-say_moved-clause-run : goal.returns-in_err-say_moved-clause-run
returns-in_err-say_moved-clause-run g c =
    ended-from c.from_residual-in_err-say_moved.result c.from_residual-in_err-say_moved.ensures.1 (has-behind c.is_at.ensures.read (ends-unsaid (rw c.if-not-back.false at c.in_ok-back.ensures.ok) refl))

pub returns-in_err-say_moved-clause-said : goal.returns-in_err-say_moved-clause-said
returns-in_err-say_moved-clause-said g c = if_ok-from c.from_residual-in_err-say_moved.result _ _ c.from_residual-in_err-say_moved.ensures.1

pub returns-clause-run : goal.returns-clause-run
returns-clause-run g c = has-behind c.is_at.ensures.read (has-one (rw c.if-not-back.false at c.in_ok-back.ensures.ok) refl tt)

pub returns-clause-said : goal.returns-clause-said
returns-clause-said g c = copies-behind c.is_at.ensures.read (copies-one c.args.source c.requires.low (rw c.if-not-back.false at c.in_ok-back.ensures.ok) c.in_ok-say_moved.ensures.ok)

pub returns-in_err-made-clause-handed : goal.returns-in_err-made-clause-handed
returns-in_err-made-clause-handed g c =
    let asks = DeviceDoes g.D.BlockDev.state g.D.BlockDev.does in
    let does = DeviceDoes g.H.BlockDev.state g.H.BlockDev.does in
    hands-ended asks does (job c.args.missing.now.repair.now) c.args.image.now c.args.image.now c.from_residual.result _ c.from_residual.ensures.1 (hands-none asks does (job c.args.missing.now.repair.now) c.args.image.now)

pub returns-in_err-read-clause-handed : goal.returns-in_err-read-clause-handed
returns-in_err-read-clause-handed g c =
    let asks = DeviceDoes g.D.BlockDev.state g.D.BlockDev.does in
    let does = DeviceDoes g.H.BlockDev.state g.H.BlockDev.does in
    hands-ended asks does (job c.args.missing.now.repair.now) c.args.image.now c.args.image.now c.from_residual-in_err-read.result _ c.from_residual-in_err-read.ensures.1 (hands-none asks does (job c.args.missing.now.repair.now) c.args.image.now)

pub returns-then-not-is_at-clause-handed : goal.returns-then-not-is_at-clause-handed
returns-then-not-is_at-clause-handed g c =
    let asks = DeviceDoes g.D.BlockDev.state g.D.BlockDev.does in
    let does = DeviceDoes g.H.BlockDev.state g.H.BlockDev.does in
    hands-read asks does (job c.args.missing.now.repair.now) c.args.image.now c.is_at.new.image c.is_at.ensures.called

pub returns-in_err-back-clause-handed : goal.returns-in_err-back-clause-handed
returns-in_err-back-clause-handed g c =
    let asks = DeviceDoes g.D.BlockDev.state g.D.BlockDev.does in
    let does = DeviceDoes g.H.BlockDev.state g.H.BlockDev.does in
    let m = c.args.missing.now in
    let h = m.place.height in
    let i = m.place.index in
    let p = m.path.now in
    hands-ended asks does (job c.args.missing.now.repair.now) c.args.image.now c.put_block.new.image c.from_residual-in_err-back.result _ c.from_residual-in_err-back.ensures.1
    (hands-behind asks does (job c.args.missing.now.repair.now) false c.args.image.now c.is_at.new.image c.put_block.new.image c.is_at.ensures.called
    (hands-visit asks does (job c.args.missing.now.repair.now) h i p false c.is_at.new.image c.put_block.new.image c.requires.place.inside c.requires.way (visit-restored asks does (job c.args.missing.now.repair.now) h i p false c.is_at.new.image c.put_block.new.image c.in_err-back.ensures.handed)))

pub returns-then-not-back-clause-handed : goal.returns-then-not-back-clause-handed
returns-then-not-back-clause-handed g c =
    let asks = DeviceDoes g.D.BlockDev.state g.D.BlockDev.does in
    let does = DeviceDoes g.H.BlockDev.state g.H.BlockDev.does in
    let m = c.args.missing.now in
    let h = m.place.height in
    let i = m.place.index in
    let p = m.path.now in
    (hands-behind asks does (job c.args.missing.now.repair.now) true c.args.image.now c.is_at.new.image c.put_block.new.image c.is_at.ensures.called
    (hands-visit asks does (job c.args.missing.now.repair.now) h i p true c.is_at.new.image c.put_block.new.image c.requires.place.inside c.requires.way (visit-restored asks does (job c.args.missing.now.repair.now) h i p true c.is_at.new.image c.put_block.new.image c.in_ok-back.ensures.handed)))

pub returns-in_err-say_moved-clause-handed : goal.returns-in_err-say_moved-clause-handed
returns-in_err-say_moved-clause-handed g c =
    let asks = DeviceDoes g.D.BlockDev.state g.D.BlockDev.does in
    let does = DeviceDoes g.H.BlockDev.state g.H.BlockDev.does in
    let m = c.args.missing.now in
    let h = m.place.height in
    let i = m.place.index in
    let p = m.path.now in
    hands-ended asks does (job c.args.missing.now.repair.now) c.args.image.now c.put_block.new.image c.from_residual-in_err-say_moved.result _ c.from_residual-in_err-say_moved.ensures.1
    (hands-behind asks does (job c.args.missing.now.repair.now) true c.args.image.now c.is_at.new.image c.put_block.new.image c.is_at.ensures.called
    (hands-visit asks does (job c.args.missing.now.repair.now) h i p true c.is_at.new.image c.put_block.new.image c.requires.place.inside c.requires.way (visit-restored asks does (job c.args.missing.now.repair.now) h i p true c.is_at.new.image c.put_block.new.image c.in_ok-back.ensures.handed)))

pub returns-clause-handed : goal.returns-clause-handed
returns-clause-handed g c =
    let asks = DeviceDoes g.D.BlockDev.state g.D.BlockDev.does in
    let does = DeviceDoes g.H.BlockDev.state g.H.BlockDev.does in
    let m = c.args.missing.now in
    let h = m.place.height in
    let i = m.place.index in
    let p = m.path.now in
    (hands-behind asks does (job c.args.missing.now.repair.now) true c.args.image.now c.is_at.new.image c.put_block.new.image c.is_at.ensures.called
    (hands-visit asks does (job c.args.missing.now.repair.now) h i p true c.is_at.new.image c.put_block.new.image c.requires.place.inside c.requires.way (visit-restored asks does (job c.args.missing.now.repair.now) h i p true c.is_at.new.image c.put_block.new.image c.in_ok-back.ensures.handed)))

pub returns-in_err-made-clause-kept : goal.returns-in_err-made-clause-kept
returns-in_err-made-clause-kept g c = refl

pub returns-in_err-read-clause-kept : goal.returns-in_err-read-clause-kept
returns-in_err-read-clause-kept g c = refl

pub returns-then-not-is_at-clause-kept : goal.returns-then-not-is_at-clause-kept
returns-then-not-is_at-clause-kept g c = c.is_at.ensures.kept

pub returns-in_err-back-clause-kept : goal.returns-in_err-back-clause-kept
returns-in_err-back-clause-kept g c = c.put_block.ensures.kept ∙ c.is_at.ensures.kept

pub returns-then-not-back-clause-kept : goal.returns-then-not-back-clause-kept
returns-then-not-back-clause-kept g c = c.put_block.ensures.kept ∙ c.is_at.ensures.kept

pub returns-in_err-say_moved-clause-kept : goal.returns-in_err-say_moved-clause-kept
returns-in_err-say_moved-clause-kept g c = c.put_block.ensures.kept ∙ c.is_at.ensures.kept

pub returns-clause-kept : goal.returns-clause-kept
returns-clause-kept g c = c.put_block.ensures.kept ∙ c.is_at.ensures.kept
