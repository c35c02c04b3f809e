use Rattle.std.proofs.Common.{List, ℕ, ap, arith, false, length, refl, true, ◌∙◌}
use Rattle.std.proofs.lemmas.List.{length-replicate}
use Rattle.tree_shape.specs.Shape.{levels}
use Rattle.block_device.specs.Call.{DeviceDoes}
use Rattle.tree_repair.specs.Jobs.{job}
use Rattle.tree_repair.proofs.MoveLemmas.{copies-one, copies-read}
use Rattle.tree_repair.proofs.ParityLemmas.{if_ok-from, size-block}
use Rattle.tree_repair.proofs.RunCallLemmas.{hands-ended, hands-none, hands-visit, visit-restored}
use Rattle.tree_repair.proofs.RunLemmas.{ended-from, ends-read, ends-unsaid, ends-unwritten, has-none, has-one, has-read, refused-within, world-none}
use Rattle.tree_repair.proofs.fetching.put_fetched.Goals as goal

pub returns-in_err-made-clause-run : goal.returns-in_err-made-clause-run
returns-in_err-made-clause-run g c = ended-from c.from_residual.result c.from_residual.ensures.1 (ends-read (world-none c.args.image.now.world) (refused-within c.block_size-size.result (omega (arith, c.block_size-size.ensures, (size-block c.args.missing.now.repair.now.shape c.args.missing.now.place.height c.requires.can.valid).most)) c.in_err-made.ensures.err.1))

pub returns-in_err-made-clause-said : goal.returns-in_err-made-clause-said
returns-in_err-made-clause-said g c = if_ok-from c.from_residual.result _ _ c.from_residual.ensures.1

pub returns-in_err-made-clause-handed : goal.returns-in_err-made-clause-handed
returns-in_err-made-clause-handed g c =
    let asks = DeviceDoes g.D.BlockDev.state g.D.BlockDev.does in
    let does = DeviceDoes g.H.BlockDev.state g.H.BlockDev.does in
    hands-ended asks does (job c.args.missing.now.repair.now) c.args.image.now c.args.image.now c.from_residual.result _ c.from_residual.ensures.1 (hands-none asks does (job c.args.missing.now.repair.now) c.args.image.now)

pub returns-in_err-read-clause-run : goal.returns-in_err-read-clause-run
returns-in_err-read-clause-run g c = ended-from c.from_residual-in_err-read.result c.from_residual-in_err-read.ensures.1 (ends-read (world-none c.args.image.now.world) (refused-within c.block_size-size.result (omega (arith, c.block_size-size.ensures, (size-block c.args.missing.now.repair.now.shape c.args.missing.now.place.height c.requires.can.valid).most)) c.in_err-read.ensures.err.1))

pub returns-in_err-read-clause-said : goal.returns-in_err-read-clause-said
returns-in_err-read-clause-said g c = if_ok-from c.from_residual-in_err-read.result _ _ c.from_residual-in_err-read.ensures.1

pub returns-in_err-read-clause-handed : goal.returns-in_err-read-clause-handed
returns-in_err-read-clause-handed g c =
    let asks = DeviceDoes g.D.BlockDev.state g.D.BlockDev.does in
    let does = DeviceDoes g.H.BlockDev.state g.H.BlockDev.does in
    hands-ended asks does (job c.args.missing.now.repair.now) c.args.image.now c.args.image.now c.from_residual-in_err-read.result _ c.from_residual-in_err-read.ensures.1 (hands-none asks does (job c.args.missing.now.repair.now) c.args.image.now)

pub digest_at-expected-requires : goal.digest_at-expected-requires
digest_at-expected-requires g c = omega (arith, c.requires.way.few, ap levels c.requires.way.is.shape_is)

pub returns-then-not-has_digest-clause-run : goal.returns-then-not-has_digest-clause-run
returns-then-not-has_digest-clause-run g c = has-none

pub returns-then-not-has_digest-clause-said : goal.returns-then-not-has_digest-clause-said
returns-then-not-has_digest-clause-said g c = copies-read (world-none c.args.image.now.world)

pub returns-then-not-has_digest-clause-handed : goal.returns-then-not-has_digest-clause-handed
returns-then-not-has_digest-clause-handed g c =
    let asks = DeviceDoes g.D.BlockDev.state g.D.BlockDev.does in
    let does = DeviceDoes g.H.BlockDev.state g.H.BlockDev.does in
    hands-none asks does (job c.args.missing.now.repair.now) c.args.image.now

pub put_block-requires-clause-good : goal.put_block-requires-clause-good
put_block-requires-clause-good g c = c.has_digest.ensures c.if-not-has_digest.false ∙ c.digest_at-expected.ensures

pub put_block-requires-clause-bytes : goal.put_block-requires-clause-bytes
put_block-requires-clause-bytes g c =
    c.copy_part.auto.part ∙ ap (λ (l : List ℕ). length l) (c.as_mut_slice-bytes.ensures.value ∙ c.in_ok-made.ensures.ok) ∙ length-replicate {A = ℕ} c.block_size-size.result 0 ∙ c.block_size-size.ensures

pub put_block-requires-clause-size : goal.put_block-requires-clause-size
put_block-requires-clause-size g c =
    ap (λ (l : List ℕ). length l) (c.as_mut_slice-block.ensures.value ∙ c.in_ok-read.ensures.ok) ∙ length-replicate {A = ℕ} c.block_size-size.result 0 ∙ c.block_size-size.ensures

pub returns-in_err-back-clause-run : goal.returns-in_err-back-clause-run
returns-in_err-back-clause-run g c = ended-from c.from_residual-in_err-back.result c.from_residual-in_err-back.ensures.1 (ends-unwritten c.in_err-back.ensures.err tt refl)

pub returns-in_err-back-clause-said : goal.returns-in_err-back-clause-said
returns-in_err-back-clause-said g c = if_ok-from c.from_residual-in_err-back.result _ _ c.from_residual-in_err-back.ensures.1

pub returns-then-not-back-clause-run : goal.returns-then-not-back-clause-run
returns-then-not-back-clause-run g c = has-read (rw c.if-not-back.true at c.in_ok-back.ensures.ok).0

pub returns-then-not-back-clause-said : goal.returns-then-not-back-clause-said
returns-then-not-back-clause-said g c = copies-read (rw c.if-not-back.true at c.in_ok-back.ensures.ok).0

pub say_mended-requires : goal.say_mended-requires
say_mended-requires g c = c.requires.place.inside

pub returns-in_err-say_mended-clause-run : goal.returns-in_err-say_mended-clause-run
returns-in_err-say_mended-clause-run g c =
    ended-from c.from_residual-in_err-say_mended.result c.from_residual-in_err-say_mended.ensures.1 (ends-unsaid (rw c.if-not-back.false at c.in_ok-back.ensures.ok) refl)

pub returns-in_err-say_mended-clause-said : goal.returns-in_err-say_mended-clause-said
returns-in_err-say_mended-clause-said g c = if_ok-from c.from_residual-in_err-say_mended.result _ _ c.from_residual-in_err-say_mended.ensures.1

pub returns-clause-run : goal.returns-clause-run
returns-clause-run g c = has-one (rw c.if-not-back.false at c.in_ok-back.ensures.ok) refl tt

pub returns-clause-said : goal.returns-clause-said
returns-clause-said g c = copies-one c.saturating_add-number.result c.requires.low (rw c.if-not-back.false at c.in_ok-back.ensures.ok) c.in_ok-say_mended.ensures.ok

pub returns-in_err-back-clause-handed : goal.returns-in_err-back-clause-handed
returns-in_err-back-clause-handed g c =
    let asks = DeviceDoes g.D.BlockDev.state g.D.BlockDev.does in
    let does = DeviceDoes g.H.BlockDev.state g.H.BlockDev.does in
    let m = c.args.missing.now in
    let h = m.place.height in
    let i = m.place.index in
    let p = m.path.now in
    hands-ended asks does (job c.args.missing.now.repair.now) c.args.image.now c.put_block.new.image c.from_residual-in_err-back.result _ c.from_residual-in_err-back.ensures.1
    (hands-visit asks does (job c.args.missing.now.repair.now) h i p false c.args.image.now c.put_block.new.image c.requires.place.inside c.requires.way (visit-restored asks does (job c.args.missing.now.repair.now) h i p false c.args.image.now c.put_block.new.image c.in_err-back.ensures.handed))

pub returns-then-not-back-clause-handed : goal.returns-then-not-back-clause-handed
returns-then-not-back-clause-handed g c =
    let asks = DeviceDoes g.D.BlockDev.state g.D.BlockDev.does in
    let does = DeviceDoes g.H.BlockDev.state g.H.BlockDev.does in
    let m = c.args.missing.now in
    let h = m.place.height in
    let i = m.place.index in
    let p = m.path.now in
    hands-visit asks does (job c.args.missing.now.repair.now) h i p true c.args.image.now c.put_block.new.image c.requires.place.inside c.requires.way (visit-restored asks does (job c.args.missing.now.repair.now) h i p true c.args.image.now c.put_block.new.image c.in_ok-back.ensures.handed)

pub returns-in_err-say_mended-clause-handed : goal.returns-in_err-say_mended-clause-handed
returns-in_err-say_mended-clause-handed g c =
    let asks = DeviceDoes g.D.BlockDev.state g.D.BlockDev.does in
    let does = DeviceDoes g.H.BlockDev.state g.H.BlockDev.does in
    let m = c.args.missing.now in
    let h = m.place.height in
    let i = m.place.index in
    let p = m.path.now in
    hands-ended asks does (job c.args.missing.now.repair.now) c.args.image.now c.put_block.new.image c.from_residual-in_err-say_mended.result _ c.from_residual-in_err-say_mended.ensures.1
    (hands-visit asks does (job c.args.missing.now.repair.now) h i p true c.args.image.now c.put_block.new.image c.requires.place.inside c.requires.way (visit-restored asks does (job c.args.missing.now.repair.now) h i p true c.args.image.now c.put_block.new.image c.in_ok-back.ensures.handed))

pub returns-clause-handed : goal.returns-clause-handed
returns-clause-handed g c =
    let asks = DeviceDoes g.D.BlockDev.state g.D.BlockDev.does in
    let does = DeviceDoes g.H.BlockDev.state g.H.BlockDev.does in
    let m = c.args.missing.now in
    let h = m.place.height in
    let i = m.place.index in
    let p = m.path.now in
    hands-visit asks does (job c.args.missing.now.repair.now) h i p true c.args.image.now c.put_block.new.image c.requires.place.inside c.requires.way (visit-restored asks does (job c.args.missing.now.repair.now) h i p true c.args.image.now c.put_block.new.image c.in_ok-back.ensures.handed)

pub returns-in_err-made-clause-kept : goal.returns-in_err-made-clause-kept
returns-in_err-made-clause-kept g c = refl

pub returns-in_err-read-clause-kept : goal.returns-in_err-read-clause-kept
returns-in_err-read-clause-kept g c = refl

pub returns-then-not-has_digest-clause-kept : goal.returns-then-not-has_digest-clause-kept
returns-then-not-has_digest-clause-kept g c = refl

pub returns-in_err-back-clause-kept : goal.returns-in_err-back-clause-kept
returns-in_err-back-clause-kept g c = c.put_block.ensures.kept

pub returns-then-not-back-clause-kept : goal.returns-then-not-back-clause-kept
returns-then-not-back-clause-kept g c = c.put_block.ensures.kept

pub returns-in_err-say_mended-clause-kept : goal.returns-in_err-say_mended-clause-kept
returns-in_err-say_mended-clause-kept g c = c.put_block.ensures.kept

pub returns-clause-kept : goal.returns-clause-kept
returns-clause-kept g c = c.put_block.ensures.kept
