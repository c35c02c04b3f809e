use Rattle.std.proofs.Common.{List, false, length, refl, ap, arith, true}
use Rattle.tree_repair.specs.declared.bad.BadBlock.{BadBlock}
use Rattle.tree_repair.specs.declared.bad.BadBlocks.{BadBlocks}
use Rattle.tree_repair.specs.Jobs.{job}
use Rattle.tree_repair.specs.Noting.{was_put}
use Rattle.tree_repair.proofs.KeepLemmas.{kept-blocks, kept-true, leaves-checked, leaves-unchecked, noted-kept, read-good, read-lost}
use Rattle.tree_repair.proofs.ParityLemmas.{size-block}
use Rattle.tree_repair.proofs.PassLemmas.{noted-from, noted-not, noted-one}
use Rattle.tree_repair.proofs.RunLemmas.{can-later, ends-unnoted, ends-unsaid, ends-unwritten, has-one, refused-within}
use Rattle.block_device.specs.Call.{DeviceDoes}
use Rattle.tree_repair.proofs.RepairCallLemmas.{both-at}
use Rattle.tree_repair.proofs.RunCallLemmas.{hands-ended, hands-read, hands-then, hands-visit}
use Rattle.tree_repair.proofs.levels.repair_block.Goals as goal

pub returns-in_err-mended-clause-notes : goal.returns-in_err-mended-clause-notes
returns-in_err-mended-clause-notes g c = noted-from c.from_residual.result c.from_residual.ensures.1 (noted-not (ends-unwritten c.in_err-mended.ensures.err.1.1.1 c.in_err-mended.ensures.err.1.1.0 refl) refl)

pub returns-in_err-say_mended-clause-notes : goal.returns-in_err-say_mended-clause-notes
returns-in_err-say_mended-clause-notes g c = noted-from c.from_residual-in_err-say_mended.result c.from_residual-in_err-say_mended.ensures.1 (noted-not (ends-unsaid c.in_ok-mended.ensures.ok.1 refl) refl)

pub returns-in_err-note-clause-notes : goal.returns-in_err-note-clause-notes
returns-in_err-note-clause-notes g c = noted-from c.from_residual-in_err-note.result c.from_residual-in_err-note.ensures.1 (noted-not (ends-unnoted c.in_ok-mended.ensures.ok.1 refl (refused-within 1 (omega arith) c.in_err-note.ensures.err.1)) c.note.ensures.asked)

pub is_kept-kept-requires-clause-can : goal.is_kept-kept-requires-clause-can
is_kept-kept-requires-clause-can g c = can-later (has-one c.in_ok-mended.ensures.ok.1 refl c.in_ok-say_mended.ensures.ok) c.requires.can

pub returns-clause-notes : goal.returns-clause-notes
returns-clause-notes g c =
    noted-kept c.is_kept-kept.result
    (noted-one {b = c.note.new.self} _ c.in_ok-mended.ensures.ok.1 refl c.in_ok-say_mended.ensures.ok c.note.ensures.asked c.in_ok-note.ensures.noted c.in_ok-note.ensures.any c.note.ensures.passed c.note.ensures.unkept (λ h i due. record { height_is = due.0; same = due.1 }) (refl, refl))
    c.is_kept-kept.ensures.read c.keep.ensures (λ no. (c.args.place.height, (c.args.place.index, read-lost (job c.args.repair.now) c.args.place.height c.args.place.index (was_put c.args.repair.now.write c.in_ok-mended.mended) c.visit.new.image.world c.is_kept-kept.new.image.world c.is_kept-kept.result c.is_kept-kept.ensures.kept no)))

pub returns-clause-few : goal.returns-clause-few
returns-clause-few g c = omega (arith, c.in_ok-note.ensures.few, ap (λ (b : BadBlocks). length b.blocks.items) c.keep.ensures, ap (λ (l : List BadBlock). length l) (kept-blocks c.is_kept-kept.result c.note.new.self))

pub returns-in_err-mended-clause-asked : goal.returns-in_err-mended-clause-asked
returns-in_err-mended-clause-asked g c =
    leaves-unchecked c.args.repair.now.shape c.requires.can.valid c.args.place.height c.args.place.index c.args.image.now.world c.visit.new.image.world c.visit.ensures.asked

pub returns-in_err-say_mended-clause-asked : goal.returns-in_err-say_mended-clause-asked
returns-in_err-say_mended-clause-asked g c =
    leaves-unchecked c.args.repair.now.shape c.requires.can.valid c.args.place.height c.args.place.index c.args.image.now.world c.visit.new.image.world c.visit.ensures.asked

pub returns-in_err-note-clause-asked : goal.returns-in_err-note-clause-asked
returns-in_err-note-clause-asked g c =
    leaves-unchecked c.args.repair.now.shape c.requires.can.valid c.args.place.height c.args.place.index c.args.image.now.world c.visit.new.image.world c.visit.ensures.asked

pub returns-clause-asked : goal.returns-clause-asked
returns-clause-asked g c =
    leaves-checked c.args.repair.now.shape c.requires.can.valid c.args.place.height c.args.place.index c.requires.inside c.args.image.now.world c.visit.new.image.world c.is_kept-kept.new.image.world
    c.visit.ensures.asked c.is_kept-kept.ensures.asked

pub is_kept-kept-requires-clause-room : goal.is_kept-kept-requires-clause-room
is_kept-kept-requires-clause-room g c = omega (arith, (size-block c.args.repair.now.shape c.args.place.height c.requires.can.valid).most, c.requires.room, c.visit.auto.memory)

pub returns-clause-kept : goal.returns-clause-kept
returns-clause-kept g c = λ kept. record {
  mended = c.in_ok-mended.mended;
  bytes = c.in_ok-mended.ensures.ok.0;
  behind = c.visit.new.image.world;
  visited = c.in_ok-mended.ensures.ok.1;
  there = read-good (job c.args.repair.now) c.args.place.height c.args.place.index (was_put c.args.repair.now.write c.in_ok-mended.mended) c.visit.new.image.world c.is_kept-kept.new.image.world c.is_kept-kept.result c.is_kept-kept.ensures.kept (kept-true c.is_kept-kept.result c.note.new.self c.keep.new.self c.keep.ensures kept);
  read_back = c.is_kept-kept.ensures.read;
}

pub returns-in_err-mended-clause-handed : goal.returns-in_err-mended-clause-handed
returns-in_err-mended-clause-handed g c =
    let asks = DeviceDoes g.D.BlockDev.state g.D.BlockDev.does in
    let does = DeviceDoes g.H.BlockDev.state g.H.BlockDev.does in
    hands-ended asks does (job c.args.repair.now) c.args.image.now c.visit.new.image c.from_residual.result _ c.from_residual.ensures.1
    (hands-visit asks does (job c.args.repair.now) c.args.place.height c.args.place.index c.args.path.now false c.args.image.now c.visit.new.image c.requires.inside c.requires.way c.in_err-mended.ensures.handed)

pub returns-in_err-say_mended-clause-handed : goal.returns-in_err-say_mended-clause-handed
returns-in_err-say_mended-clause-handed g c =
    let asks = DeviceDoes g.D.BlockDev.state g.D.BlockDev.does in
    let does = DeviceDoes g.H.BlockDev.state g.H.BlockDev.does in
    hands-ended asks does (job c.args.repair.now) c.args.image.now c.visit.new.image c.from_residual-in_err-say_mended.result _ c.from_residual-in_err-say_mended.ensures.1
    (hands-visit asks does (job c.args.repair.now) c.args.place.height c.args.place.index c.args.path.now true c.args.image.now c.visit.new.image c.requires.inside c.requires.way c.in_ok-mended.ensures.handed)

pub returns-in_err-note-clause-handed : goal.returns-in_err-note-clause-handed
returns-in_err-note-clause-handed g c =
    let asks = DeviceDoes g.D.BlockDev.state g.D.BlockDev.does in
    let does = DeviceDoes g.H.BlockDev.state g.H.BlockDev.does in
    hands-ended asks does (job c.args.repair.now) c.args.image.now c.visit.new.image c.from_residual-in_err-note.result _ c.from_residual-in_err-note.ensures.1
    (hands-visit asks does (job c.args.repair.now) c.args.place.height c.args.place.index c.args.path.now true c.args.image.now c.visit.new.image c.requires.inside c.requires.way c.in_ok-mended.ensures.handed)

pub returns-clause-handed : goal.returns-clause-handed
returns-clause-handed g c =
    let asks = DeviceDoes g.D.BlockDev.state g.D.BlockDev.does in
    let does = DeviceDoes g.H.BlockDev.state g.H.BlockDev.does in
    hands-then asks does (job c.args.repair.now) true c.args.image.now c.visit.new.image c.is_kept-kept.new.image
    (hands-visit asks does (job c.args.repair.now) c.args.place.height c.args.place.index c.args.path.now true c.args.image.now c.visit.new.image c.requires.inside c.requires.way c.in_ok-mended.ensures.handed)
    (hands-read asks does (job c.args.repair.now) c.visit.new.image c.is_kept-kept.new.image (both-at asks does c.args.place.height c.visit.new.image c.is_kept-kept.new.image c.is_kept-kept.ensures.called))
