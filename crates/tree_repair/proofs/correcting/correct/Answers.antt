use Rattle.std.proofs.Common.{map, ap, subst, sym}
use Rattle.std.specs.Prelude.{is_ok}
use Rattle.block_device.specs.Call.{DeviceDoes}
use Rattle.fec_area.specs.Layouts.{IsLaidOn}
use Rattle.fec_area.specs.Restoring.{round_of}
use Rattle.tree_repair.specs.ParityBounds.{IsAskedWithin, correct_bill}
use Rattle.tree_repair.specs.RepairCalls.{ReadsBoth}
use Rattle.tree_repair.specs.Worlds.{RepairWorld, image_record, repair_world, world_of}
use Rattle.tree_repair.proofs.CorrectBillLemmas.{asked-correct}
use Rattle.tree_repair.proofs.ParityLemmas.{refusal-corrected}
use Rattle.tree_repair.proofs.RestoredCallLemmas.{read-corrected}
use Rattle.tree_repair.proofs.correcting.correct.Goals as goal
use Rattle.tree_repair.proofs.correcting.correct.Goals.{in-Ok, in-Err}

pub correct_block-requires-clause-laid : goal.correct_block-requires-clause-laid
correct_block-requires-clause-laid g c = subst (λ (w : RepairWorld). IsLaidOn c.args.losses.now.layout w.data_dev w.hash_dev) (sym (ap (λ i. world_of i) c.image.view_is)) c.requires.laid

pub returns-clause-parity : goal.returns-clause-parity
returns-clause-parity g c = record { read = c.correct_block.ensures.parity; more = c.correct_block.ensures.parity_counted }

pub returns-clause-within : goal.returns-clause-within
returns-clause-within g c =
    let l = c.args.losses.now in
    let i = c.image.inside in
    let a = repair_world (g.D.BlockDev.state i.data) (g.H.BlockDev.state i.hash) (map g.C.BlockDev.state i.data_copies.items) (map g.C.BlockDev.state i.hash_copies.items) in
    let d' = g.D.BlockDev.state c.correct_block.new.data_dev in
    let h' = g.H.BlockDev.state c.correct_block.new.hash_dev in
    let p = g.P.BlockDev.state c.args.parity.now in
    let p' = g.P.BlockDev.state c.correct_block.new.parity_dev in
    subst (λ (w : RepairWorld). IsAskedWithin (correct_bill l.layout) w (repair_world d' h' a.data_copies a.hash_copies) p p') (ap (λ i. world_of i) c.image.view_is)
    (asked-correct l.layout a d' h' p p' c.correct_block.ensures.read c.correct_block.ensures.parity c.correct_block.ensures.most)

pub returns-clause-err : goal.returns-clause-err
returns-clause-err g c =
    elim c.match-correct_block.branch [
      | in-Ok w ↦ rw w.result-is tt
      | in-Err w ↦ rw w.result-is (refusal-corrected c.args.losses.now.layout _ _ _ _ _ _ w.in-Err.fault w.unrestored.result w.unrestored.ensures.err w.in-Err.ensures.err)
    ]

pub returns-clause-called : goal.returns-clause-called
returns-clause-called g c =
    let asks = DeviceDoes g.D.BlockDev.state g.D.BlockDev.does in
    let does = DeviceDoes g.H.BlockDev.state g.H.BlockDev.does in
    let i = c.image.inside in
    let l = c.args.losses.now.layout in
    let b = image_record (repair_world (g.D.BlockDev.state c.correct_block.new.data_dev) (g.H.BlockDev.state c.correct_block.new.hash_dev) (map g.C.BlockDev.state i.data_copies.items) (map g.C.BlockDev.state i.hash_copies.items)) c.correct_block.new.data_dev c.correct_block.new.hash_dev in
    subst (λ x. ReadsBoth asks does x b) c.image.view_is
    (read-corrected asks does i.data c.correct_block.new.data_dev i.hash c.correct_block.new.hash_dev l (round_of l c.args.index) c.args.index (is_ok c.correct_block.result) c.correct_block.ensures.calls)
