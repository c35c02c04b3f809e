use Rattle.std.proofs.Common.{IsTrue, subst, sym, map, ap}
use Rattle.fec_area.specs.Restoring.{IsMadeAgain}
use Rattle.fec_area.specs.Layouts.{IsLaidOn}
use Rattle.fec_area.specs.declared.restoring.LostBlock.{LostBlock}
use Rattle.std.proofs.lemmas.Bool.{false≢true}
use Rattle.tree_repair.specs.Parity.{IsNotBack}
use Rattle.tree_repair.specs.Worlds.{RepairWorld, image_record, repair_world, world_of}
use Rattle.std.specs.Prelude.{IfOk, is_ok}
use Rattle.tree_repair.specs.ParityBounds.{IsAskedWithin, round_bill}
use Rattle.tree_repair.proofs.ParityBillLemmas.{asked-round}
use Rattle.tree_repair.proofs.LosingLemmas.{cause-alike, made-alike}
use Rattle.tree_repair.proofs.ParityLemmas.{lacks-lost, refusal-from, unback}
use Rattle.block_device.specs.Call.{DeviceDoes}
use Rattle.tree_repair.specs.RepairCalls.{ReadsBoth}
use Rattle.tree_repair.proofs.RestoredCallLemmas.{read-restored}
use Rattle.tree_repair.proofs.parity.restore.Goals as goal
use Rattle.tree_repair.proofs.parity.restore.Goals.{in-Ok, in-Err}

pub restore_block-requires-clause-laid : goal.restore_block-requires-clause-laid
restore_block-requires-clause-laid g c = subst (λ (w : RepairWorld). IsLaidOn c.args.losses.now.layout w.data_dev w.hash_dev) (sym (ap (λ i. world_of i) c.image.view_is)) c.requires.laid

pub returns-clause-parity : goal.returns-clause-parity
returns-clause-parity g c = record { read = c.restore_block.ensures.parity; more = c.restore_block.ensures.parity_counted }

pub returns-clause-within : goal.returns-clause-within
returns-clause-within g c =
    let l = c.args.losses.now in
    let i = c.image.inside in
    let a = repair_world (g.D.BlockDev.state i.data) (g.H.BlockDev.state i.hash) (map g.C.BlockDev.state i.data_copies.items) (map g.C.BlockDev.state i.hash_copies.items) in
    let d' = g.D.BlockDev.state c.restore_block.new.data_dev in
    let h' = g.H.BlockDev.state c.restore_block.new.hash_dev in
    let p = g.P.BlockDev.state c.args.parity.now in
    let p' = g.P.BlockDev.state c.restore_block.new.parity_dev in
    subst (λ (w : RepairWorld). IsAskedWithin (round_bill l.layout) w (repair_world d' h' a.data_copies a.hash_copies) p p') (ap (λ i. world_of i) c.image.view_is)
    (asked-round l.layout c.requires.laid.layout c.beside.result.now c.args.index (is_ok c.restore_block.result) a d' h' p p' c.restore_block.ensures.read c.restore_block.ensures.parity c.restore_block.ensures.asks)

pub returns-clause-bytes : goal.returns-clause-bytes
returns-clause-bytes g c =
    let l = c.args.losses.now in
    let p = g.P.BlockDev.state c.args.parity.now in
    let bytes = c.restore_block.new.block in
    elim c.match-restore_block.branch [
      | in-Ok w ↦ rw w.result-is (λ yes.
          subst (λ (x : RepairWorld). IsTrue x.data_dev.steady → IsTrue x.hash_dev.steady → IsTrue p.steady → IsMadeAgain l.layout x.data_dev.image x.hash_dev.image p.image l.lost.items c.args.index bytes) (ap (λ i. world_of i) c.image.view_is)
          (λ one two three. made-alike l.layout c.args.index c.beside.result.now l.lost.items bytes _ _ _ c.beside.ensures (w.in-Ok.ensures.bytes one two three)))
      | in-Err w ↦ rw w.result-is (unback l c.args.image.now.world p c.args.index bytes w.in-Err.fault w.unrestored.result w.unrestored.ensures.ok)
    ]

pub returns-clause-none : goal.returns-clause-none
returns-clause-none g c =
    let l = c.args.losses.now in
    let i = c.image.inside in
    let a = repair_world (g.D.BlockDev.state i.data) (g.H.BlockDev.state i.hash) (map g.C.BlockDev.state i.data_copies.items) (map g.C.BlockDev.state i.hash_copies.items) in
    let b = repair_world (g.D.BlockDev.state c.restore_block.new.data_dev) (g.H.BlockDev.state c.restore_block.new.hash_dev) a.data_copies a.hash_copies in
    let p = g.P.BlockDev.state c.args.parity.now in
    let p' = g.P.BlockDev.state c.restore_block.new.parity_dev in
    elim c.match-restore_block.branch [
      | in-Ok w ↦ rw w.result-is (λ no. absurd (false≢true (sym no)))
      | in-Err w ↦ rw w.result-is
          (subst (λ (x : RepairWorld). IfOk w.unrestored.result (IsNotBack l c.args.index x b p p')) (ap (λ i. world_of i) c.image.view_is)
          (lacks-lost l c.args.index a b p p' w.in-Err.fault w.unrestored.result w.unrestored.ensures.ok w.in-Err.ensures.sure
          (cause-alike l.layout c.args.index c.beside.result.now l.lost.items _ _ _ _ _ _ w.in-Err.fault c.beside.ensures w.in-Err.ensures.err)))
    ]

pub returns-clause-err : goal.returns-clause-err
returns-clause-err g c =
    elim c.match-restore_block.branch [
      | in-Ok w ↦ rw w.result-is tt
      | in-Err w ↦ rw w.result-is (refusal-from c.args.losses.now.layout c.beside.result.now c.args.index _ _ _ _ _ _ w.in-Err.fault w.unrestored.result w.unrestored.ensures.err w.in-Err.ensures.err)
    ]

pub returns-clause-called : goal.returns-clause-called
returns-clause-called g c =
    let asks = DeviceDoes g.D.BlockDev.state g.D.BlockDev.does in
    let does = DeviceDoes g.H.BlockDev.state g.H.BlockDev.does in
    let reads = DeviceDoes g.P.BlockDev.state g.P.BlockDev.does in
    let i = c.image.inside in
    let b = image_record (repair_world (g.D.BlockDev.state c.restore_block.new.data_dev) (g.H.BlockDev.state c.restore_block.new.hash_dev) (map g.C.BlockDev.state i.data_copies.items) (map g.C.BlockDev.state i.hash_copies.items)) c.restore_block.new.data_dev c.restore_block.new.hash_dev in
    let sought : LostBlock = record { layout = record { ref_ptr = (0, 0); now = c.args.losses.now.layout }; lost = c.beside.result; index = c.args.index } in
    subst (λ x. ReadsBoth asks does x b) c.image.view_is
    (read-restored asks does i.data c.restore_block.new.data_dev i.hash c.restore_block.new.hash_dev reads sought c.restore_block.new.block c.args.parity.now c.restore_block.new.parity_dev c.restore_block.result c.restore_block.ensures.calls)
