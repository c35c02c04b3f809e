use Rattle.std.proofs.Common.{ap, false, inl, inr, subst, sym, None, true}
use Rattle.std.specs.Result.{result_err}
use Rattle.tree_shape.specs.Shape.{ShapeRecord}
use Rattle.tree_repair.specs.AccessBudgets.{LeavesWorld, nothing_due, pass_over}
use Rattle.tree_repair.specs.Outcomes.{IsOutcomeOf}
use Rattle.tree_repair.specs.Runs.{Job}
use Rattle.tree_repair.proofs.BillLemmas.{one-pass}
use Rattle.tree_repair.specs.Jobs.{job}
use Rattle.tree_repair.proofs.RepairLemmas.{can-begin, err-from, is_err-from, looks-of, repairs-of, whole-err}
use Rattle.tree_repair.proofs.RunLemmas.{ended-from}
use Rattle.tree_repair.proofs.WholeLemmas.{outcome-of, unfailed-since}
use Rattle.tree_repair.proofs.UnfailedLemmas.{uncounted-of}
use Rattle.block_device.specs.Call.{DeviceDoes}
use Rattle.verity_format.specs.declared.verifying.VerifyFault.TheVariants.{TooSmall}
use Rattle.tree_repair.specs.declared.fault.RepairFault.TheVariants.{Image}
use Rattle.tree_repair.specs.RepairCalls.{wrote_all}
use Rattle.tree_repair.specs.Repairs.{job_of}
use Rattle.tree_repair.specs.RunCalls.{MakesRepair}
use Rattle.tree_repair.proofs.RunCallLemmas.{hands-ended, hands-fault, hands-none}
use Rattle.tree_repair.proofs.repair.repair_image.Goals as goal

pub repair_heights-requires-clause-can : goal.repair_heights-requires-clause-can
repair_heights-requires-clause-can g c = can-begin c.args.plan.now false (job c.repair_of-repair.result) c.args.image.now.world c.repair_of-repair.ensures c.in_ok-check_room.ensures.ok c.requires.allowed c.requires.first

pub returns-in_err-check_room-clause-err : goal.returns-in_err-check_room-clause-err
returns-in_err-check_room-clause-err g c = err-from c.from_residual.result _ c.in_err-check_room.field-0.0 c.from_residual.ensures.1 (inl c.in_err-check_room.ensures.err)

pub returns-in_err-repair_heights-clause-err : goal.returns-in_err-repair_heights-clause-err
returns-in_err-repair_heights-clause-err g c =
    whole-err c.args.plan.now false (job c.repair_of-repair.result) c.args.image.now.world c.repair_of-repair.ensures c.in_ok-check_room.ensures.ok c.repair_heights.new.image.world (g.W.Write.contents c.args.writer.now.inner)
    (g.W.Write.contents c.repair_heights.new.writer.inner) c.from_residual-in_err-repair_heights.result (ended-from c.from_residual-in_err-repair_heights.result c.from_residual-in_err-repair_heights.ensures.1 c.in_err-repair_heights.ensures.notes.run)

pub returns-clause-ok : goal.returns-clause-ok
returns-clause-ok g c =
    repairs-of c.args.plan.now false (job c.repair_of-repair.result) c.args.image.now.world c.repair_of-repair.ensures c.in_ok-check_room.ensures.ok c.repair_heights.new.image.world (g.W.Write.contents c.args.writer.now.inner)
    (g.W.Write.contents c.repair_heights.new.writer.inner) None c.in_ok-repair_heights.ensures.notes.run

pub returns-in_err-check_room-clause-within : goal.returns-in_err-check_room-clause-within
returns-in_err-check_room-clause-within g c = inl (is_err-from c.from_residual.result _ c.in_err-check_room.field-0.0 c.from_residual.ensures.1 c.in_err-check_room.ensures.err)

pub returns-in_err-repair_heights-clause-within : goal.returns-in_err-repair_heights-clause-within
returns-in_err-repair_heights-clause-within g c =
    let r = c.from_residual-in_err-repair_heights.result in
    inr (record {
      repairs = repairs-of c.args.plan.now false (job c.repair_of-repair.result) c.args.image.now.world c.repair_of-repair.ensures c.in_ok-check_room.ensures.ok c.repair_heights.new.image.world (g.W.Write.contents c.args.writer.now.inner)
          (g.W.Write.contents c.repair_heights.new.writer.inner) (result_err r) (ended-from r c.from_residual-in_err-repair_heights.ensures.1 c.in_err-repair_heights.ensures.notes.run);
      within = one-pass c.args.plan.now.tree.shape c.args.image.now.world c.repair_heights.new.image.world
          (subst (λ (x : ShapeRecord). LeavesWorld (pass_over x) nothing_due c.args.image.now.world c.repair_heights.new.image.world) (ap (λ (j : Job). j.tree.shape) c.repair_of-repair.ensures) c.repair_heights.ensures.asked);
    })

pub returns-clause-within : goal.returns-clause-within
returns-clause-within g c =
    inr (record {
      repairs = repairs-of c.args.plan.now false (job c.repair_of-repair.result) c.args.image.now.world c.repair_of-repair.ensures c.in_ok-check_room.ensures.ok c.repair_heights.new.image.world (g.W.Write.contents c.args.writer.now.inner)
          (g.W.Write.contents c.repair_heights.new.writer.inner) None c.in_ok-repair_heights.ensures.notes.run;
      within = one-pass c.args.plan.now.tree.shape c.args.image.now.world c.repair_heights.new.image.world
          (subst (λ (x : ShapeRecord). LeavesWorld (pass_over x) nothing_due c.args.image.now.world c.repair_heights.new.image.world) (ap (λ (j : Job). j.tree.shape) c.repair_of-repair.ensures) c.repair_heights.ensures.asked);
    })

pub returns-clause-looked : goal.returns-clause-looked
returns-clause-looked g c =
    looks-of c.args.plan.now (job c.repair_of-repair.result) c.args.image.now.world c.repair_heights.new.image.world (g.W.Write.contents c.args.writer.now.inner) (g.W.Write.contents c.repair_heights.new.writer.inner) _ _ (sym c.repair_of-repair.ensures)
    c.in_ok-check_room.ensures.ok c.in_ok-repair_heights.ensures.notes

pub returns-clause-whole : goal.returns-clause-whole
returns-clause-whole g c =
    let w = c.args.image.now.world in
    let y = c.repair_heights.new.image.world in
    let notes = c.in_ok-repair_heights.ensures.notes in
    subst (IsOutcomeOf c.args.plan.now w y) (sym c.outcome_of.ensures)
    (outcome-of c.args.plan.now (job c.repair_of-repair.result) w y c.repair_of-repair.ensures c.in_ok-check_room.ensures.ok c.is_none-good.result c.none_since-sure.result c.new-bad.ensures.fresh c.is_none-good.ensures
    (λ known. unfailed-since c.of-before.result w y c.of-before.ensures.data c.of-before.ensures.hash (c.none_since-sure.ensures.none known))
    (λ no none. c.none_since-sure.ensures.some no (uncounted-of c.of-before.result (job c.repair_of-repair.result) notes.run.visits w y c.of-before.ensures.data c.of-before.ensures.hash notes.run.runs none))
    c.blocks-blocks.result c.blocks-blocks.ensures.value notes c.in_ok-repair_heights.ensures.whole)

pub returns-in_err-check_room-clause-handed : goal.returns-in_err-check_room-clause-handed
returns-in_err-check_room-clause-handed g c =
    let asks = DeviceDoes g.D.BlockDev.state g.D.BlockDev.does in
    let does = DeviceDoes g.H.BlockDev.state g.H.BlockDev.does in
    hands-ended asks does (job_of c.args.plan.now false) c.args.image.now c.args.image.now c.from_residual.result _ c.from_residual.ensures.1
    (hands-fault asks does (job_of c.args.plan.now false) _ (Image TooSmall) c.args.image.now c.args.image.now c.in_err-check_room.ensures.err.is (hands-none asks does (job_of c.args.plan.now false) c.args.image.now))

pub returns-in_err-repair_heights-clause-handed : goal.returns-in_err-repair_heights-clause-handed
returns-in_err-repair_heights-clause-handed g c =
    let asks = DeviceDoes g.D.BlockDev.state g.D.BlockDev.does in
    let does = DeviceDoes g.H.BlockDev.state g.H.BlockDev.does in
    subst (λ (k : Job). MakesRepair asks does k (wrote_all c.from_residual-in_err-repair_heights.result) c.args.image.now c.repair_heights.new.image) c.repair_of-repair.ensures
    (hands-ended asks does (job c.repair_of-repair.result) c.args.image.now c.repair_heights.new.image c.from_residual-in_err-repair_heights.result _ c.from_residual-in_err-repair_heights.ensures.1 c.in_err-repair_heights.ensures.handed)

pub returns-clause-handed : goal.returns-clause-handed
returns-clause-handed g c =
    let asks = DeviceDoes g.D.BlockDev.state g.D.BlockDev.does in
    let does = DeviceDoes g.H.BlockDev.state g.H.BlockDev.does in
    subst (λ (k : Job). MakesRepair asks does k true c.args.image.now c.repair_heights.new.image) c.repair_of-repair.ensures c.in_ok-repair_heights.ensures.handed
