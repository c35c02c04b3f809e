use Rattle.std.proofs.Common.{inl, true, ap, inr, refl, None, subst, sym}
use Rattle.verity_format.proofs.lemmas.DeviceLemmas.{only_read-none}
use Rattle.tree_repair.specs.Jobs.{job}
use Rattle.tree_repair.specs.Outcomes.{IsParityOutcome}
use Rattle.tree_repair.specs.Runs.{Job}
use Rattle.tree_repair.proofs.BackLemmas.{parity-outcome}
use Rattle.tree_repair.proofs.RepairLemmas.{can-begin, ends-of, err-from, is_err-from, repairs-of, whole-err}
use Rattle.tree_repair.proofs.RunLemmas.{ended-from}
use Rattle.tree_repair.proofs.ParityPassLemmas.{repairs-passes, runs-from}
use Rattle.tree_repair.proofs.WholeLemmas.{unfailed-since}
use Rattle.block_device.specs.Call.{DeviceDoes}
use Rattle.verity_format.specs.declared.verifying.VerifyFault.TheVariants.{TooSmall}
use Rattle.tree_repair.specs.declared.fault.RepairFault.TheVariants.{Image}
use Rattle.tree_repair.specs.RepairCalls.{wrote_all}
use Rattle.tree_repair.specs.Repairs.{job_of}
use Rattle.tree_repair.specs.RunCalls.{MakesRepair}
use Rattle.tree_repair.proofs.RunCallLemmas.{hands-ended, hands-fault, hands-none}
use Rattle.tree_repair.proofs.passes.repair_with_parity.Goals as goal

pub returns-in_err-check_room-clause-parity : goal.returns-in_err-check_room-clause-parity
returns-in_err-check_room-clause-parity g c = only_read-none (g.P.BlockDev.state c.args.parity_dev.now)

pub returns-in_err-check_room-clause-err : goal.returns-in_err-check_room-clause-err
returns-in_err-check_room-clause-err g c = err-from c.from_residual.result _ c.in_err-check_room.field-0.0 c.from_residual.ensures.1 (inl c.in_err-check_room.ensures.err)

pub run_passes-requires-clause-asked : goal.run_passes-requires-clause-asked
run_passes-requires-clause-asked g c = ap (λ (j : Job). j.parity) c.repair_of-repair.ensures

pub run_passes-requires-clause-can : goal.run_passes-requires-clause-can
run_passes-requires-clause-can g c = can-begin c.args.plan.now true (job c.repair_of-repair.result) c.args.image.now.world c.repair_of-repair.ensures c.in_ok-check_room.ensures.ok c.requires.allowed c.requires.first

pub returns-in_err-all-clause-parity : goal.returns-in_err-all-clause-parity
returns-in_err-all-clause-parity g c = c.run_passes.ensures.parity.read

pub returns-clause-parity : goal.returns-clause-parity
returns-clause-parity g c = c.run_passes.ensures.parity.read

pub returns-in_err-all-clause-err : goal.returns-in_err-all-clause-err
returns-in_err-all-clause-err g c =
    whole-err c.args.plan.now true (job c.repair_of-repair.result) c.args.image.now.world c.repair_of-repair.ensures c.in_ok-check_room.ensures.ok c.run_passes.new.image.world (g.W.Write.contents c.args.writer.now.inner)
    (g.W.Write.contents c.run_passes.new.writer.inner) c.from_residual-in_err-all.result (ended-from c.from_residual-in_err-all.result c.from_residual-in_err-all.ensures.1 c.in_err-all.ensures.run)

pub returns-clause-ok : goal.returns-clause-ok
returns-clause-ok g c =
    repairs-of c.args.plan.now true (job c.repair_of-repair.result) c.args.image.now.world c.repair_of-repair.ensures c.in_ok-check_room.ensures.ok c.run_passes.new.image.world (g.W.Write.contents c.args.writer.now.inner)
    (g.W.Write.contents c.run_passes.new.writer.inner) None c.in_ok-all.ensures.run

pub returns-in_err-check_room-clause-within : goal.returns-in_err-check_room-clause-within
returns-in_err-check_room-clause-within g c = inl (is_err-from c.from_residual.result _ c.in_err-check_room.field-0.0 c.from_residual.ensures.1 c.in_err-check_room.ensures.err, refl)

pub returns-in_err-all-clause-within : goal.returns-in_err-all-clause-within
returns-in_err-all-clause-within g c =
    inr (repairs-passes c.args.plan.now (job c.repair_of-repair.result) c.repair_of-repair.ensures c.in_ok-check_room.ensures.ok (runs-from c.from_residual-in_err-all.result c.from_residual-in_err-all.ensures.1 c.in_err-all.ensures.within))

pub returns-clause-within : goal.returns-clause-within
returns-clause-within g c = inr (repairs-passes c.args.plan.now (job c.repair_of-repair.result) c.repair_of-repair.ensures c.in_ok-check_room.ensures.ok c.in_ok-all.ensures.within)

pub returns-clause-whole : goal.returns-clause-whole
returns-clause-whole g c =
    let w = c.args.image.now.world in
    let y = c.run_passes.new.image.world in
    subst (IsParityOutcome c.args.plan.now w y) (sym c.outcome_of.ensures)
    (parity-outcome c.args.plan.now (job c.repair_of-repair.result) w y c.repair_of-repair.ensures c.in_ok-check_room.ensures.ok
    c.in_ok-all.all c.none_since-sure.result c.blocks-blocks.result c.blocks-blocks.ensures.value c.in_ok-all.ensures.whole
    (λ known. unfailed-since c.of-before.result w y c.of-before.ensures.data c.of-before.ensures.hash (c.none_since-sure.ensures.none known)))

pub returns-clause-sought : goal.returns-clause-sought
returns-clause-sought g c =
    ends-of c.args.plan.now (job c.repair_of-repair.result) c.args.layout.now c.args.image.now.world c.run_passes.new.image.world
    (g.P.BlockDev.state c.args.parity_dev.now) (g.P.BlockDev.state c.run_passes.new.parity) c.repair_of-repair.ensures c.in_ok-check_room.ensures.ok c.in_ok-all.ensures.asks

pub returns-in_err-check_room-clause-handed : goal.returns-in_err-check_room-clause-handed
returns-in_err-check_room-clause-handed g c =
    let asks = DeviceDoes g.D.BlockDev.state g.D.BlockDev.does in
    let does = DeviceDoes g.H.BlockDev.state g.H.BlockDev.does in
    hands-ended asks does (job_of c.args.plan.now true) c.args.image.now c.args.image.now c.from_residual.result _ c.from_residual.ensures.1
    (hands-fault asks does (job_of c.args.plan.now true) _ (Image TooSmall) c.args.image.now c.args.image.now c.in_err-check_room.ensures.err.is (hands-none asks does (job_of c.args.plan.now true) c.args.image.now))

pub returns-in_err-all-clause-handed : goal.returns-in_err-all-clause-handed
returns-in_err-all-clause-handed g c =
    let asks = DeviceDoes g.D.BlockDev.state g.D.BlockDev.does in
    let does = DeviceDoes g.H.BlockDev.state g.H.BlockDev.does in
    subst (λ (k : Job). MakesRepair asks does k (wrote_all c.from_residual-in_err-all.result) c.args.image.now c.run_passes.new.image) c.repair_of-repair.ensures
    (hands-ended asks does (job c.repair_of-repair.result) c.args.image.now c.run_passes.new.image c.from_residual-in_err-all.result _ c.from_residual-in_err-all.ensures.1 c.in_err-all.ensures.handed)

pub returns-clause-handed : goal.returns-clause-handed
returns-clause-handed g c =
    let asks = DeviceDoes g.D.BlockDev.state g.D.BlockDev.does in
    let does = DeviceDoes g.H.BlockDev.state g.H.BlockDev.does in
    subst (λ (k : Job). MakesRepair asks does k true c.args.image.now c.run_passes.new.image) c.repair_of-repair.ensures c.in_ok-all.ensures.handed
