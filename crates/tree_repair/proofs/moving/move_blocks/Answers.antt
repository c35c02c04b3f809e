use Rattle.std.proofs.Common.{None, ap, inl, subst, true}
use Rattle.tree_repair.specs.Jobs.{job}
use Rattle.tree_repair.specs.Runs.{Job}
use Rattle.tree_repair.specs.AccessBudgets.{LeavesWorld, nothing_due, pass_over}
use Rattle.tree_repair.proofs.BillLemmas.{one-pass}
use Rattle.tree_repair.proofs.MoveLemmas.{moves-of, unheard}
use Rattle.tree_repair.proofs.RepairLemmas.{can-begin, err-from, whole-err}
use Rattle.tree_repair.proofs.RunLemmas.{can-later, ended-from, has-then}
use Rattle.block_device.specs.Call.{DeviceDoes}
use Rattle.verity_format.specs.declared.verifying.VerifyFault.TheVariants.{TooSmall}
use Rattle.tree_repair.specs.declared.fault.RepairFault.TheVariants.{Image}
use Rattle.tree_repair.specs.RepairCalls.{wrote_all}
use Rattle.tree_repair.specs.Repairs.{job_of}
use Rattle.tree_repair.specs.RunCalls.{MakesRepair}
use Rattle.tree_repair.proofs.RunCallLemmas.{hands-ended, hands-fault, hands-none, hands-then}
use Rattle.tree_repair.proofs.moving.move_blocks.Goals as goal

pub returns-in_err-check_room-clause-err : goal.returns-in_err-check_room-clause-err
returns-in_err-check_room-clause-err g c = err-from c.from_residual.result _ c.in_err-check_room.field-0.0 c.from_residual.ensures.1 (inl c.in_err-check_room.ensures.err)

pub repair_heights-requires-clause-can : goal.repair_heights-requires-clause-can
repair_heights-requires-clause-can g c = can-begin c.args.plan.now true (job c.repair_of-repair.result) c.args.image.now.world c.repair_of-repair.ensures c.in_ok-check_room.ensures.ok c.requires.allowed c.requires.first

pub returns-in_err-repair_heights-clause-err : goal.returns-in_err-repair_heights-clause-err
returns-in_err-repair_heights-clause-err g c =
    whole-err c.args.plan.now true (job c.repair_of-repair.result) c.args.image.now.world c.repair_of-repair.ensures c.in_ok-check_room.ensures.ok c.repair_heights.new.image.world None None c.from_residual-in_err-repair_heights.result
    (ended-from c.from_residual-in_err-repair_heights.result c.from_residual-in_err-repair_heights.ensures.1 (unheard c.in_err-repair_heights.ensures.notes.run))

pub move_if_listed-requires-clause-asked : goal.move_if_listed-requires-clause-asked
move_if_listed-requires-clause-asked g c = ap (λ (j : Job). j.parity) c.repair_of-repair.ensures

pub move_if_listed-requires-clause-can : goal.move_if_listed-requires-clause-can
move_if_listed-requires-clause-can g c =
    can-later c.in_ok-repair_heights.ensures.notes.run
    (can-begin c.args.plan.now true (job c.repair_of-repair.result) c.args.image.now.world c.repair_of-repair.ensures c.in_ok-check_room.ensures.ok c.requires.allowed c.requires.first)

pub returns-in_err-moved-clause-err : goal.returns-in_err-moved-clause-err
returns-in_err-moved-clause-err g c =
    whole-err c.args.plan.now true (job c.repair_of-repair.result) c.args.image.now.world c.repair_of-repair.ensures c.in_ok-check_room.ensures.ok c.move_if_listed.new.image.world None None c.from_residual-in_err-moved.result
    (ended-from c.from_residual-in_err-moved.result c.from_residual-in_err-moved.ensures.1 (has-then (unheard c.in_ok-repair_heights.ensures.notes.run) c.in_err-moved.ensures.run))

pub fetch_runs-requires-clause-asked : goal.fetch_runs-requires-clause-asked
fetch_runs-requires-clause-asked g c = ap (λ (j : Job). j.parity) c.repair_of-repair.ensures

pub copy_from_seeds-requires-clause-asked : goal.copy_from_seeds-requires-clause-asked
copy_from_seeds-requires-clause-asked g c = ap (λ (j : Job). j.parity) c.repair_of-repair.ensures

pub copy_from_seeds-requires-clause-can : goal.copy_from_seeds-requires-clause-can
copy_from_seeds-requires-clause-can g c =
    can-later c.in_ok-moved.ensures.run
    (can-later c.in_ok-repair_heights.ensures.notes.run
    (can-begin c.args.plan.now true (job c.repair_of-repair.result) c.args.image.now.world c.repair_of-repair.ensures c.in_ok-check_room.ensures.ok c.requires.allowed c.requires.first))

pub returns-in_err-copied-clause-err : goal.returns-in_err-copied-clause-err
returns-in_err-copied-clause-err g c =
    whole-err c.args.plan.now true (job c.repair_of-repair.result) c.args.image.now.world c.repair_of-repair.ensures c.in_ok-check_room.ensures.ok c.copy_from_seeds.new.image.world None None c.from_residual-in_err-copied.result
    (ended-from c.from_residual-in_err-copied.result c.from_residual-in_err-copied.ensures.1
    (has-then (unheard c.in_ok-repair_heights.ensures.notes.run) (has-then c.in_ok-moved.ensures.run c.in_err-copied.ensures.run)))

pub fetch_runs-requires-clause-can : goal.fetch_runs-requires-clause-can
fetch_runs-requires-clause-can g c =
    can-later (has-then c.in_ok-moved.ensures.run c.in_ok-copied.ensures.run)
    (can-later c.in_ok-repair_heights.ensures.notes.run
    (can-begin c.args.plan.now true (job c.repair_of-repair.result) c.args.image.now.world c.repair_of-repair.ensures c.in_ok-check_room.ensures.ok c.requires.allowed c.requires.first))

pub returns-in_err-fetch_runs-clause-err : goal.returns-in_err-fetch_runs-clause-err
returns-in_err-fetch_runs-clause-err g c =
    whole-err c.args.plan.now true (job c.repair_of-repair.result) c.args.image.now.world c.repair_of-repair.ensures c.in_ok-check_room.ensures.ok c.fetch_runs.new.image.world None None c.from_residual-in_err-fetch_runs.result
    (ended-from c.from_residual-in_err-fetch_runs.result c.from_residual-in_err-fetch_runs.ensures.1
    (has-then (unheard c.in_ok-repair_heights.ensures.notes.run) (has-then (has-then c.in_ok-moved.ensures.run c.in_ok-copied.ensures.run) c.in_err-fetch_runs.ensures.run)))

pub returns-clause-ok : goal.returns-clause-ok
returns-clause-ok g c =
    moves-of c.args.plan.now (job c.repair_of-repair.result) c.repair_of-repair.ensures c.in_ok-check_room.ensures.ok c.in_ok-repair_heights.ensures.notes.run
    (has-then (has-then c.in_ok-moved.ensures.run c.in_ok-copied.ensures.run) c.in_ok-fetch_runs.ensures.run) c.in_ok-moved.ensures.said c.in_ok-copied.ensures.said c.in_ok-fetch_runs.ensures.said
    (one-pass c.args.plan.now.tree.shape c.args.image.now.world c.repair_heights.new.image.world
    (subst (λ (j : Job). LeavesWorld (pass_over j.tree.shape) nothing_due c.args.image.now.world c.repair_heights.new.image.world) c.repair_of-repair.ensures c.repair_heights.ensures.asked))
    c.move_if_listed.ensures.kept c.in_ok-copied.ensures.reads c.in_ok-fetch_runs.ensures.reads c.saturating_add.ensures

pub returns-in_err-check_room-clause-handed : goal.returns-in_err-check_room-clause-handed
returns-in_err-check_room-clause-handed g c =
    let asks = DeviceDoes g.D.BlockDev.state g.D.BlockDev.does in
    let does = DeviceDoes g.H.BlockDev.state g.H.BlockDev.does in
    hands-ended asks does (job_of c.args.plan.now true) c.args.image.now c.args.image.now c.from_residual.result _ c.from_residual.ensures.1
    (hands-fault asks does (job_of c.args.plan.now true) _ (Image TooSmall) c.args.image.now c.args.image.now c.in_err-check_room.ensures.err.is (hands-none asks does (job_of c.args.plan.now true) c.args.image.now))

pub returns-in_err-repair_heights-clause-handed : goal.returns-in_err-repair_heights-clause-handed
returns-in_err-repair_heights-clause-handed g c =
    let asks = DeviceDoes g.D.BlockDev.state g.D.BlockDev.does in
    let does = DeviceDoes g.H.BlockDev.state g.H.BlockDev.does in
    subst (λ (k : Job). MakesRepair asks does k (wrote_all c.from_residual-in_err-repair_heights.result) c.args.image.now c.repair_heights.new.image) c.repair_of-repair.ensures
    (hands-ended asks does (job c.repair_of-repair.result) c.args.image.now c.repair_heights.new.image c.from_residual-in_err-repair_heights.result _ c.from_residual-in_err-repair_heights.ensures.1 c.in_err-repair_heights.ensures.handed)

pub returns-in_err-moved-clause-handed : goal.returns-in_err-moved-clause-handed
returns-in_err-moved-clause-handed g c =
    let asks = DeviceDoes g.D.BlockDev.state g.D.BlockDev.does in
    let does = DeviceDoes g.H.BlockDev.state g.H.BlockDev.does in
    subst (λ (k : Job). MakesRepair asks does k (wrote_all c.from_residual-in_err-moved.result) c.args.image.now c.move_if_listed.new.image) c.repair_of-repair.ensures
    (hands-ended asks does (job c.repair_of-repair.result) c.args.image.now c.move_if_listed.new.image c.from_residual-in_err-moved.result _ c.from_residual-in_err-moved.ensures.1
    (hands-then asks does (job c.repair_of-repair.result) _ c.args.image.now c.repair_heights.new.image c.move_if_listed.new.image c.in_ok-repair_heights.ensures.handed c.in_err-moved.ensures.handed))

pub returns-in_err-fetch_runs-clause-handed : goal.returns-in_err-fetch_runs-clause-handed
returns-in_err-fetch_runs-clause-handed g c =
    let asks = DeviceDoes g.D.BlockDev.state g.D.BlockDev.does in
    let does = DeviceDoes g.H.BlockDev.state g.H.BlockDev.does in
    subst (λ (k : Job). MakesRepair asks does k (wrote_all c.from_residual-in_err-fetch_runs.result) c.args.image.now c.fetch_runs.new.image) c.repair_of-repair.ensures
    (hands-ended asks does (job c.repair_of-repair.result) c.args.image.now c.fetch_runs.new.image c.from_residual-in_err-fetch_runs.result _ c.from_residual-in_err-fetch_runs.ensures.1
    (hands-then asks does (job c.repair_of-repair.result) _ c.args.image.now c.copy_from_seeds.new.image c.fetch_runs.new.image
    (hands-then asks does (job c.repair_of-repair.result) true c.args.image.now c.move_if_listed.new.image c.copy_from_seeds.new.image
    (hands-then asks does (job c.repair_of-repair.result) true c.args.image.now c.repair_heights.new.image c.move_if_listed.new.image c.in_ok-repair_heights.ensures.handed c.in_ok-moved.ensures.handed)
    c.in_ok-copied.ensures.handed) c.in_err-fetch_runs.ensures.handed))

pub returns-in_err-copied-clause-handed : goal.returns-in_err-copied-clause-handed
returns-in_err-copied-clause-handed g c =
    let asks = DeviceDoes g.D.BlockDev.state g.D.BlockDev.does in
    let does = DeviceDoes g.H.BlockDev.state g.H.BlockDev.does in
    subst (λ (k : Job). MakesRepair asks does k (wrote_all c.from_residual-in_err-copied.result) c.args.image.now c.copy_from_seeds.new.image) c.repair_of-repair.ensures
    (hands-ended asks does (job c.repair_of-repair.result) c.args.image.now c.copy_from_seeds.new.image c.from_residual-in_err-copied.result _ c.from_residual-in_err-copied.ensures.1
    (hands-then asks does (job c.repair_of-repair.result) _ c.args.image.now c.move_if_listed.new.image c.copy_from_seeds.new.image
    (hands-then asks does (job c.repair_of-repair.result) true c.args.image.now c.repair_heights.new.image c.move_if_listed.new.image c.in_ok-repair_heights.ensures.handed c.in_ok-moved.ensures.handed)
    c.in_err-copied.ensures.handed))

pub returns-clause-handed : goal.returns-clause-handed
returns-clause-handed g c =
    let asks = DeviceDoes g.D.BlockDev.state g.D.BlockDev.does in
    let does = DeviceDoes g.H.BlockDev.state g.H.BlockDev.does in
    subst (λ (k : Job). MakesRepair asks does k true c.args.image.now c.fetch_runs.new.image) c.repair_of-repair.ensures
    (hands-then asks does (job c.repair_of-repair.result) true c.args.image.now c.copy_from_seeds.new.image c.fetch_runs.new.image
    (hands-then asks does (job c.repair_of-repair.result) true c.args.image.now c.move_if_listed.new.image c.copy_from_seeds.new.image
    (hands-then asks does (job c.repair_of-repair.result) true c.args.image.now c.repair_heights.new.image c.move_if_listed.new.image c.in_ok-repair_heights.ensures.handed c.in_ok-moved.ensures.handed)
    c.in_ok-copied.ensures.handed) c.in_ok-fetch_runs.ensures.handed)
