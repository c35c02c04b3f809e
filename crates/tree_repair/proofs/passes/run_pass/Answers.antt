use Rattle.std.proofs.Common.{IsTrue, false, sym, ◌∙◌, ◌&&◌, Bool, ap}
use Rattle.std.proofs.lemmas.Bool.{false≢true}
use Rattle.tree_repair.proofs.BackLemmas.{all-good-pass}
use Rattle.tree_repair.proofs.PassLemmas.{pass-of}
use Rattle.tree_repair.proofs.RunLemmas.{can-later, ended-from, has-then, laid-later, parity-none}
use Rattle.tree_repair.proofs.ParityPassLemmas.{runs-not, runs-pass, runs-told}
use Rattle.block_device.specs.Call.{DeviceDoes}
use Rattle.tree_repair.specs.Jobs.{job}
use Rattle.tree_repair.proofs.RunCallLemmas.{hands-ended, hands-then}
use Rattle.tree_repair.proofs.passes.run_pass.Goals as goal
use Rattle.tree_repair.proofs.passes.run_pass.Goals.{then-tree, else-tree}

pub returns-in_err-repair_heights-clause-parity : goal.returns-in_err-repair_heights-clause-parity
returns-in_err-repair_heights-clause-parity g c = parity-none (g.P.BlockDev.state c.args.parity.now)

pub returns-in_err-repair_heights-clause-run : goal.returns-in_err-repair_heights-clause-run
returns-in_err-repair_heights-clause-run g c = ended-from c.from_residual.result c.from_residual.ensures.1 c.in_err-repair_heights.ensures.notes.run

pub restore_bad-requires-clause-can : goal.restore_bad-requires-clause-can
restore_bad-requires-clause-can g c = can-later c.in_ok-repair_heights.ensures.notes.run c.requires.can

pub restore_bad-requires-clause-laid : goal.restore_bad-requires-clause-laid
restore_bad-requires-clause-laid g c = laid-later c.in_ok-repair_heights.ensures.notes.run c.requires.laid

pub returns-in_err-came-clause-parity : goal.returns-in_err-came-clause-parity
returns-in_err-came-clause-parity g c = c.restore_bad.ensures.parity

pub returns-in_err-came-clause-run : goal.returns-in_err-came-clause-run
returns-in_err-came-clause-run g c =
    ended-from c.from_residual-in_err-came.result c.from_residual-in_err-came.ensures.1 (has-then c.in_ok-repair_heights.ensures.notes.run c.in_err-came.ensures.run)

pub returns-clause-parity : goal.returns-clause-parity
returns-clause-parity g c = c.restore_bad.ensures.parity

pub returns-clause-run : goal.returns-clause-run
returns-clause-run g c = has-then c.in_ok-repair_heights.ensures.notes.run c.in_ok-came.ensures.run

pub returns-clause-pass : goal.returns-clause-pass
returns-clause-pass g c = pass-of c.noted.result.now c.if-tree.result c.in_ok-repair_heights.ensures.notes c.new-bad.ensures.asked c.new-bad.ensures.none c.noted.ensures c.in_ok-came.ensures.sought
    (elim c.if-tree.branch [
      | then-tree w ↦ w.result-is ∙ ap (λ (b : Bool). b && c.args.repair.now.write) (sym w.if-tree.true)
      | else-tree w ↦ w.result-is ∙ w.if-tree.false ∙ ap (λ (b : Bool). b && c.args.repair.now.write) (sym w.if-tree.false)
    ])

pub returns-clause-whole : goal.returns-clause-whole
returns-clause-whole g c = λ yes.
    all-good-pass c.noted.result.now c.in_ok-repair_heights.ensures.notes c.new-bad.ensures.asked c.new-bad.ensures.none c.noted.ensures
    (c.in_ok-came.ensures.back (c.is_whole-all.ensures.back yes)) (c.is_whole-all.ensures.passed yes) (c.is_whole-all.ensures.any yes)

pub returns-in_err-repair_heights-clause-within : goal.returns-in_err-repair_heights-clause-within
returns-in_err-repair_heights-clause-within g c = runs-told c.from_residual.result c.from_residual.ensures.1 (runs-not c.in_err-repair_heights.ensures.notes.run c.repair_heights.ensures.asked)

pub returns-in_err-came-clause-within : goal.returns-in_err-came-clause-within
returns-in_err-came-clause-within g c =
    runs-told c.from_residual-in_err-came.result c.from_residual-in_err-came.ensures.1
    (runs-pass false (λ more. absurd (false≢true more)) c.noted.result.now c.in_ok-repair_heights.ensures.notes c.new-bad.ensures.asked c.new-bad.ensures.none c.noted.ensures c.in_ok-repair_heights.ensures.few c.repair_heights.ensures.asked c.in_err-came.ensures.came c.restore_bad.ensures.within)

pub returns-clause-within : goal.returns-clause-within
returns-clause-within g c =
    let came : IsTrue c.if-tree.result → IsTrue c.in_ok-came.came.tree =
    λ more. elim c.if-tree.branch [ then-tree w ↦ w.if-tree.true | else-tree w ↦ sym w.result-is ∙ more ] in
    runs-pass c.if-tree.result came c.noted.result.now c.in_ok-repair_heights.ensures.notes c.new-bad.ensures.asked c.new-bad.ensures.none c.noted.ensures c.in_ok-repair_heights.ensures.few c.repair_heights.ensures.asked c.in_ok-came.ensures.came c.restore_bad.ensures.within

pub returns-in_err-repair_heights-clause-handed : goal.returns-in_err-repair_heights-clause-handed
returns-in_err-repair_heights-clause-handed g c =
    let asks = DeviceDoes g.D.BlockDev.state g.D.BlockDev.does in
    let does = DeviceDoes g.H.BlockDev.state g.H.BlockDev.does in
    hands-ended asks does (job c.args.repair.now) c.args.image.now c.repair_heights.new.image c.from_residual.result _ c.from_residual.ensures.1 c.in_err-repair_heights.ensures.handed

pub returns-in_err-came-clause-handed : goal.returns-in_err-came-clause-handed
returns-in_err-came-clause-handed g c =
    let asks = DeviceDoes g.D.BlockDev.state g.D.BlockDev.does in
    let does = DeviceDoes g.H.BlockDev.state g.H.BlockDev.does in
    hands-ended asks does (job c.args.repair.now) c.args.image.now c.restore_bad.new.image c.from_residual-in_err-came.result _ c.from_residual-in_err-came.ensures.1
    (hands-then asks does (job c.args.repair.now) _ c.args.image.now c.repair_heights.new.image c.restore_bad.new.image c.in_ok-repair_heights.ensures.handed c.in_err-came.ensures.handed)

pub returns-clause-handed : goal.returns-clause-handed
returns-clause-handed g c =
    let asks = DeviceDoes g.D.BlockDev.state g.D.BlockDev.does in
    let does = DeviceDoes g.H.BlockDev.state g.H.BlockDev.does in
    hands-then asks does (job c.args.repair.now) _ c.args.image.now c.repair_heights.new.image c.restore_bad.new.image c.in_ok-repair_heights.ensures.handed c.in_ok-came.ensures.handed
