use Rattle.std.proofs.Common.{sym, ◌∙◌}
use Rattle.std.proofs.lemmas.Bool.{false≢true}
use Rattle.block_device.specs.Call.{DeviceDoes}
use Rattle.tree_repair.specs.ParityBounds.{correct_bill}
use Rattle.tree_repair.specs.Runs.{IsRefusal}
use Rattle.tree_repair.proofs.ParityBillLemmas.{asked-none}
use Rattle.tree_repair.proofs.ParityLemmas.{err-from, if_ok-from}
use Rattle.tree_repair.proofs.RepairCallLemmas.{both-nothing}
use Rattle.tree_repair.proofs.RunLemmas.{parity-none, world-none}
use Rattle.tree_repair.proofs.correcting.correct_again.Goals as goal

pub returns-in-None-clause-read : goal.returns-in-None-clause-read
returns-in-None-clause-read g c = world-none c.args.image.now.world

pub returns-in-None-clause-parity : goal.returns-in-None-clause-parity
returns-in-None-clause-parity g c = parity-none (g.P.BlockDev.state c.args.parity.now)

pub is_few-requires-clause-layout : goal.is_few-requires-clause-layout
is_few-requires-clause-layout g c = c.requires.laid.layout

pub is_few-requires-clause-index : goal.is_few-requires-clause-index
is_few-requires-clause-index g c = c.in-Some.ensures.inside

pub returns-then-not-is_few-clause-read : goal.returns-then-not-is_few-clause-read
returns-then-not-is_few-clause-read g c = world-none c.args.image.now.world

pub returns-then-not-is_few-clause-parity : goal.returns-then-not-is_few-clause-parity
returns-then-not-is_few-clause-parity g c = parity-none (g.P.BlockDev.state c.args.parity.now)

pub returns-then-not-is_few-clause-within : goal.returns-then-not-is_few-clause-within
returns-then-not-is_few-clause-within g c = (asked-none (correct_bill c.args.losses.now.layout) c.args.image.now.world (g.P.BlockDev.state c.args.parity.now), λ yes. absurd (false≢true yes))

pub returns-then-not-is_few-clause-called : goal.returns-then-not-is_few-clause-called
returns-then-not-is_few-clause-called g c =
    let asks = DeviceDoes g.D.BlockDev.state g.D.BlockDev.does in
    let does = DeviceDoes g.H.BlockDev.state g.H.BlockDev.does in
    both-nothing asks does c.args.image.now

pub correct-requires-clause-index : goal.correct-requires-clause-index
correct-requires-clause-index g c = c.in-Some.ensures.inside

pub correct-requires-clause-size : goal.correct-requires-clause-size
correct-requires-clause-size g c = c.requires.size ∙ sym c.in-Some.ensures.size

pub returns-in-None-clause-within : goal.returns-in-None-clause-within
returns-in-None-clause-within g c = (asked-none (correct_bill c.args.losses.now.layout) c.args.image.now.world (g.P.BlockDev.state c.args.parity.now), λ yes. absurd (false≢true yes))

pub returns-in_err-back-clause-within : goal.returns-in_err-back-clause-within
returns-in_err-back-clause-within g c = (c.correct.ensures.within, if_ok-from c.from_residual.result _ _ c.from_residual.ensures.1)

pub returns-then-not-back-clause-within : goal.returns-then-not-back-clause-within
returns-then-not-back-clause-within g c = (c.correct.ensures.within, λ yes. absurd (false≢true yes))

pub returns-clause-within : goal.returns-clause-within
returns-clause-within g c = (c.correct.ensures.within, λ yes. c.in-Some.ensures.size)

pub returns-in_err-back-clause-err : goal.returns-in_err-back-clause-err
returns-in_err-back-clause-err g c = err-from c.from_residual.result IsRefusal c.in_err-back.field-0.0 c.from_residual.ensures.1 c.in_err-back.ensures.err

pub returns-in-None-clause-called : goal.returns-in-None-clause-called
returns-in-None-clause-called g c =
    let asks = DeviceDoes g.D.BlockDev.state g.D.BlockDev.does in
    let does = DeviceDoes g.H.BlockDev.state g.H.BlockDev.does in
    both-nothing asks does c.args.image.now

pub returns-in_err-back-clause-called : goal.returns-in_err-back-clause-called
returns-in_err-back-clause-called g c = c.correct.ensures.called

pub returns-then-not-back-clause-called : goal.returns-then-not-back-clause-called
returns-then-not-back-clause-called g c = c.correct.ensures.called

pub returns-clause-called : goal.returns-clause-called
returns-clause-called g c = c.correct.ensures.called
