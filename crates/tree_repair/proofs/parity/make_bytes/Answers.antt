use Rattle.std.proofs.Common.{◌∙◌}
use Rattle.block_device.specs.Call.{DeviceDoes}
use Rattle.tree_repair.specs.Jobs.{job}
use Rattle.tree_repair.specs.Runs.{IsRefusal}
use Rattle.tree_repair.proofs.CorrectBillLemmas.{asked-first, asked-tries}
use Rattle.tree_repair.proofs.ParityLemmas.{err-from, if_ok-from}
use Rattle.tree_repair.proofs.RepairCallLemmas.{both-more}
use Rattle.tree_repair.proofs.RunLemmas.{laid-read, parity-then, world-then}
use Rattle.tree_repair.proofs.TryLemmas.{found-or}
use Rattle.tree_repair.proofs.parity.make_bytes.Goals as goal

pub correct_again-requires-clause-laid : goal.correct_again-requires-clause-laid
correct_again-requires-clause-laid g c = laid-read c.make_again.ensures.read c.requires.laid

pub correct_again-requires-clause-size : goal.correct_again-requires-clause-size
correct_again-requires-clause-size g c = c.make_again.auto.bytes ∙ c.requires.size

pub returns-then-not-back-clause-read : goal.returns-then-not-back-clause-read
returns-then-not-back-clause-read g c = world-then c.args.image.now.world c.make_again.new.image.world c.correct_again.new.image.world c.make_again.ensures.read c.correct_again.ensures.read

pub returns-then-not-back-clause-parity : goal.returns-then-not-back-clause-parity
returns-then-not-back-clause-parity g c = parity-then c.make_again.ensures.parity c.correct_again.ensures.parity

pub returns-clause-good : goal.returns-clause-good
returns-clause-good g c = λ yes. c.in_ok-back.ensures.good c.if-not-back.false

pub returns-then-not-back-clause-vain : goal.returns-then-not-back-clause-vain
returns-then-not-back-clause-vain g c =
    let m = c.args.missing.now in
    found-or (job m.repair.now) m.path.now m.place.height m.place.index c.args.losses.now.layout c.args.losses.now.lost.items c.args.image.now.world c.make_again.new.image.world c.correct_again.new.image.world
    (g.P.BlockDev.state c.args.parity.now) (g.P.BlockDev.state c.make_again.new.parity) (g.P.BlockDev.state c.correct_again.new.parity) c.correct_again.result
    (rw c.if-not-back.true at c.in_ok-back.ensures.vain) c.make_again.ensures.read c.make_again.ensures.parity c.correct_again.ensures.read c.correct_again.ensures.parity

pub returns-clause-vain : goal.returns-clause-vain
returns-clause-vain g c = tt

pub returns-in_err-back-clause-within : goal.returns-in_err-back-clause-within
returns-in_err-back-clause-within g c = (asked-first c.args.losses.now.layout c.requires.laid.layout c.make_again.ensures.within.0, if_ok-from c.from_residual.result _ _ c.from_residual.ensures.1)

pub returns-then-not-back-clause-within : goal.returns-then-not-back-clause-within
returns-then-not-back-clause-within g c = (asked-tries c.args.losses.now.layout c.requires.laid.layout c.make_again.ensures.within.0 c.correct_again.ensures.within.0, c.correct_again.ensures.within.1)

pub returns-clause-within : goal.returns-clause-within
returns-clause-within g c = (asked-first c.args.losses.now.layout c.requires.laid.layout c.make_again.ensures.within.0, λ yes. c.in_ok-back.ensures.within.1 c.if-not-back.false)

pub returns-in_err-back-clause-err : goal.returns-in_err-back-clause-err
returns-in_err-back-clause-err g c = err-from c.from_residual.result IsRefusal c.in_err-back.field-0.0 c.from_residual.ensures.1 c.in_err-back.ensures.err

pub returns-in_err-back-clause-called : goal.returns-in_err-back-clause-called
returns-in_err-back-clause-called g c = c.make_again.ensures.called

pub returns-then-not-back-clause-called : goal.returns-then-not-back-clause-called
returns-then-not-back-clause-called g c =
    let asks = DeviceDoes g.D.BlockDev.state g.D.BlockDev.does in
    let does = DeviceDoes g.H.BlockDev.state g.H.BlockDev.does in
    both-more asks does c.args.image.now c.make_again.new.image c.correct_again.new.image c.make_again.ensures.called c.correct_again.ensures.called

pub returns-clause-called : goal.returns-clause-called
returns-clause-called g c = c.make_again.ensures.called
