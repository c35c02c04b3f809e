use Rattle.std.proofs.Common.{List, ℕ, sym, ap, ◌∙◌, inl, inr}
use Rattle.std.specs.Str.{bytes_eq}
use Rattle.std.proofs.lemmas.Bool.{false≢true}
use Rattle.tree_shape.specs.Digests.{digest}
use Rattle.tree_repair.specs.Jobs.{job}
use Rattle.tree_repair.specs.Runs.{IsRefusal}
use Rattle.tree_repair.specs.ParitySearches.{trial}
use Rattle.tree_repair.proofs.TryLemmas.{made-or}
use Rattle.tree_repair.proofs.RunLemmas.{parity-none, world-none}
use Rattle.tree_repair.specs.ParityBounds.{round_bill}
use Rattle.tree_repair.proofs.ParityBillLemmas.{asked-none}
use Rattle.tree_repair.proofs.ParityLemmas.{err-from, if_ok-from}
use Rattle.block_device.specs.Call.{DeviceDoes}
use Rattle.tree_repair.proofs.RepairCallLemmas.{both-nothing}
use Rattle.tree_repair.proofs.parity.make_again.Goals as goal

pub returns-in-None-clause-read : goal.returns-in-None-clause-read
returns-in-None-clause-read g c = world-none c.args.image.now.world

pub returns-in-None-clause-parity : goal.returns-in-None-clause-parity
returns-in-None-clause-parity g c = parity-none (g.P.BlockDev.state c.args.parity.now)

pub restore-requires-clause-index : goal.restore-requires-clause-index
restore-requires-clause-index g c = c.in-Some.ensures.inside

pub restore-requires-clause-size : goal.restore-requires-clause-size
restore-requires-clause-size g c = c.requires.size ∙ sym c.in-Some.ensures.size

pub returns-in-None-clause-vain : goal.returns-in-None-clause-vain
returns-in-None-clause-vain g c = λ place. inl (c.in-None.ensures place)

pub returns-then-not-back-clause-vain : goal.returns-then-not-back-clause-vain
returns-then-not-back-clause-vain g c = λ place. inr (c.in-Some.index, (c.in-Some.ensures, inl (c.in_ok-back.ensures.none c.if-not-back.true)))

pub returns-clause-vain : goal.returns-clause-vain
returns-clause-vain g c =
    made-or (job c.args.missing.now.repair.now) c.args.missing.now.path.now c.args.missing.now.place.height c.args.missing.now.place.index
    (trial c.args.losses.now.layout c.args.losses.now.lost.items c.args.image.now.world c.restore.new.image.world (g.P.BlockDev.state c.args.parity.now) (g.P.BlockDev.state c.restore.new.parity))
    c.in-Some.index c.restore.new.bytes c.is_same.result c.in-Some.ensures (c.in_ok-back.ensures.bytes c.if-not-back.false) (c.is_same.ensures ∙ ap (λ (x : List ℕ). bytes_eq x c.digest_at-expected.result) c.digest.ensures ∙ ap (bytes_eq (digest c.args.missing.now.repair.now.salt c.restore.new.bytes)) c.digest_at-expected.ensures)

pub returns-in-None-clause-within : goal.returns-in-None-clause-within
returns-in-None-clause-within g c = (asked-none (round_bill c.args.losses.now.layout) c.args.image.now.world (g.P.BlockDev.state c.args.parity.now), λ yes. absurd (false≢true yes))

pub returns-in_err-back-clause-within : goal.returns-in_err-back-clause-within
returns-in_err-back-clause-within g c = (c.restore.ensures.within, if_ok-from c.from_residual.result _ _ c.from_residual.ensures.1)

pub returns-then-not-back-clause-within : goal.returns-then-not-back-clause-within
returns-then-not-back-clause-within g c = (c.restore.ensures.within, λ yes. absurd (false≢true yes))

pub returns-clause-within : goal.returns-clause-within
returns-clause-within g c = (c.restore.ensures.within, λ yes. c.in-Some.ensures.size)

pub returns-in_err-back-clause-err : goal.returns-in_err-back-clause-err
returns-in_err-back-clause-err g c = err-from c.from_residual.result IsRefusal c.in_err-back.field-0.0 c.from_residual.ensures.1 c.in_err-back.ensures.err

pub returns-in-None-clause-called : goal.returns-in-None-clause-called
returns-in-None-clause-called g c =
    let asks = DeviceDoes g.D.BlockDev.state g.D.BlockDev.does in
    let does = DeviceDoes g.H.BlockDev.state g.H.BlockDev.does in
    both-nothing asks does c.args.image.now

pub returns-in_err-back-clause-called : goal.returns-in_err-back-clause-called
returns-in_err-back-clause-called g c = c.restore.ensures.called

pub returns-then-not-back-clause-called : goal.returns-then-not-back-clause-called
returns-then-not-back-clause-called g c = c.restore.ensures.called

pub returns-clause-called : goal.returns-clause-called
returns-clause-called g c = c.restore.ensures.called
