use Rattle.std.proofs.lemmas.Result.{IfErr-weaker, on_ok_weaker}
use Rattle.verity_commands.specs.Diffs.{two_devices}
use Rattle.verity_commands.proofs.CheckedLemmas.{found-end, said-end}
use Rattle.verity_commands.proofs.OpeningLemmas.{err-from}
use Rattle.verity_commands.proofs.checked_diff.check.Goals as goal

pub returns-in_err-found-clause-err : goal.returns-in_err-found-clause-err
returns-in_err-found-clause-err g c =
    let writer = c.say_checked.new.writer in
    let w = two_devices g.D.BlockDev.state c.args.two.now c.say_checked.new.two (g.W.Write.contents c.args.writer.now.inner) (g.W.Write.contents writer.inner) in
    let fault = c.in_err-found.field-0.0 in
    err-from c.from_residual.result _ fault c.from_residual.ensures.1
    (said-end c.args.form.json w c.args.pair.now c.args.form.most writer.failed fault c.in_err-found.ensures.err)

pub returns-clause-ok : goal.returns-clause-ok
returns-clause-ok g c = on_ok_weaker c.end_of.result (λ done. (c.in_ok-found.found, (c.in_ok-found.ensures.ok, done))) c.end_of.ensures.ok

pub returns-clause-err : goal.returns-clause-err
returns-clause-err g c =
    let writer = c.say_checked.new.writer in
    let w = two_devices g.D.BlockDev.state c.args.two.now c.say_checked.new.two (g.W.Write.contents c.args.writer.now.inner) (g.W.Write.contents writer.inner) in
    IfErr-weaker c.end_of.result _ _
    (λ fault ends. found-end c.args.form.json w c.args.pair.now c.args.form.most writer.failed c.in_ok-found.found c.in_ok-found.ensures.ok fault ends)
    c.end_of.ensures.err
