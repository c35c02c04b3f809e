use Rattle.std.proofs.lemmas.Result.{IfErr-weaker}
use Rattle.tree_difference.specs.declared.fault.Which.TheVariants.{First, Second}
use Rattle.tree_difference.proofs.ErrLemmas.{err-from}
use Rattle.tree_difference.proofs.ReportLemmas.{first-block}
use Rattle.tree_difference.proofs.difference.align.Goals as goal

pub returns-in_err-read_down-clause-first : goal.returns-in_err-read_down-clause-first
returns-in_err-read_down-clause-first g c =
    let fault = c.in_err-read_down.field-0.0 in
    err-from c.from_residual.result _ fault c.from_residual.ensures.1
    (first-block c.args.walk.now.first c.read_down.new.path (g.D.BlockDev.state c.args.first.now) (g.D.BlockDev.state c.read_down.new.device) c.levels-top.result c.args.walk.now.levels First fault c.in_err-read_down.ensures.err)

pub returns-clause-first : goal.returns-clause-first
returns-clause-first g c =
    IfErr-weaker c.read_down-2.result _ _
    (λ fault cause. first-block c.args.walk.now.second c.read_down-2.new.path (g.E.BlockDev.state c.args.second.now) (g.E.BlockDev.state c.read_down-2.new.device) c.levels-top-2.result c.args.walk.now.levels Second fault cause)
    c.read_down-2.ensures.err
