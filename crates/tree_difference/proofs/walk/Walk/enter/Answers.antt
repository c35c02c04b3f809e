use Rattle.std.proofs.lemmas.Result.{IfErr-weaker}
use Rattle.tree_difference.proofs.ErrLemmas.{err-from}
use Rattle.tree_difference.proofs.ReportLemmas.{way-first, way-second}
use Rattle.tree_difference.proofs.WalkLemmas.{entering-first, entering-second}
use Rattle.tree_difference.proofs.walk.Walk.enter.Goals as goal

pub returns-in_err-read_down-clause-err : goal.returns-in_err-read_down-clause-err
returns-in_err-read_down-clause-err g c =
    err-from c.from_residual.result _ c.in_err-read_down.field-0.0 c.from_residual.ensures.1
    (entering-first c.args.self.now c.read_down.new.path (g.D.BlockDev.state c.args.first.now) (g.E.BlockDev.state c.args.second.now) (g.D.BlockDev.state c.read_down.new.device) c.args.index c.args.level c.in_err-read_down.field-0.0 c.requires c.in_err-read_down.ensures.err)

pub returns-clause-err : goal.returns-clause-err
returns-clause-err g c =
    IfErr-weaker c.read_down-2.result _ _
    (λ fault cause. entering-second c.args.self.now c.read_down-2.new.path (g.D.BlockDev.state c.args.first.now) (g.E.BlockDev.state c.args.second.now) (g.D.BlockDev.state c.read_down.new.device) (g.E.BlockDev.state c.read_down-2.new.device) c.args.index c.args.level fault c.requires cause)
    c.read_down-2.ensures.err

pub returns-in_err-read_down-clause-way : goal.returns-in_err-read_down-clause-way
returns-in_err-read_down-clause-way g c =
    err-from c.from_residual.result _ c.in_err-read_down.field-0.0 c.from_residual.ensures.1
    (way-first c.args.self.now c.read_down.new.path (g.D.BlockDev.state c.args.first.now) (g.D.BlockDev.state c.read_down.new.device) c.args.index c.args.level c.in_err-read_down.field-0.0 c.in_err-read_down.ensures.err)

pub returns-clause-way : goal.returns-clause-way
returns-clause-way g c =
    IfErr-weaker c.read_down-2.result _ _
    (λ fault cause. way-second c.args.self.now c.read_down-2.new.path (g.E.BlockDev.state c.args.second.now) (g.E.BlockDev.state c.read_down-2.new.device) c.args.index c.args.level fault cause)
    c.read_down-2.ensures.err
