use Rattle.std.proofs.Common.{ℕ, subst, rules}
use Rattle.tree_survey.specs.Pieces.{IsRunRead}
use Rattle.tree_repair.specs.Jobs.{job}
use Rattle.tree_repair.proofs.GoodLemmas.{good-run}
use Rattle.tree_repair.proofs.good_row.good_piece.Goals as goal

pub returns-then-are_digests-clause-good : goal.returns-then-are_digests-clause-good
returns-then-are_digests-clause-good g c =
    let old = g.D.BlockDev.state c.args.data_dev.now in
    let new = g.D.BlockDev.state c.read_run.new.device in
    good-run (job c.args.repair.now) c.args.path.now old new c.args.first c.min-count.result c.read_run.new.digests
    (subst (λ (n : ℕ). IsRunRead old c.args.repair.now.salt n c.args.first c.read_run.new.digests new) c.data_block-size.ensures.value (c.read_run.ensures.good c.if-not-read_run.false)) (search rules)
    (c.are_digests.ensures c.if-are_digests.true)

pub returns-then-not-read_run-clause-called : goal.returns-then-not-read_run-clause-called
returns-then-not-read_run-clause-called g c = c.read_run.ensures.called

pub returns-then-are_digests-clause-called : goal.returns-then-are_digests-clause-called
returns-then-are_digests-clause-called g c = c.read_run.ensures.called

pub returns-clause-called : goal.returns-clause-called
returns-clause-called g c = c.read_run.ensures.called
