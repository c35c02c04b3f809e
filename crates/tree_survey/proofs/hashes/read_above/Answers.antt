use Rattle.std.proofs.Common.{◌+◌, refl, ◌∙◌}
use Rattle.tree_survey.proofs.FailingLemmas.{over-none}
use Rattle.tree_survey.proofs.HashLemmas.{above-none, above-read, above-unread}
use Rattle.tree_survey.proofs.hashes.read_above.Goals as goal

pub returns-then-level-levels-clause-over : goal.returns-then-level-levels-clause-over
returns-then-level-levels-clause-over g c = over-none (g.H.BlockDev.state c.args.device.now)

pub returns-then-level-levels-clause-ends : goal.returns-then-level-levels-clause-ends
returns-then-level-levels-clause-ends g c = above-none c.args.path.now (g.H.BlockDev.state c.args.device.now) c.args.level c.args.index (c.if-level-levels.true ∙ c.levels.ensures)

pub returns-in-Some-clause-ends : goal.returns-in-Some-clause-ends
returns-in-Some-clause-ends g c =
    above-read c.args.path.now c.load.new.path (g.H.BlockDev.state c.args.device.now) (g.H.BlockDev.state c.load.new.device) c.args.index (c.args.level + 1) c.args.level refl c.in-Some.field-0 (rw c.in-Some.is at c.load.ensures.ends)

pub returns-in-None-clause-ends : goal.returns-in-None-clause-ends
returns-in-None-clause-ends g c =
    above-unread c.args.path.now c.load.new.path (g.H.BlockDev.state c.args.device.now) (g.H.BlockDev.state c.load.new.device) c.args.index (c.args.level + 1) c.args.level (rw c.in-None.is at c.load.ensures.ends)
