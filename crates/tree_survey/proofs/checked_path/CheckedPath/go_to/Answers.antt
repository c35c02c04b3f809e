use Rattle.std.proofs.Common.{arith}
use Rattle.tree_survey.proofs.GoneLemmas.{gone-cut, gone-down, gone-stayed, gone-stopped}
use Rattle.tree_survey.proofs.checked_path.CheckedPath.go_to.Goals as goal

pub returns-then-top-self-clause-gone : goal.returns-then-top-self-clause-gone
returns-then-top-self-clause-gone g c =
    gone-stayed c.args.self.now (g.H.BlockDev.state c.args.device.now) c.args.index c.top_at-top.result
    c.requires (rw (c.requires.shape, c.levels.ensures) at c.top_at-top.ensures) c.if-top-self.true

pub returns-in-All-clause-gone : goal.returns-in-All-clause-gone
returns-in-All-clause-gone g c =
    rw c.end.ensures
    (gone-down c.args.self.now c.descend.new.path (g.H.BlockDev.state c.args.device.now) (g.H.BlockDev.state c.descend.new.device) c.args.index c.top_at-top.result
    c.requires (rw (c.requires.shape, c.levels.ensures) at c.top_at-top.ensures) (omega (arith, c.if-top-self.false))
    (rw c.in-All.is at c.descend.ensures.ends))

pub returns-in-Bad-clause-gone : goal.returns-in-Bad-clause-gone
returns-in-Bad-clause-gone g c =
    rw c.end-in-Bad.ensures
    (gone-stopped c.args.self.now c.descend.new.path (g.H.BlockDev.state c.args.device.now) (g.H.BlockDev.state c.descend.new.device) c.args.index c.top_at-top.result c.in-Bad.level
    c.requires (rw (c.requires.shape, c.levels.ensures) at c.top_at-top.ensures) (omega (arith, c.if-top-self.false))
    (rw c.in-Bad.is at c.descend.ensures.ends))

pub returns-in-Unread-clause-gone : goal.returns-in-Unread-clause-gone
returns-in-Unread-clause-gone g c =
    rw c.end-in-Unread.ensures
    (gone-cut c.args.self.now c.descend.new.path (g.H.BlockDev.state c.args.device.now) (g.H.BlockDev.state c.descend.new.device) c.args.index c.top_at-top.result c.in-Unread.level
    c.requires (rw (c.requires.shape, c.levels.ensures) at c.top_at-top.ensures) (omega (arith, c.if-top-self.false))
    (rw c.in-Unread.is at c.descend.ensures.ends))
