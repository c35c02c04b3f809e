use Rattle.std.proofs.Common.{ℕ, subst}
use Rattle.block_device.specs.Device.{Device}
use Rattle.tree_path.specs.Steps.{IsDown, IsStopped, steps}
use Rattle.tree_survey.specs.Paths.{IsWayCutOff}
use Rattle.tree_survey.proofs.UnusedLemmas.{read-all, read-cut, read-stopped}
use Rattle.tree_survey.proofs.unused.read_down.Goals as goal

pub returns-in-All-clause-down : goal.returns-in-All-clause-down
returns-in-All-clause-down g c =
    let d : Device = g.H.BlockDev.state c.args.device.now in
    let d' : Device = g.H.BlockDev.state c.descend.new.device in
    read-all c.args.path.now c.descend.new.path d d' c.args.index
    (subst (λ (n : ℕ). IsDown (steps c.args.path.now c.descend.new.path d d' c.args.index n) 0 0) c.levels-levels.ensures (rw c.in-All.is at c.descend.ensures.ends))

pub returns-in-Bad-clause-down : goal.returns-in-Bad-clause-down
returns-in-Bad-clause-down g c =
    let d : Device = g.H.BlockDev.state c.args.device.now in
    let d' : Device = g.H.BlockDev.state c.descend.new.device in
    read-stopped c.args.path.now c.descend.new.path d d' c.args.index c.in-Bad.level
    (subst (λ (n : ℕ). IsStopped (steps c.args.path.now c.descend.new.path d d' c.args.index n) 0 c.in-Bad.level) c.levels-levels.ensures (rw c.in-Bad.is at c.descend.ensures.ends))

pub returns-in-Unread-clause-down : goal.returns-in-Unread-clause-down
returns-in-Unread-clause-down g c =
    let d : Device = g.H.BlockDev.state c.args.device.now in
    let d' : Device = g.H.BlockDev.state c.descend.new.device in
    read-cut c.args.path.now c.descend.new.path d d' c.args.index c.in-Unread.level
    (subst (λ (n : ℕ). IsWayCutOff (steps c.args.path.now c.descend.new.path d d' c.args.index n) c.in-Unread.level) c.levels-levels.ensures (rw c.in-Unread.is at c.descend.ensures.ends))
