use Rattle.std.proofs.Common.{subst, sym}
use Rattle.tree_survey.specs.Hashes.{IsCompared}
use Rattle.tree_survey.proofs.FailingLemmas.{over-then}
use Rattle.tree_survey.proofs.HashLemmas.{compared, compared-none, compared-unread}
use Rattle.tree_survey.proofs.hashes.is_good.Goals as goal

pub returns-then-not-read_above-clause-ends : goal.returns-then-not-read_above-clause-ends
returns-then-not-read_above-clause-ends g c =
    compared-none c.args.path.now c.read_above.new.path (g.H.BlockDev.state c.args.device.now) (g.H.BlockDev.state c.read_above.new.device) c.args.index c.args.level
    (rw c.if-not-read_above.true at c.read_above.ensures.ends)

pub returns-in-Some-clause-over : goal.returns-in-Some-clause-over
returns-in-Some-clause-over g c = over-then c.read_above.ensures.over c.load.ensures.over

pub returns-in-None-clause-over : goal.returns-in-None-clause-over
returns-in-None-clause-over g c = over-then c.read_above.ensures.over c.load.ensures.over

pub returns-in-Some-clause-ends : goal.returns-in-Some-clause-ends
returns-in-Some-clause-ends g c =
    let d = g.H.BlockDev.state c.args.device.now in
    let d' = g.H.BlockDev.state c.read_above.new.device in
    let d'' = g.H.BlockDev.state c.load.new.device in
    subst (IsCompared c.args.path.now c.load.new.path d d'' c.args.level c.args.index) (sym c.both.ensures)
    (compared c.args.path.now c.read_above.new.path c.load.new.path d d' d'' c.args.index c.args.level c.in-Some.stands c.is_unused_zero.result c.requires.level c.read_above.ensures.over
    (rw c.if-not-read_above.false at c.read_above.ensures.ends) (rw c.in-Some.is at c.load.ensures.ends) c.is_unused_zero.ensures)

pub returns-in-None-clause-ends : goal.returns-in-None-clause-ends
returns-in-None-clause-ends g c =
    let d = g.H.BlockDev.state c.args.device.now in
    let d' = g.H.BlockDev.state c.read_above.new.device in
    let d'' = g.H.BlockDev.state c.load.new.device in
    compared-unread c.args.path.now c.read_above.new.path c.load.new.path d d' d'' c.args.index c.args.level c.read_above.ensures.over c.load.ensures.over
    (rw c.if-not-read_above.false at c.read_above.ensures.ends) (rw c.in-None.is at c.load.ensures.ends)
