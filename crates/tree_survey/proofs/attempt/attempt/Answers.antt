use Rattle.std.proofs.lemmas.Bool.{false≢true}
use Rattle.tree_survey.proofs.FailingLemmas.{over-err, over-ok, sectors-read}
use Rattle.tree_survey.proofs.attempt.attempt.Goals as goal

pub returns-in-Ok-clause-over : goal.returns-in-Ok-clause-over
returns-in-Ok-clause-over g c = over-ok _ _ _ (rw c.in-Ok.is at c.read.ensures.moved)

pub returns-in-Err-clause-over : goal.returns-in-Err-clause-over
returns-in-Err-clause-over g c = over-err _ _ _ (rw c.in-Err.is at c.read.ensures.moved) (rw c.in-Err.is at c.read.ensures.fault, λ never. false≢true (rw c.in-Err.is at c.read.ensures.sure never))

pub returns-in-Ok-clause-ends : goal.returns-in-Ok-clause-ends
returns-in-Ok-clause-ends g c = sectors-read _ _ c.args.first c.args.out.now c.read.new.out c.read.auto.out (rw c.in-Ok.is at c.read.ensures.moved) (rw c.in-Ok.is at c.read.ensures.bytes)

pub returns-in-Err-clause-ends : goal.returns-in-Err-clause-ends
returns-in-Err-clause-ends g c = (rw c.in-Err.is at c.read.ensures.fault, λ never. false≢true (rw c.in-Err.is at c.read.ensures.sure never))
