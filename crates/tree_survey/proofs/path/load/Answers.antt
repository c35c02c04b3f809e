use Rattle.std.proofs.lemmas.Bool.{false≢true}
use Rattle.tree_survey.proofs.FailingLemmas.{over-full, over-unloaded}
use Rattle.tree_survey.proofs.path.load.Goals as goal

pub returns-in-Ok-clause-over : goal.returns-in-Ok-clause-over
returns-in-Ok-clause-over g c = over-full _ (rw c.in-Ok.is at c.load.ensures.ok).read.full

pub returns-in-Err-clause-over : goal.returns-in-Err-clause-over
returns-in-Err-clause-over g c = over-unloaded _ c.load.ensures.read (rw c.in-Err.is at c.load.ensures.fault) (λ never. false≢true (rw c.in-Err.is at c.load.ensures.sure never))

pub returns-in-Ok-clause-ends : goal.returns-in-Ok-clause-ends
returns-in-Ok-clause-ends g c = rw c.in-Ok.is at c.load.ensures.ok

pub returns-in-Err-clause-ends : goal.returns-in-Err-clause-ends
returns-in-Err-clause-ends g c = (rw c.in-Err.is at c.load.ensures.fault, λ never. false≢true (rw c.in-Err.is at c.load.ensures.sure never))
