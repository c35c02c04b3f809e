use Rattle.std.proofs.Common.{refl}
use Rattle.tree_survey.proofs.FailingLemmas.{block-tried}
use Rattle.tree_survey.proofs.attempt.read_block.Goals as goal

pub returns-clause-ends : goal.returns-clause-ends
returns-clause-ends g c = block-tried _ _ _ _ _ _ c.attempt.result refl c.attempt.auto.out c.attempt.ensures.ends
