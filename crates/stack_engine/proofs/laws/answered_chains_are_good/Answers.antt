use Rattle.stack_engine.proofs.lemmas.AnsweredLemmas.{answered-good}
use Rattle.stack_engine.proofs.laws.answered_chains_are_good.Goals as goal

pub returns : goal.returns
returns c = answered-good
