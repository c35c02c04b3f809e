use Rattle.stack_engine.proofs.lemmas.AnsweredLemmas.{forged-collide}
use Rattle.stack_engine.proofs.laws.forged_answers_collide.Goals as goal

pub returns : goal.returns
returns c = forged-collide c.forged_blocks_collide.ensures
