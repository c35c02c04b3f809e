use Rattle.stack_engine.proofs.lemmas.AnsweredLemmas.{ignored-collide}
use Rattle.stack_engine.proofs.laws.ignored_blocks_collide.Goals as goal

pub returns : goal.returns
returns c = ignored-collide
