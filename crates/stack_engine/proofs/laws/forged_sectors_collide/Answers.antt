use Rattle.stack_engine.proofs.lemmas.AnsweredLemmas.{forged-sectors}
use Rattle.stack_engine.proofs.laws.forged_sectors_collide.Goals as goal

pub returns : goal.returns
returns c = forged-sectors c.forged_blocks_collide.ensures
