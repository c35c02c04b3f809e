use Rattle.stack_engine.proofs.lemmas.AnsweredLemmas.{forged-bytes}
use Rattle.stack_engine.proofs.laws.forged_bytes_collide.Goals as goal

pub returns : goal.returns
returns c = forged-bytes c.forged_blocks_collide.ensures
