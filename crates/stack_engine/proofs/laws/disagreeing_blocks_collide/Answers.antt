use Rattle.stack_engine.proofs.lemmas.DamagedLemmas.{digest-collides}
use Rattle.stack_engine.proofs.laws.disagreeing_blocks_collide.Goals as goal

pub returns : goal.returns
returns c = λ v own restored differ same. digest-collides v restored own differ same
