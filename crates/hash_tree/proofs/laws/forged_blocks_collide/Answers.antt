use Rattle.hash_tree.proofs.CollisionLemmas.{forged-collide}
use Rattle.hash_tree.proofs.laws.forged_blocks_collide.Goals as goal

pub returns : goal.returns
returns c = forged-collide
