use Rattle.hash_tree.proofs.CollisionLemmas.{good-collide}
use Rattle.hash_tree.proofs.laws.good_chains_collide.Goals as goal

pub returns : goal.returns
returns c = good-collide
