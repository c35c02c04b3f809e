use Rattle.hash_tree.proofs.CollisionLemmas.{difference-collides}
use Rattle.hash_tree.proofs.laws.differences_collide.Goals as goal

pub returns : goal.returns
returns c = difference-collides
