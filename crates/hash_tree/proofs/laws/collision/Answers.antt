use Rattle.hash_tree.proofs.CollisionLemmas.{found-collides, differing-found}
use Rattle.hash_tree.proofs.laws.collision.Goals as goal

pub returns-clause-collision : goal.returns-clause-collision
returns-clause-collision c =
    found-collides c.args.shape.now c.args.salt.now c.args.root.now c.args.expected.now c.args.got.now c.requires.expected c.requires.got c.collide.result c.collide.ensures.found

pub returns-clause-found : goal.returns-clause-found
returns-clause-found c =
    differing-found c.args.shape.now c.args.salt.now c.args.root.now c.args.expected.now c.args.got.now c.requires.expected c.requires.got c.collide.result c.collide.ensures.none
