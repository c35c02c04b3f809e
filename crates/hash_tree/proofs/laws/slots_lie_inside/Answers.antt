use Rattle.tree_shape.proofs.lemmas.ShapeFactLemmas.{slot-inside}
use Rattle.hash_tree.proofs.laws.slots_lie_inside.Goals as goal

pub returns : goal.returns
returns c = slot-inside
