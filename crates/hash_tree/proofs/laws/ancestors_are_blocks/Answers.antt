use Rattle.tree_shape.proofs.lemmas.ShapeFactLemmas.{ancestor-lt}
use Rattle.hash_tree.proofs.laws.ancestors_are_blocks.Goals as goal

pub returns : goal.returns
returns c = ancestor-lt
