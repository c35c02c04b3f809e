use Rattle.hash_tree.proofs.lemmas.LawLemmas.{stands-in_shape}
use Rattle.hash_tree.proofs.laws.trees_stand_in_shape.Goals as goal

pub returns : goal.returns
returns c = stands-in_shape
