use Rattle.hash_tree.proofs.lemmas.LawLemmas.{places-inside}
use Rattle.hash_tree.proofs.laws.places_lie_inside.Goals as goal

pub returns : goal.returns
returns c = places-inside
