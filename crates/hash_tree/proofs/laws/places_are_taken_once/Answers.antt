use Rattle.hash_tree.proofs.lemmas.LawLemmas.{places-once}
use Rattle.hash_tree.proofs.laws.places_are_taken_once.Goals as goal

pub returns : goal.returns
returns c = places-once
