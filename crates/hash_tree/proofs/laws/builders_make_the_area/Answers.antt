use Rattle.hash_tree.proofs.lemmas.BuildingLemmas.{builds-area}
use Rattle.hash_tree.proofs.laws.builders_make_the_area.Goals as goal

pub returns : goal.returns
returns c = builds-area
