use Rattle.hash_tree.proofs.lemmas.LawLemmas.{levels-least}
use Rattle.hash_tree.proofs.laws.levels_are_least.Goals as goal

pub returns : goal.returns
returns c = levels-least
