use Rattle.tree_difference.proofs.LawLemmas.{same-contents}
use Rattle.tree_difference.proofs.laws.same_contents_are_same.Goals as goal

pub returns : goal.returns
returns c = same-contents c.formed_chains_are_good.ensures
