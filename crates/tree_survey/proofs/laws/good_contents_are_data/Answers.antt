use Rattle.tree_survey.proofs.LawLemmas.{good-contents}
use Rattle.tree_survey.proofs.laws.good_contents_are_data.Goals as goal

pub returns : goal.returns
returns c = good-contents c.formed_chains_are_good.ensures
