use Rattle.tree_survey.proofs.LawLemmas.{changed-contents}
use Rattle.tree_survey.proofs.laws.changed_contents_differ.Goals as goal

pub returns : goal.returns
returns c = changed-contents c.formed_chains_are_good.ensures
