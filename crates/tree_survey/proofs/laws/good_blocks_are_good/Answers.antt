use Rattle.tree_survey.proofs.LawLemmas.{good-blocks}
use Rattle.tree_survey.proofs.laws.good_blocks_are_good.Goals as goal

pub returns : goal.returns
returns c = good-blocks
