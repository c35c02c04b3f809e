use Rattle.tree_survey.proofs.LawLemmas.{changed-blocks}
use Rattle.tree_survey.proofs.laws.changed_blocks_differ.Goals as goal

pub returns : goal.returns
returns c = changed-blocks
