use Rattle.tree_difference.proofs.LawLemmas.{same-blocks}
use Rattle.tree_difference.proofs.laws.same_blocks_are_same.Goals as goal

pub returns : goal.returns
returns c = same-blocks
