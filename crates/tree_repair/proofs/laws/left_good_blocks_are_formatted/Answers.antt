use Rattle.tree_repair.proofs.StandLemmas.{left-good-formatted}
use Rattle.tree_repair.proofs.laws.left_good_blocks_are_formatted.Goals as goal

pub returns : goal.returns
returns c = left-good-formatted c.formed_chains_are_good.ensures
