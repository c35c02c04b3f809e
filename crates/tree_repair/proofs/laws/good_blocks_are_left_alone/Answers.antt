use Rattle.tree_repair.proofs.ExcuseLemmas.{good-left}
use Rattle.tree_repair.proofs.laws.good_blocks_are_left_alone.Goals as goal

pub returns : goal.returns
returns c = good-left
