use Rattle.tree_repair.proofs.StandLemmas.{left-good-stand}
use Rattle.tree_repair.proofs.laws.left_good_blocks_stand.Goals as goal

pub returns : goal.returns
returns c = left-good-stand
