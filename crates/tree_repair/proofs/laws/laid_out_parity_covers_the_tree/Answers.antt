use Rattle.tree_repair.proofs.LaidOutLemmas.{laid-out-covers}
use Rattle.tree_repair.proofs.laws.laid_out_parity_covers_the_tree.Goals as goal

pub returns : goal.returns
returns c = laid-out-covers
