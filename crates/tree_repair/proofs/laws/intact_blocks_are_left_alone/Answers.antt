use Rattle.tree_repair.proofs.ExcuseLemmas.{intact-left}
use Rattle.tree_repair.proofs.laws.intact_blocks_are_left_alone.Goals as goal

pub returns : goal.returns
returns c = intact-left c.formed_chains_are_good.ensures
