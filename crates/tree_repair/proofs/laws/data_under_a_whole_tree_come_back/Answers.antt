use Rattle.tree_repair.proofs.DataBackLemmas.{data-back}
use Rattle.tree_repair.proofs.laws.data_under_a_whole_tree_come_back.Goals as goal

pub returns : goal.returns
returns c = data-back c.formed_chains_are_good.ensures
