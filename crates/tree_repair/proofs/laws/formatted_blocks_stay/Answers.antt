use Rattle.tree_repair.proofs.StayFormedLemmas.{formatted-stay}
use Rattle.tree_repair.proofs.laws.formatted_blocks_stay.Goals as goal

pub returns : goal.returns
returns c = formatted-stay c.formed_chains_are_good.ensures
