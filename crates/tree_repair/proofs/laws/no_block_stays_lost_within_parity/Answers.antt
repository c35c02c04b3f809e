use Rattle.tree_repair.proofs.NoneLostLemmas.{none-stays}
use Rattle.tree_repair.proofs.laws.no_block_stays_lost_within_parity.Goals as goal

pub returns : goal.returns
returns c = none-stays c.formed_chains_are_good.ensures
