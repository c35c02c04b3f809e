use Rattle.tree_repair.proofs.WithinParityLemmas.{within-parity}
use Rattle.tree_repair.proofs.laws.lost_blocks_within_parity_come_back.Goals as goal

pub returns : goal.returns
returns c = within-parity c.formed_chains_are_good.ensures
