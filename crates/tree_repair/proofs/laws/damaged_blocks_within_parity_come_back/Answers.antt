use Rattle.tree_repair.proofs.DamagedLemmas.{damaged-back}
use Rattle.tree_repair.proofs.laws.damaged_blocks_within_parity_come_back.Goals as goal

pub returns : goal.returns
returns c = damaged-back c.formed_chains_are_good.ensures
