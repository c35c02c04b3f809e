use Rattle.tree_repair.proofs.LawLemmas.{none-lost}
use Rattle.tree_repair.proofs.laws.no_hash_block_is_lost.Goals as goal

pub returns : goal.returns
returns c = none-lost c.formed_chains_are_good.ensures
