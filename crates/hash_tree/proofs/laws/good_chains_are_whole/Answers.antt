use Rattle.hash_tree.proofs.ChainLemmas.{good-whole}
use Rattle.hash_tree.proofs.laws.good_chains_are_whole.Goals as goal

pub returns : goal.returns
returns c = good-whole
