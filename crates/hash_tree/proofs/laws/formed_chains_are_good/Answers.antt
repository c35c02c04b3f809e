use Rattle.hash_tree.proofs.FormedLemmas.{formed-good}
use Rattle.hash_tree.proofs.laws.formed_chains_are_good.Goals as goal

pub returns : goal.returns
returns c = formed-good
