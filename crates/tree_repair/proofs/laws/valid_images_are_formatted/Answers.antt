use Rattle.tree_repair.proofs.ValidLemmas.{valid-formatted}
use Rattle.tree_repair.proofs.laws.valid_images_are_formatted.Goals as goal

pub returns : goal.returns
returns c = valid-formatted c.formed_chains_are_good.ensures
