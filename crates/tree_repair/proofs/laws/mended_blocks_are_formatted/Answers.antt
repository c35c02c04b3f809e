use Rattle.tree_repair.proofs.LawLemmas.{mended-formatted}
use Rattle.tree_repair.proofs.laws.mended_blocks_are_formatted.Goals as goal

pub returns : goal.returns
returns c = mended-formatted c.formed_chains_are_good.ensures
