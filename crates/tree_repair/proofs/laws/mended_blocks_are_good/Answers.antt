use Rattle.tree_repair.proofs.LawLemmas.{mended-good}
use Rattle.tree_repair.proofs.laws.mended_blocks_are_good.Goals as goal

pub returns : goal.returns
returns c = mended-good
