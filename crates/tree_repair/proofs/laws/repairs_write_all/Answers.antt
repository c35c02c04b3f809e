use Rattle.tree_repair.proofs.StandLemmas.{repairs-write}
use Rattle.tree_repair.proofs.laws.repairs_write_all.Goals as goal

pub returns : goal.returns
returns c = repairs-write
