use Rattle.tree_repair.proofs.CopyReadLemmas.{reads-few}
use Rattle.tree_repair.proofs.laws.reads_are_few.Goals as goal

pub returns : goal.returns
returns c = reads-few
