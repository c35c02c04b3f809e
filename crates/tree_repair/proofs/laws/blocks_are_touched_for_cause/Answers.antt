use Rattle.tree_repair.proofs.ExcuseLemmas.{touched-for}
use Rattle.tree_repair.proofs.laws.blocks_are_touched_for_cause.Goals as goal

pub returns : goal.returns
returns c = touched-for
