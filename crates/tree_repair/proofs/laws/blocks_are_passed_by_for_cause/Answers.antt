use Rattle.tree_repair.proofs.ExcuseLemmas.{passed-for}
use Rattle.tree_repair.proofs.laws.blocks_are_passed_by_for_cause.Goals as goal

pub returns : goal.returns
returns c = passed-for
