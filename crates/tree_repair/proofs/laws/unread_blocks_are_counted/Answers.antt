use Rattle.tree_repair.proofs.ExcuseLemmas.{unread-counted}
use Rattle.tree_repair.proofs.laws.unread_blocks_are_counted.Goals as goal

pub returns : goal.returns
returns c = unread-counted
