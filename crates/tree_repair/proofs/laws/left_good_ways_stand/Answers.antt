use Rattle.tree_repair.proofs.WayLemmas.{left-good-ways}
use Rattle.tree_repair.proofs.laws.left_good_ways_stand.Goals as goal

pub returns : goal.returns
returns c = left-good-ways
