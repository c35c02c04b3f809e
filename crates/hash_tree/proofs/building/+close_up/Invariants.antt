use Rattle.std.proofs.Common.{length}
use Rattle.hash_tree.proofs.building.+close_up.Given as goal

abbrev pub decreases-close_up : goal.decreases-close_up
decreases-close_up l = length l.levels.now
