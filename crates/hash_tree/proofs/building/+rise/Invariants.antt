use Rattle.std.proofs.Common.{length}
use Rattle.hash_tree.proofs.building.+rise.Given as goal

abbrev pub decreases-rise : goal.decreases-rise
decreases-rise l = length l.levels.now
