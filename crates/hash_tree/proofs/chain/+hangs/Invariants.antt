use Rattle.std.proofs.Common.{length}
use Rattle.hash_tree.proofs.chain.+hangs.Given as goal

abbrev pub decreases-hangs : goal.decreases-hangs
decreases-hangs l = length l.path.now
