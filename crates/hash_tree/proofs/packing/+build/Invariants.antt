use Rattle.std.proofs.Common.{length}
use Rattle.hash_tree.proofs.packing.+build.Given as goal

abbrev pub decreases-build : goal.decreases-build
decreases-build l = length l.digests.now
