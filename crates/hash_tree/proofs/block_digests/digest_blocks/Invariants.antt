use Rattle.std.proofs.Common.{◌≡◌, ◌*◌, take, map}
use Rattle.tree_shape.specs.Digests.{digest}
use Rattle.hash_tree.specs.Tree.{cut}
use Rattle.hash_tree.proofs.block_digests.digest_blocks.Given as goal

-- the digests of the groups so far
abbrev pub invariant-loop-g : goal.invariant-loop-g
invariant-loop-g l = take (8 * l.g) l.out ≡ map (digest l.salt) (take (8 * l.g) (cut l.size l.blocks))

-- the digests of the blocks so far
abbrev pub invariant-loop-i : goal.invariant-loop-i
invariant-loop-i l = take l.i l.out ≡ map (digest l.salt) (take l.i (cut l.size l.blocks))
