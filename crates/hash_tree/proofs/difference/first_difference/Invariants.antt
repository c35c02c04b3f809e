use Rattle.std.proofs.Common.{◌≡◌, take, map}
use Rattle.hash_tree.proofs.difference.first_difference.Given as goal

abbrev pub invariant-loop-k : goal.invariant-loop-k
invariant-loop-k l = take l.k (map (λ b. b.items) l.a) ≡ take l.k (map (λ b. b.items) l.b)
