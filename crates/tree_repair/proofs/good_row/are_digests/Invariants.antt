use Rattle.std.proofs.Common.{◌≡◌, ◌<◌, ◌+◌, ℕ, List, get_or}
use Rattle.tree_path.specs.Path.{digest_on}
use Rattle.tree_repair.proofs.good_row.are_digests.Given as goal

-- the digests so far
abbrev pub invariant-digests : goal.invariant-digests
invariant-digests l = (k : ℕ) → k < l.k → (d : List ℕ) → get_or l.digests k d ≡ digest_on l.path (l.first + k) 0
