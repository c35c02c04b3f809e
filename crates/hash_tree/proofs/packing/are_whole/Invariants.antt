use Rattle.std.proofs.Common.{◌≡◌, All, length, take}
use Rattle.hash_tree.proofs.packing.are_whole.Given as goal

-- the digests so far are whole
abbrev pub invariant-loop-digest : goal.invariant-loop-digest
invariant-loop-digest l = All (λ d. length d ≡ 32) (take l.digest-index l.digests)
