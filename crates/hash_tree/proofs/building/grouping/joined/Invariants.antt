use Rattle.std.proofs.Common.{◌≡◌, take}
use Rattle.std.specs.List.{concat}
use Rattle.hash_tree.proofs.building.grouping.joined.Given as goal

-- the digests so far
abbrev pub invariant-loop-digest : goal.invariant-loop-digest
invariant-loop-digest l = l.bytes.items ≡ concat (take l.digest-index l.digests)
