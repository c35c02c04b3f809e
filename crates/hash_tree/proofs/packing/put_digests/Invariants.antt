use Rattle.std.proofs.Common.{◌≡◌, ◌*◌, take}
use Rattle.std.specs.List.{concat}
use Rattle.hash_tree.proofs.packing.put_digests.Given as goal

-- the digests written so far
abbrev pub invariant-loop-digest : goal.invariant-loop-digest
invariant-loop-digest l = record {
  end : l.end ≡ 32 * l.digest-index;
  written : take l.end l.out ≡ concat (take l.digest-index l.digests);
}
