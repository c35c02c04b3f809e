use Rattle.std.proofs.Common.{◌≡◌, ◌*◌, ◌/◌, take, true}
use Rattle.hash_tree.specs.Building.{IsPushed, is_between}
use Rattle.hash_tree.proofs.building.LevelBuilder.push_group.Given as goal

-- the blocks of digests pushed so far, and what they completed
abbrev pub invariant-loop-k : goal.invariant-loop-k
invariant-loop-k l = record {
  between : is_between l.self.levels ≡ true;
  pushed : IsPushed l.fn.self (take (l.fn.self.hash_block / 32 * l.k) l.digests) l.self l.fn.out.items l.out.items;
}
