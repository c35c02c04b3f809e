use Rattle.std.proofs.Common.{◌≡◌, ◌≤◌, ◌-◌, length, take, false}
use Rattle.hash_tree.specs.Building.{IsPushed}
use Rattle.hash_tree.proofs.building.LevelBuilder.push_many.Given as goal

-- the digests pushed so far, and the blocks that they completed
abbrev pub invariant-loop-done : goal.invariant-loop-done
invariant-loop-done l = record {
  well : l.fn.self.failed ≡ false;
  few : l.done ≤ length l.digests;
  pushed : IsPushed l.fn.self (take l.done l.digests) l.self l.fn.out.items l.out.items;
}

abbrev pub decreases-loop-done : goal.decreases-loop-done
decreases-loop-done l = length l.digests - l.done
