use Rattle.std.proofs.Common.{take}
use Rattle.tree_repair.specs.ParitySearches.{AreCovered}
use Rattle.tree_repair.proofs.covered.covered_of.Given as goal

-- those so far
abbrev pub invariant-covered : goal.invariant-covered
invariant-covered l = AreCovered l.fn.repair.shape l.layout (take l.bad-index l.blocks) l.covered.items
