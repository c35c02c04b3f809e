use Rattle.std.proofs.Common.{◌≡◌, take}
use Rattle.dm_table.proofs.table.Bases.try_clone.Given as goal

abbrev pub invariant-loop-base : goal.invariant-loop-base
invariant-loop-base l = l.bases ≡ take l.base-index l.base-items
