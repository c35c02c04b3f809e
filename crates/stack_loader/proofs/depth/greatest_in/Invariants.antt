use Rattle.std.proofs.Common.{◌≡◌, max, map, drop}
use Rattle.std.specs.List.{enumerate_from}
use Rattle.stack_rules.specs.Descend.{greatest}
use Rattle.stack_loader.specs.Depths.{value_in, greatest_in}
use Rattle.stack_loader.proofs.depth.greatest_in.Given as goal

abbrev pub invariant-loop-d : goal.invariant-loop-d
invariant-loop-d l = max l.greatest (greatest (map (value_in l.set) (enumerate_from l.d (drop l.d l.values)))) ≡ greatest_in l.set l.values
