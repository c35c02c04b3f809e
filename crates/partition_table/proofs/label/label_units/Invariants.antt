use Rattle.std.proofs.Common.{◌≡◌}
use Rattle.partition_table.specs.Labels.{units_to}
use Rattle.partition_table.proofs.label.label_units.Given as goal

abbrev pub invariant-loop-index : goal.invariant-loop-index
invariant-loop-index l = l.units.items ≡ units_to l.label l.index
