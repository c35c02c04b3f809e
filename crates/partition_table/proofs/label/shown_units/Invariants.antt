-- The units so far, with those that are left before the first zero, are all of them.
use Rattle.std.proofs.Common.{◌≡◌, ◌++◌, map, drop}
use Rattle.partition_table.specs.Labels.{before_zero, shown_unit}
use Rattle.partition_table.proofs.label.shown_units.Given as goal

abbrev pub invariant-loop-unit : goal.invariant-loop-unit
invariant-loop-unit l = l.shown.items ++ map shown_unit (before_zero (drop l.unit-index l.units)) ≡ map shown_unit (before_zero l.units)
