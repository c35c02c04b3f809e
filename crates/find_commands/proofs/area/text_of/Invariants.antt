-- The bytes so far, with those that are left before the first zero, are all of them.
use Rattle.std.proofs.Common.{◌≡◌, ◌++◌, drop}
use Rattle.partition_table.specs.Labels.{before_zero}
use Rattle.find_commands.proofs.area.text_of.Given as goal

abbrev pub invariant-bytes : goal.invariant-bytes
invariant-bytes l = l.text.items ++ before_zero (drop l.byte-index l.area) ≡ before_zero l.area
