use Rattle.std.proofs.Common.{◌≡◌, false, take}
use Rattle.std.specs.List.{list_any}
use Rattle.partition_commands.specs.Names.{is_taken_by}
use Rattle.partition_commands.proofs.names.is_taken.Given as goal

-- none of the partitions so far has the name
abbrev pub invariant-loop-partition : goal.invariant-loop-partition
invariant-loop-partition l = list_any (is_taken_by l.number l.name) (take l.partition-index l.partitions) ≡ false
