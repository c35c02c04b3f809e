use Rattle.std.proofs.Common.{◌≡◌, ◌++◌, map, drop}
use Rattle.serde_json.specs.View.{view}
use Rattle.partition_commands.specs.Objects.{partitions_json}
use Rattle.partition_commands.proofs.object.partitions_value.Given as goal

-- those so far, and those of the other partitions, are all
abbrev pub invariant-loop-partition : goal.invariant-loop-partition
invariant-loop-partition l = map view l.values.items ++ partitions_json (drop l.partition-index l.partitions) ≡ partitions_json l.partitions
