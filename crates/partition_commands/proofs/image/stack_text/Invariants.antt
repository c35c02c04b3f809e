use Rattle.std.proofs.Common.{◌≡◌, take}
use Rattle.std.specs.List.{flat_map}
use Rattle.partition_commands.specs.Stacks.{partition_entry}
use Rattle.partition_commands.proofs.image.stack_text.Given as goal

-- the entries so far were appended
abbrev pub invariant-loop-partition : goal.invariant-loop-partition
invariant-loop-partition l = l.text.items ≡ flat_map (partition_entry l.writable l.size l.partitions) (take l.partition-index l.partitions)
