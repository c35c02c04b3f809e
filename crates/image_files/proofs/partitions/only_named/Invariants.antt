use Rattle.std.proofs.Common.{◌≡◌, ◌++◌, drop, filter, option_to_list}
use Rattle.command_line.specs.FilePlaces.{named_partition_record}
use Rattle.image_files.specs.Partitions.{is_named, only_named, single}
use Rattle.image_files.proofs.partitions.only_named.Given as goal

-- the one found so far, with those that are named of the rest, are all
abbrev pub invariant-loop-partition : goal.invariant-loop-partition
invariant-loop-partition l =
    single (option_to_list l.found ++ filter (is_named (named_partition_record l.named)) (drop l.partition-index l.partitions)) ≡ only_named (named_partition_record l.named) l.partitions
